-- The bytes written of a well-formed graph within the limits are an accepted file. Assumes nothing.
use Rattle.std.specs.Prelude.{◌≡◌, refl, Bool, true, false, ℕ, zero, suc, ◌+◌, ◌*◌, ◌≤◌, ◌<◌, length, get_or}
use Rattle.std.proofs.Common.{sym, ap, subst, subst₂, ◌∙◌, inl, inr, arith}
use mathlib.Core.List.{Memᴰ}
use Rattle.std.proofs.Math.Option.{none}
use Rattle.std.proofs.Math.Decide.{dec_lt}
use Rattle.files.specs.Basics.Lexical.{Before}
use Rattle.files.specs.Basics.Lists.{index_e}
use Rattle.files.specs.Basics.Tests.{one}
use Rattle.files.specs.Decode.{Filed, node_rec, edge_rec, graph_recs, graph_bytes}
use Rattle.files.specs.Decode.Written.{length_write, at_node, nodes_bytes, edges_bytes, kind_node, kind_edge, past_nodes}
use Rattle.files.specs.Graph.{Node, Edge, Graph, Flow, node, no_node, size, no_edge}
use Rattle.files.specs.Places.{record_len}
use Rattle.files.specs.Record.{record_at, kind_at, count}
use Rattle.files.specs.Refusal.{graph, edge_key, method_at, refusal}
use Rattle.files.specs.Refusal.Laws.{accepted_iff}
use Rattle.files.specs.Table.{Applies, Wrong, Misplaced, Disordered}
use Rattle.files.specs.declared.record.Limits.{Limits}
use Rattle.files.specs.declared.record.Record.{Record}

one_le : (b : Bool) → 1 < one b → ⊥
one_le true h = omega arith
one_le false h = omega arith

node_right : (v : Node) → 1 ≤ v.method → v.method ≤ 8 → Wrong (node_rec v) → ⊥
node_right v a b (inl (e, inl (inl h))) = omega arith
node_right v a b (inl (e, inl (inr h))) = omega arith
node_right v a b (inl (e, inr (inl h))) = one_le v.ret h
node_right v a b (inl (e, inr (inr (inl h)))) = one_le v.entry h
node_right v a b (inl (e, inr (inr (inr (inl h))))) = h refl
node_right v a b (inl (e, inr (inr (inr (inr h))))) = h refl
node_right v a b (inr (inl h)) = absurd (omega (arith, h.0))
node_right v a b (inr (inr (inl h))) = absurd (omega (arith, h.0))
node_right v a b (inr (inr (inr (inl h)))) = absurd (omega (arith, h.0))
node_right v a b (inr (inr (inr (inr h)))) = absurd (omega (arith, h.0))

edge_right : (e : Edge) → e.label ≤ 8 → Wrong (edge_rec e) → ⊥
edge_right e a (inl h) = absurd (omega (arith, h.0))
edge_right e a (inr (inl (q, inl h))) = omega arith
edge_right e a (inr (inl (q, inr (inl h)))) = h refl
edge_right e a (inr (inl (q, inr (inr h)))) = h refl
edge_right e a (inr (inr (inl h))) = absurd (omega (arith, h.0))
edge_right e a (inr (inr (inr (inl h)))) = absurd (omega (arith, h.0))
edge_right e a (inr (inr (inr (inr h)))) = absurd (omega (arith, h.0))

module _ (L : Limits) (G : Graph) (filed : Filed L G) where
  flow : Flow G
  flow = filed.flow

  edge_in : (j : ℕ) → j < length G.edges → Memᴰ (get_or G.edges j no_edge) G.edges
  edge_in j h = index_e no_edge G.edges j h

  no_ragged : length (graph_bytes G) ≡ record_len * length (graph_recs G)
  unfolding graph_bytes
  no_ragged = length_write (graph_recs G)

  no_misplaced : (i : ℕ) → i < count (graph_bytes G) → Misplaced graph (graph_bytes G) i → ⊥
  no_misplaced i k m = go m (dec_lt i (size G))
    where
      go : Misplaced graph (graph_bytes G) i → Dec (i < size G) → ⊥
      go (inl f) (yes h) = f (inl (kind_node G i h))
      go (inl f) (no h) = f (inr (kind_edge G i (omega arith) k))
      go (inr (e, (j, b, q))) (yes h) = absurd (omega (arith, kind_node G j (omega arith)))
      go (inr (e, (j, b, q))) (no h) = absurd (omega (arith, kind_edge G i (omega arith) k))

  no_wrong : (i : ℕ) → i < count (graph_bytes G) → Wrong (record_at (graph_bytes G) i) → ⊥
  no_wrong i k w = go (dec_lt i (size G))
    where
      go : Dec (i < size G) → ⊥
      go (yes h) =
          let m = filed.methods (node G i) (index_e no_node G.nodes i h) in
          node_right (node G i) m.0 m.1 (subst Wrong (at_node G i h) w)
      go (no h) =
          let p = past_nodes G i (omega arith) k in
          edge_right (get_or G.edges p.0 no_edge) (filed.labels _ (edge_in p.0 p.1)) (subst Wrong p.3 w)

  -- a record of kind 2 is an edge of the graph
  edge_at : (i : ℕ) → i < count (graph_bytes G) → kind_at (graph_bytes G) i ≡ 2 → (j : ℕ) × (j < length G.edges) × (i ≡ size G + j) × (record_at (graph_bytes G) i ≡ edge_rec (get_or G.edges j no_edge))
  edge_at i k e = go (dec_lt i (size G))
    where
      go : Dec (i < size G) → (j : ℕ) × (j < length G.edges) × (i ≡ size G + j) × (record_at (graph_bytes G) i ≡ edge_rec (get_or G.edges j no_edge))
      go (yes h) = absurd (omega (arith, kind_node G i h))
      go (no h) = past_nodes G i (omega arith) k

  no_disordered : (i : ℕ) → i < count (graph_bytes G) → Disordered graph (graph_bytes G) i → ⊥
  no_disordered zero k d = d
  no_disordered (suc i) k (e, (e', f)) =
      let p = edge_at i (omega arith) e in
      let q = edge_at (suc i) k e' in
      let s : q.0 ≡ suc p.0 = omega (arith, p.2, q.2) in
      let c : record_at (graph_bytes G) (suc i) ≡ edge_rec (get_or G.edges (suc p.0) no_edge) = q.3 ∙ ap (λ (n : ℕ). edge_rec (get_or G.edges n no_edge)) s in
      f (subst₂ (λ (x y : Record). Before (edge_key x) (edge_key y)) (sym p.3) (sym c) (filed.ascending p.0 (omega (arith, q.1))))

  method_written : (g : ℕ) → g < size G → method_at (graph_bytes G) g ≡ (node G g).method
  method_written g h = ap (λ (r : Record). r.first) (at_node G g h)

  nothing_applies : (n i : ℕ) → Applies L graph (graph_bytes G) n i → ⊥
  nothing_applies zero i a = a
  nothing_applies (suc zero) i a = a.1 (length (graph_recs G)) no_ragged
  nothing_applies (suc (suc zero)) i a = no_misplaced i a.0 a.1
  nothing_applies (suc (suc (suc zero))) i a = no_wrong i a.0 a.1
  nothing_applies (suc (suc (suc (suc zero)))) i a = no_disordered i a.0 a.1
  nothing_applies (suc (suc (suc (suc (suc zero))))) i (e, inl h) = absurd (omega (arith, nodes_bytes G, filed.few_nodes))
  nothing_applies (suc (suc (suc (suc (suc zero))))) i (e, inr h) = absurd (omega (arith, edges_bytes G, filed.few_edges))
  nothing_applies (suc (suc (suc (suc (suc (suc zero)))))) i a = a.1
  nothing_applies (suc (suc (suc (suc (suc (suc (suc zero))))))) i (k, (e, inl h)) =
      let p = edge_at i k e in
      let c : (record_at (graph_bytes G) i).first ≡ (get_or G.edges p.0 no_edge).from = ap (λ (r : Record). r.first) p.3 in
      absurd (omega (arith, nodes_bytes G, flow.from_node _ (edge_in p.0 p.1)))
  nothing_applies (suc (suc (suc (suc (suc (suc (suc zero))))))) i (k, (e, inr h)) =
      let p = edge_at i k e in
      let c : (record_at (graph_bytes G) i).third ≡ (get_or G.edges p.0 no_edge).to = ap (λ (r : Record). r.third) p.3 in
      absurd (omega (arith, nodes_bytes G, flow.to_node _ (edge_in p.0 p.1)))
  nothing_applies (suc (suc (suc (suc (suc (suc (suc (suc zero)))))))) i (k, (e, (h, (h', f)))) =
      let p = edge_at i k e in
      let m = edge_in p.0 p.1 in
      let t : method_at (graph_bytes G) (record_at (graph_bytes G) i).third ≡ (node G (get_or G.edges p.0 no_edge).to).method =
      ap (λ (r : Record). method_at (graph_bytes G) r.third) p.3 ∙ method_written _ (flow.to_node _ m) in
      let s : method_at (graph_bytes G) (record_at (graph_bytes G) i).first ≡ (node G (get_or G.edges p.0 no_edge).from).method =
      ap (λ (r : Record). method_at (graph_bytes G) r.first) p.3 ∙ method_written _ (flow.from_node _ m) in
      f (t ∙ flow.one_method _ m ∙ sym s)
  nothing_applies (suc (suc (suc (suc (suc (suc (suc (suc (suc n))))))))) i a = a

  pub accepted_bytes : refusal L graph (graph_bytes G) ≡ none
  accepted_bytes = (accepted_iff L graph (graph_bytes G)).1 nothing_applies
