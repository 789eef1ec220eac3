-- An accepted graph file holds a graph: edges between its own nodes, each inside one method, fields in range, within the limits, edges ascending. Assumes nothing.
use Rattle.std.specs.Prelude.{◌≡◌, refl, ◌⊎◌, ℕ, suc, ◌+◌, ◌-◌, ◌≤◌, ◌<◌, T, eqb, length, get_or}
use Rattle.std.proofs.Common.{sym, subst, subst₂, ◌∙◌, inl, inr, zero-add, arith, eqb→eq}
use Rattle.std.proofs.Math.Path.{ap}
use mathlib.Core.List.{List, Memᴰ}
use Rattle.std.proofs.Math.Option.{none}
use Rattle.files.specs.Basics.Lexical.{Before, says_before}
use Rattle.files.specs.Basics.Says.{says_eq, says_or, says_sure}
use Rattle.files.specs.Basics.Tables.{length_table, getD_table, table_e, tally_le, tally_down, tally_both}
use Rattle.files.specs.Basics.Tests.{eq_eqb, one, below}
use Rattle.files.specs.Decode.{to_node, to_edge, decode_graph, key, Filed}
use Rattle.files.specs.Graph.{Node, Edge, Flow, node, size, no_edge}
use Rattle.files.specs.Decode.AnyFile.{none_applies}
use Rattle.files.specs.Record.{record_at, kind_at, count}
use Rattle.files.specs.Refusal.{graph, of_kind, nodes_of, edges_of, edge_key, method_at, refusal}
use Rattle.files.specs.Table.{Misplaced}
use Rattle.files.specs.declared.record.Limits.{Limits}

-- one of two kinds
pub one_kind : (x : ℕ) → (x ≡ 1) ⊎ (x ≡ 2) → one (eqb x 1) + one (eqb x 2) ≡ 1
one_kind x (inl e) = subst (λ (y : ℕ). one (eqb y 1) + one (eqb y 2) ≡ 1) (sym e) refl
one_kind x (inr e) = subst (λ (y : ℕ). one (eqb y 1) + one (eqb y 2) ≡ 1) (sym e) refl

-- where no record is out of place, the nodes are the first records, the edges all others
module _ (l : List ℕ) (in_place : (i : ℕ) → i < count l → Misplaced graph l i → ⊥) where
  pub either_kind : (i : ℕ) → i < count l → (kind_at l i ≡ 1) ⊎ (kind_at l i ≡ 2)
  either_kind i h = says_sure (says_or (says_eq (kind_at l i) 1) (says_eq (kind_at l i) 2)) (λ f. in_place i h (inl f))

  down : (i j : ℕ) → j < i → i < count l → T (of_kind l 1 i) → T (of_kind l 1 j)
  down i j m h t = go (either_kind j (omega arith))
    where
      go : (kind_at l j ≡ 1) ⊎ (kind_at l j ≡ 2) → T (of_kind l 1 j)
      go (inl e) = eq_eqb (kind_at l j) 1 e
      go (inr e) = absurd (in_place i h (inr (eqb→eq (kind_at l i) 1 t, (j, m, e))))

  pub nodes_first : (i : ℕ) → i < nodes_of l → kind_at l i ≡ 1
  nodes_first i h = eqb→eq (kind_at l i) 1 ((tally_down (of_kind l 1) (count l) down i (omega (arith, tally_le (of_kind l 1) (count l)))).1 h)

  pub edges_after : (i : ℕ) → nodes_of l ≤ i → i < count l → kind_at l i ≡ 2
  edges_after i h k = go (either_kind i k)
    where
      go : (kind_at l i ≡ 1) ⊎ (kind_at l i ≡ 2) → kind_at l i ≡ 2
      go (inl e) = absurd (omega (arith, (tally_down (of_kind l 1) (count l) down i k).0 (eq_eqb (kind_at l i) 1 e)))
      go (inr e) = e

  pub edges_rest : edges_of l ≡ count l - nodes_of l
  edges_rest = omega (arith, tally_both (of_kind l 1) (of_kind l 2) (count l) (λ i h. one_kind (kind_at l i) (either_kind i h)))

module _ (L : Limits) (l : List ℕ) (accepted : refusal L graph l ≡ none) where
  in_place : (i : ℕ) → i < count l → Misplaced graph l i → ⊥
  in_place i h m = none_applies L graph l accepted 2 i (h, m)

  pub placed : (i : ℕ) → i < count l → (kind_at l i ≡ 1) ⊎ (kind_at l i ≡ 2)
  placed = either_kind l in_place

  -- the nodes are the first records, the edges all others
  pub is_node : (i : ℕ) → i < nodes_of l → kind_at l i ≡ 1
  is_node = nodes_first l in_place

  pub is_edge : (i : ℕ) → nodes_of l ≤ i → i < count l → kind_at l i ≡ 2
  is_edge = edges_after l in_place

  pub few : nodes_of l ≤ count l
  few = tally_le (of_kind l 1) (count l)

  pub edges_count : edges_of l ≡ count l - nodes_of l
  edges_count = edges_rest l in_place

  -- what the table says of an edge record
  from_below : (i : ℕ) → nodes_of l ≤ i → i < count l → (record_at l i).first < nodes_of l
  from_below i h k = below _ _ (λ x. none_applies L graph l accepted 7 i (k, (is_edge i h k, inl x)))

  to_below : (i : ℕ) → nodes_of l ≤ i → i < count l → (record_at l i).third < nodes_of l
  to_below i h k = below _ _ (λ x. none_applies L graph l accepted 7 i (k, (is_edge i h k, inr x)))

  method_same : (i : ℕ) → nodes_of l ≤ i → i < count l → method_at l (record_at l i).third ≡ method_at l (record_at l i).first
  method_same i h k = says_sure (says_eq _ _) (λ e. none_applies L graph l accepted 8 i (k, (is_edge i h k, (from_below i h k, (to_below i h k, e)))))

  label_small : (i : ℕ) → nodes_of l ≤ i → i < count l → (record_at l i).second < 9
  label_small i h k = below _ _ (λ x. none_applies L graph l accepted 3 i (k, inr (inl (is_edge i h k, inl x))))

  method_from : (i : ℕ) → i < nodes_of l → 0 < (record_at l i).first
  method_from i h = below _ _ (λ x. none_applies L graph l accepted 3 i (omega (arith, few), inl (is_node i h, inl (inl (omega arith)))))

  method_to : (i : ℕ) → i < nodes_of l → (record_at l i).first < 9
  method_to i h = below _ _ (λ x. none_applies L graph l accepted 3 i (omega (arith, few), inl (is_node i h, inl (inr x))))

  in_order : (i : ℕ) → nodes_of l ≤ i → suc i < count l → Before (edge_key (record_at l i)) (edge_key (record_at l (suc i)))
  in_order i h k =
      says_sure (says_before (edge_key (record_at l i)) (edge_key (record_at l (suc i))))
      (λ f. none_applies L graph l accepted 4 (suc i) (k, (is_edge i h (omega arith), (is_edge (suc i) (omega arith) k, f))))

  -- ---- the decoded graph

  abbrev nodeAt : ℕ → Node
  nodeAt i = to_node (record_at l i)

  abbrev edge_at : ℕ → Edge
  edge_at i = to_edge (record_at l i)

  pub decoded_size : size (decode_graph l) ≡ nodes_of l
  unfolding decode_graph
  decoded_size = length_table nodeAt 0 (nodes_of l)

  pub decoded_edges : length (decode_graph l).edges ≡ count l - nodes_of l
  unfolding decode_graph
  decoded_edges = length_table edge_at (nodes_of l) (count l - nodes_of l)

  -- node g is record g
  pub decoded_node : (g : ℕ) → g < nodes_of l → node (decode_graph l) g ≡ to_node (record_at l g)
  unfolding decode_graph
  decoded_node g h = getD_table nodeAt 0 (nodes_of l) g _ h ∙ ap nodeAt (zero-add g)

  -- edge j is the record j after the nodes
  pub decoded_edge : (j : ℕ) → j < count l - nodes_of l → get_or (decode_graph l).edges j no_edge ≡ to_edge (record_at l (nodes_of l + j))
  unfolding decode_graph
  decoded_edge j h = getD_table edge_at (nodes_of l) (count l - nodes_of l) j no_edge h

  pub edge_e : (e : Edge) → Memᴰ e (decode_graph l).edges → (i : ℕ) × (nodes_of l ≤ i) × (i < count l) × (to_edge (record_at l i) ≡ e)
  unfolding decode_graph
  edge_e e m = let r = table_e edge_at (nodes_of l) (count l - nodes_of l) e m in (r.0, r.1, omega (arith, few, r.1, r.2), r.3)

  node_e : (v : Node) → Memᴰ v (decode_graph l).nodes → (i : ℕ) × (i < nodes_of l) × (to_node (record_at l i) ≡ v)
  unfolding decode_graph
  node_e v m = let r = table_e nodeAt 0 (nodes_of l) v m in (r.0, omega (arith, r.2), r.3)

  meth : (g : ℕ) → g < nodes_of l → (node (decode_graph l) g).method ≡ method_at l g
  meth g h = ap (λ (v : Node). v.method) (decoded_node g h)

  pub decoded_flow : Flow (decode_graph l)
  decoded_flow = record { from_node = from_n; to_node = to_n; one_method = one_m }
    where
      from_n : (e : Edge) → Memᴰ e (decode_graph l).edges → e.from < size (decode_graph l)
      from_n e m =
          let r = edge_e e m in
          subst₂ (λ (a b : ℕ). a < b) (ap (λ (x : Edge). x.from) r.3) (sym decoded_size) (from_below r.0 r.1 r.2)

      to_n : (e : Edge) → Memᴰ e (decode_graph l).edges → e.to < size (decode_graph l)
      to_n e m =
          let r = edge_e e m in
          subst₂ (λ (a b : ℕ). a < b) (ap (λ (x : Edge). x.to) r.3) (sym decoded_size) (to_below r.0 r.1 r.2)

      one_m : (e : Edge) → Memᴰ e (decode_graph l).edges → (node (decode_graph l) e.to).method ≡ (node (decode_graph l) e.from).method
      one_m e m =
          let r = edge_e e m in
          subst (λ (x : Edge). (node (decode_graph l) x.to).method ≡ (node (decode_graph l) x.from).method) r.3
          (meth _ (to_below r.0 r.1 r.2) ∙ method_same r.0 r.1 r.2 ∙ sym (meth _ (from_below r.0 r.1 r.2)))

  -- an accepted graph file decodes to a well-formed graph within the limits
  pub decoded_filed : Filed L (decode_graph l)
  decoded_filed = record { flow = decoded_flow; methods = meths; labels = labs; few_nodes = small_n; few_edges = small_e; ascending = asc }
    where
      meths : (v : Node) → Memᴰ v (decode_graph l).nodes → (1 ≤ v.method) × (v.method ≤ 8)
      meths v m =
          let r = node_e v m in
          subst (λ (x : Node). (1 ≤ x.method) × (x.method ≤ 8)) r.2 (method_from r.0 r.1, omega (arith, method_to r.0 r.1))

      labs : (e : Edge) → Memᴰ e (decode_graph l).edges → e.label ≤ 8
      labs e m =
          let r = edge_e e m in
          subst (λ (x : Edge). x.label ≤ 8) r.3 (omega (arith, label_small r.0 r.1 r.2))

      small_n : length (decode_graph l).nodes ≤ L.nodes
      small_n = let a = below (nodes_of l) (suc L.nodes) (λ x. none_applies L graph l accepted 5 0 (refl, inl x)) in omega (arith, decoded_size, a)

      small_e : length (decode_graph l).edges ≤ L.edges
      small_e = let a = below (edges_of l) (suc L.edges) (λ x. none_applies L graph l accepted 5 0 (refl, inr x)) in omega (arith, decoded_edges, edges_count, a)

      asc : (j : ℕ) → suc j < length (decode_graph l).edges → Before (key (get_or (decode_graph l).edges j no_edge)) (key (get_or (decode_graph l).edges (suc j) no_edge))
      asc j h =
          let a : suc j < count l - nodes_of l = omega (arith, decoded_edges) in
          let n : nodes_of l + suc j ≡ suc (nodes_of l + j) = omega arith in
          subst₂ (λ (x y : Edge). Before (key x) (key y)) (sym (decoded_edge j (omega arith))) (sym (decoded_edge (suc j) a ∙ ap edge_at n))
          (in_order (nodes_of l + j) (omega arith) (omega arith))
