-- Laws of taking a row: what holds once it is handed on and held, for that node and for the others; that the pairs held grow fewer; and that the relation is the largest
-- simulation once no row has lost anything.
use Rattle.std.specs.Prelude.{◌≡◌, ◌⊎◌, Bool, true, false, not, ltb, length}
use Rattle.std.proofs.Math.Path.{refl, subst}
use Rattle.std.proofs.Common.{sym, ap, ◌∙◌, inl, inr, arith, lt→ltb, T_not}
use mathlib.Core.List.{List, Memᴰ}
use Prim.Native.Nat.{ℕ, ◌+◌, ◌*◌, ◌/◌, ◌%◌, ◌≤◌, ◌<◌}
use Rattle.std.proofs.Math.Decide.{ℕ_discrete, dec_lt}
use Rattle.std.proofs.Math.Dec.{T}
use Rattle.files.specs.Basics.Lists.{index_i, index_e}
use Rattle.files.specs.Basics.Tables.{tally_up, tally_more}
use Rattle.files.specs.Basics.Tests.{decide, T_eq}
use Rattle.files.specs.Cells.{has_bit}
use Rattle.files.specs.Cells.Laws.{bit_byte}
use Rattle.files.specs.Graph.{Graph, Edge, size, node, no_edge, Flow}
use Rattle.files.specs.Places.{max_edges, max_nodes, line_bytes}
use Rattle.judging.specs.Chains.{Outside}
use Rattle.judging.specs.Places.{held_base}
use Rattle.judging.specs.Refinement.{rel, held, load, edge, Refining, Shrank, LabelMatched, NodeMatched, Leading, Took, MatchedAt, Matching, Settled}
use Rattle.judging.specs.Refinement.Handing.{looked_up_kept}
use Rattle.files.specs.Graph.Ends.{from_in, to_in}
use Rattle.judging.specs.Simulation.{Simulation, related}
use Rattle.judging.specs.Simulation.Laws.{alike_e, related_e, largest}

module _ (G H : Graph) (fl : Flow G) (fk : Flow H) (fg : size G ≤ max_nodes) (fh : size H ≤ max_nodes) (eg : length G.edges ≤ max_edges) where
  -- ---- one row

  -- the row of v was r; it is handed on, then held
  module _ (v : ℕ) (hv : v < size G) (w w₁ w₂ r : List ℕ) (was : (h : ℕ) → h < max_nodes → has_bit r 0 h ≡ rel w v h) (x : Shrank G H w w₁) (all : (l : ℕ) → l < 9 → LabelMatched G H w₁ v l r)
      (labels : (e : ℕ) → e < length G.edges → (edge G e).label < 9) (now : (h : ℕ) → h < max_nodes → held w₂ v h ≡ has_bit r 0 h) (o : Outside (held_base + line_bytes * v) (held_base + line_bytes * v + line_bytes) w₁ w₂) (long : length w₂ ≡ length w₁) where
    rel_same : (g h : ℕ) → g < size G → h < max_nodes → rel w₂ g h ≡ rel w₁ g h
    rel_same g h a b = bit_byte w₂ w₁ (32 * g) (32 * g) h (o (32 * g + h / 8) (inl (omega arith)))

    other : (g h : ℕ) → g < size G → h < max_nodes → (g ≡ v → ⊥) → held w₂ g h ≡ held w₁ g h
    other g h a b n = bit_byte w₂ w₁ (held_base + line_bytes * g) (held_base + line_bytes * g) h (o (held_base + line_bytes * g + h / 8) (side (dec_lt g v)))
      where
        side : Dec (g < v) → (held_base + line_bytes * g + h / 8 < held_base + line_bytes * v) ⊎ (held_base + line_bytes * v + line_bytes ≤ held_base + line_bytes * g + h / 8)
        side (yes l) = inl (omega arith)
        side (no l) = inr (omega arith)

    matched : NodeMatched G H w₂ v
    unfolding NodeMatched LabelMatched
    matched e h he to_is b t =
        let f = from_in G fl e he in
        let d = all (edge G e).label (labels e he) e h he to_is refl b (subst T (rel_same (edge G e).from h f b) t) in
        let z = to_in H fk d.0 d.1 in
        (d.0, d.1, d.2, d.3, subst T (sym (now (edge H d.0).to (omega (arith, z)))) d.4)

    pub took : Took G H v w w₂
    took = record {
      refining = looked_up_kept G H fl fk fg fh eg w₁ w₂ (λ q l d. o q (inr (omega arith))) long x.refining (λ g h a b t. subst T (rel_same g h a b) t)
          (λ g h t. let b = in_both g h t in subst T (sym (rel_same g h b.0 b.1)) (x.refining.contains g h t));
      rel_less = λ g h a b t. x.rel_less g h a b (subst T (rel_same g h a b) t);
      held_now = λ h b. now h b ∙ was h b;
      held_kept = λ g h a b n. other g h a b n ∙ x.held_kept g h a b;
      matched = matched;
    }
      where
        in_both : (g h : ℕ) → T (related G H g h) → (g < size G) × (h < max_nodes)
        in_both g h t = let b = related_e G H fl fk g h t in (b.0, omega (arith, b.1))

  -- ---- all rows

  -- what holds of a node once the row of v, which may be itself, is taken
  pub at_took : (v u : ℕ) (w w' : List ℕ) → v < size G → u < size G → MatchedAt G H w u → Took G H v w w' → MatchedAt G H w' u
  unfolding NodeMatched
  at_took v u w w' hv hu x y = go (ℕ_discrete u v)
    where
      go : Dec (u ≡ v) → MatchedAt G H w' u
      go (yes e) = subst (MatchedAt G H w') (sym e) (record {
        holding = λ h b t. subst T (sym (y.held_now h b)) (y.rel_less v h hv b t);
        node_matched = y.matched;
      })
      go (no f) = record {
        holding = λ h b t. subst T (sym (y.held_kept u h hu b f)) (x.holding h b (y.rel_less u h hu b t));
        node_matched = λ e h he to_is b t.
            let d = x.node_matched e h he to_is b (y.rel_less (edge G e).from h (from_in G fl e he) b t) in
            (d.0, d.1, d.2, d.3, subst T (sym (y.held_kept u (edge H d.0).to hu (omega (arith, to_in H fk d.0 d.1)) f)) d.4);
      }

  -- node by node
  pub matching_at : (n v : ℕ) (w : List ℕ) → v < n → Matching G H n w → MatchedAt G H w v
  matching_at n v w l x = record { holding = λ h b t. x.holding v h l b t; node_matched = x.node_matched v l }

  pub at_matching : (n : ℕ) (w : List ℕ) → Refining G H w → ((v : ℕ) → v < n → MatchedAt G H w v) → Matching G H n w
  at_matching n w r x = record { refining = r; holding = λ v h l b t. (x v l).holding h b t; node_matched = λ v l. (x v l).node_matched }

  pub matching_on : (v : ℕ) (w w' : List ℕ) → v < size G → Matching G H (size G) w → Took G H v w w' → Matching G H (size G) w'
  matching_on v w w' hv x y = at_matching (size G) w' y.refining (λ u l. at_took v u w w' hv l (matching_at (size G) u w l x) y)

  -- ---- before any row is taken

  -- where every node holds the whole second graph, edges are matched by whatever has their labels
  pub matching_first : (w : List ℕ) → Refining G H w → ((v h : ℕ) → v < size G → h < max_nodes → held w v h ≡ ltb h (size H)) → ((e : ℕ) → e < length G.edges → (edge G e).label < 9) → ((l : ℕ) → l < 9 → Leading G H w l) → Matching G H (size G) w
  unfolding NodeMatched Leading
  matching_first w r whole labels leading = record {
    refining = r;
    holding = λ v h l b t. subst T (sym (whole v h l b)) (lt→ltb h (size H) (r.inside v h l b t).0);
    node_matched = λ v l e h he to_is b t.
        let d = leading (edge G e).label (labels e he) e h he refl b t in
        (d.0, d.1, d.2, d.3, subst T (sym (whole v (edge H d.0).to l (omega (arith, d.4)))) (lt→ltb (edge H d.0).to (size H) d.4));
  }

  -- ---- the pairs held

  module _ (v : ℕ) (w w' : List ℕ) (hv : v < size G) (x : Matching G H (size G) w) (y : Took G H v w w') where
    fewer : (p : ℕ) → p < max_nodes * size G → T (held w' (p / 256) (p % 256)) → T (held w (p / 256) (p % 256))
    fewer p l t = go (ℕ_discrete (p / 256) v)
      where
        go : Dec (p / 256 ≡ v) → T (held w (p / 256) (p % 256))
        go (yes e) =
            x.holding (p / 256) (p % 256) (omega arith) (omega arith)
            (subst (λ (k : ℕ). T (rel w k (p % 256))) (sym e) (subst T (y.held_now (p % 256) (omega arith)) (subst (λ (k : ℕ). T (held w' k (p % 256))) e t)))
        go (no f) = subst T (y.held_kept (p / 256) (p % 256) (omega arith) (omega arith) f) t

    pub load_le : load (size G) w' ≤ load (size G) w
    load_le = tally_up (λ (p : ℕ). held w' (p / 256) (p % 256)) (λ (p : ℕ). held w (p / 256) (p % 256)) (256 * size G) fewer

    pub load_lt : (h : ℕ) → h < max_nodes → T (held w v h) → (T (rel w v h) → ⊥) → load (size G) w' < load (size G) w
    load_lt h b t n =
        let a : (256 * v + h) / 256 ≡ v = omega arith in
        let c : (256 * v + h) % 256 ≡ h = omega arith in
        tally_more (λ (p : ℕ). held w' (p / 256) (p % 256)) (λ (p : ℕ). held w (p / 256) (p % 256)) (256 * v + h) (256 * size G) (omega arith)
        (subst (λ (k : ℕ). T (not (held w' k ((256 * v + h) % 256)))) (sym a) (subst (λ (k : ℕ). T (not (held w' v k))) (sym c) (off (held w' v h) (λ s. n (subst T (y.held_now h b) s)))))
        (subst (λ (k : ℕ). T (held w k ((256 * v + h) % 256))) (sym a) (subst (λ (k : ℕ). T (held w v k)) (sym c) t)) fewer
      where
        off : (p : Bool) → (T p → ⊥) → T (not p)
        off true f = absurd (f tt)
        off false f = tt

  -- ---- the end

  -- where no row has lost anything, the relation is the largest simulation
  pub all_settled : (w : List ℕ) → Matching G H (size G) w → ((v h : ℕ) → v < size G → h < max_nodes → T (held w v h) → T (rel w v h)) → Settled G H w
  unfolding Settled NodeMatched
  all_settled w x none g h hg hh = go (decide (rel w g h)) (decide (related G H g h))
    where
      Near : ℕ → ℕ → Type 0
      Near u v = (u < size G) × (v < max_nodes) × T (rel w u v)

      r : Refining G H w
      r = x.refining

      sim : Simulation G H Near
      sim = record {
        of_first = λ u v y. y.0;
        of_second = λ u v y. (r.inside u v y.0 y.1 y.2).0;
        same_method = λ u v y. (alike_e (node G u) (node H v) (r.inside u v y.0 y.1 y.2).1).0;
        same_ret = λ u v y. (alike_e (node G u) (node H v) (r.inside u v y.0 y.1 y.2).1).1;
        matched = λ u v y e k p. answer u v y e p (index_i no_edge G.edges e k);
      }
        where
          answer : (u v : ℕ) → Near u v → (e : Edge) → e.from ≡ u → (i : ℕ) × (i < length G.edges) × (edge G i ≡ e)
              → (d : Edge) × Memᴰ d H.edges × (d.from ≡ v) × (d.label ≡ e.label) × Near e.to d.to
          answer u v y e p i =
              let f : (edge G i.0).from ≡ u = ap (λ (y : Edge). y.from) i.2 ∙ p in
              let t = to_in G fl i.0 i.1 in
              let d = x.node_matched (edge G i.0).to t i.0 v i.1 refl y.1 (subst (λ (n : ℕ). T (rel w n v)) (sym f) y.2) in
              let k = index_e no_edge H.edges d.0 d.1 in
              let z : (edge H d.0).to < max_nodes = omega (arith, fk.to_node (edge H d.0) k) in
              (edge H d.0, k, d.2, d.3 ∙ ap (λ (z : Edge). z.label) i.2, subst (λ (n : Edge). Near n.to (edge H d.0).to) i.2 (t, z, none (edge G i.0).to (edge H d.0).to t z d.4))

      go : T (rel w g h) ⊎ T (not (rel w g h)) → T (related G H g h) ⊎ T (not (related G H g h)) → rel w g h ≡ related G H g h
      go (inl a) (inl b) = T_eq _ a ∙ sym (T_eq _ b)
      go (inl a) (inr b) = absurd (T_not (related G H g h) b (largest G H fl fk Near sim g h (hg, hh, a)))
      go (inr a) (inl b) = absurd (T_not (rel w g h) a (r.contains g h b))
      go (inr a) (inr b) = off (rel w g h) a ∙ sym (off (related G H g h) b)
        where
          off : (c : Bool) → T (not c) → c ≡ false
          off true t = absurd t
          off false t = refl
