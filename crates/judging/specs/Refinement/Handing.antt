-- Laws of handing on a row: candidates as they are found, sifting them, dropping what is left of them, and that edges are matched by the row then.
use Rattle.std.specs.Prelude.{◌≡◌, ◌⊎◌, Bool, true, false, not, ◌&&◌, List, length, get_or}
use Rattle.std.proofs.Math.Path.{refl, subst}
use Rattle.std.proofs.Common.{sym, ap, ◌∙◌, inl, inr, arith, T_not}
use Prim.Native.Nat.{ℕ, ◌+◌, ◌*◌, ◌/◌, ◌≤◌, ◌<◌}
use Rattle.std.proofs.Math.Decide.{ℕ_discrete, dec_lt}
use Rattle.std.proofs.Math.Dec.{T}
use Rattle.files.specs.Basics.Lists.{index_i, index_e}
use Rattle.files.specs.Basics.Tests.{and_i, and_l, and_r, eq_eqb}
use Rattle.files.specs.Cells.{has_bit}
use Rattle.files.specs.Cells.Laws.{bit_byte, cell_agree}
use Rattle.files.specs.Graph.{Graph, Edge, size, no_edge, Flow}
use Rattle.files.specs.Places.{max_edges, max_nodes, line_bytes}
use Rattle.judging.specs.Chains.{Outside}
use Rattle.judging.specs.Chains.Laws.{chained_same}
use Rattle.judging.specs.Places.{cursors_base, heads_base, held_base, neighbours_base, nexts_base}
use Rattle.judging.specs.Refinement.{rel, held, edge, neighbour, follows, comes, labelled_into, Reaches, Neighbours, In, Within, Preceded, Preceding, LostMet, Meets, Sifted, Refining, Shrank, Contained, LabelMatched, NodeMatched, Leading, Candidates}
use Rattle.judging.specs.Refinement.Preparing.{leads_into_i, leads_into_e, leads_to_i}
use Rattle.files.specs.Graph.Ends.{from_in, to_in}
use Rattle.judging.specs.Simulation.{related}
use Rattle.judging.specs.Simulation.Laws.{related_e, related_simulation}

-- ---- predecessors, and nodes without a match, added part by part

module _ (w c : List ℕ) where
  pub preceded_none : (m : List ℕ) (a : ℕ) → Preceded w c m m a a
  preceded_none m a = record { grown = λ x b t. t; added = λ h x p q b. absurd (omega arith) }

  pub preceded_on : (m m' m'' : List ℕ) (a b d : ℕ) → Preceded w c m m' a b → Preceded w c m' m'' b d → Preceded w c m m'' a d
  preceded_on m m' m'' a b d x y = record { grown = λ k i t. y.grown k i (x.grown k i t); added = λ h k p q i s t. go h k p q i s t (dec_lt h b) }
    where
      go : (h k : ℕ) → a ≤ h → h < d → k < max_nodes → In c h → T (comes w h k) → Dec (h < b) → In m'' k
      go h k p q i s t (yes z) = y.grown k i (x.added h k p z i s t)
      go h k p q i s t (no z) = y.added h k (omega arith) q i s t

module _ (w : List ℕ) (l : ℕ) (r c : List ℕ) where
  pub sifted_none : (d : List ℕ) (a : ℕ) → Sifted w l r c d d a a
  sifted_none d a = record { grown = λ x b t. t; unmet = λ x b t. inl t; met = λ x p q. absurd (omega arith) }

  pub sifted_on : (d d' d'' : List ℕ) (a b e : ℕ) → e ≤ 256 → Sifted w l r c d d' a b → Sifted w l r c d' d'' b e → Sifted w l r c d d'' a e
  sifted_on d d' d'' a b e few y z = record { grown = λ x m t. z.grown x m (y.grown x m t); unmet = λ x m t. both x m (z.unmet x m t); met = λ x p q t f. go x p q t f (dec_lt x b) }
    where
      both : (x : ℕ) → x < max_nodes → In d' x ⊎ (Meets w l r x → ⊥) → In d x ⊎ (Meets w l r x → ⊥)
      both x m (inl t) = y.unmet x m t
      both x m (inr f) = inr f

      go : (x : ℕ) → a ≤ x → x < e → In c x → (In d'' x → ⊥) → Dec (x < b) → Meets w l r x
      go x p q t f (yes h) = y.met x p h t (λ i. f (z.grown x (omega arith) i))
      go x p q t f (no h) = z.met x (omega arith) q t f

-- ---- what a match is

module _ (H : Graph) (fk : Flow H) (fh : size H ≤ max_nodes) (w : List ℕ) (near : Neighbours H (size H) w) (r : List ℕ) (l : ℕ) (hl : l < 9) where
  pub meets_reaches : (h : ℕ) → h < size H → Meets w l r h → Reaches H (In r) h l
  meets_reaches h hh m =
      let d = leads_into_e H m.0 l h (subst T (near.successors h l m.0 hh hl m.1) m.3) in
      (d.0, d.1, d.2, d.3, subst (In r) (sym d.4) m.2)

  pub reaches_meets : (h : ℕ) → h < size H → Reaches H (In r) h l → Meets w l r h
  reaches_meets h hh d =
      let y = (edge H d.0).to in
      let b : y < size H = to_in H fk d.0 d.1 in
      (y, omega (arith, b), d.4, subst T (sym (near.successors h l y hh hl (omega (arith, b)))) (leads_into_i H y l h (d.0, d.1, d.2, d.3, refl)))

  -- where a row m has every node with an edge into the row, nodes of a that it has not are without a match, and the others are asked
  pub sifted_near : (a c d₀ z d m : List ℕ) → Within (size H) a → Preceding H r m → ((x : ℕ) → x < max_nodes → has_bit d₀ 0 x ≡ (has_bit a 0 x && not (has_bit m 0 x)))
      → ((x : ℕ) → x < max_nodes → has_bit c 0 x ≡ (has_bit a 0 x && has_bit m 0 x)) → ((x : ℕ) → x < max_nodes → In z x → ⊥) → Sifted w l r c d₀ d 0 256 → Sifted w l r a z d 0 256
  sifted_near a c d₀ z d m inside all out kept none s = record { grown = λ x b t. absurd (none x b t); unmet = λ x b t. inr (go x b (s.unmet x b t)); met = λ x p b t f. asked x b t f (has_bit m 0 x) refl }
    where
      with_match : (x : ℕ) → x < size H → Meets w l r x → In m x
      with_match x hx k =
          let e = leads_into_e H k.0 l x (subst T (near.successors x l k.0 hx hl k.1) k.3) in
          all k.0 x (omega (arith, to_in H fk e.0 e.1, e.4)) (omega arith) k.2 (leads_to_i H k.0 x (e.0, e.1, e.2, e.4))

      go : (x : ℕ) → x < max_nodes → In d₀ x ⊎ (Meets w l r x → ⊥) → Meets w l r x → ⊥
      go x b (inr f) k = f k
      go x b (inl t) k =
          let i = subst T (out x b) t in
          T_not (has_bit m 0 x) (and_r (has_bit a 0 x) (not (has_bit m 0 x)) i) (with_match x (inside x b (and_l (has_bit a 0 x) (not (has_bit m 0 x)) i)) k)

      asked : (x : ℕ) → x < max_nodes → In a x → (In d x → ⊥) → (q : Bool) → has_bit m 0 x ≡ q → Meets w l r x
      asked x b t f true e = s.met x (omega arith) b (subst T (sym (kept x b)) (and_i (has_bit a 0 x) (has_bit m 0 x) t (subst T (sym e) tt))) f
      asked x b t f false e = absurd (f (s.grown x b (subst T (sym (out x b)) (and_i (has_bit a 0 x) (not (has_bit m 0 x)) t (subst (λ (q : Bool). T (not q)) (sym e) tt)))))

-- ---- dropping

module _ (G H : Graph) where
  pub shrank_none : (w : List ℕ) → Refining G H w → Shrank G H w w
  shrank_none w r = record { refining = r; rel_less = λ g h a b t. t; held_kept = λ g h a b. refl }

  pub shrank_on : (u v w : List ℕ) → Shrank G H u v → Shrank G H v w → Shrank G H u w
  shrank_on u v w x y = record { refining = y.refining; rel_less = λ g h a b t. x.rel_less g h a b (y.rel_less g h a b t); held_kept = λ g h a b. y.held_kept g h a b ∙ x.held_kept g h a b }

module _ (G H : Graph) (fl : Flow G) (fk : Flow H) (fg : size G ≤ max_nodes) (fh : size H ≤ max_nodes) (eg : length G.edges ≤ max_edges) where
  -- what is looked up stands past the rows of the relation and of what is held, and on both sides of the order
  pub looked_up_kept : (w w' : List ℕ) → ((q : ℕ) → heads_base ≤ q → (q < cursors_base) ⊎ (neighbours_base ≤ q) → get_or w' q 0 ≡ get_or w q 0) → length w' ≡ length w → Refining G H w → ((g h : ℕ) → g < size G → h < max_nodes → T (rel w' g h) → T (rel w g h))
      → ((g h : ℕ) → T (related G H g h) → T (rel w' g h)) → Refining G H w'
  looked_up_kept w w' past long x less all = record {
    room = omega (arith, long, x.room);
    by_slot = chained_same w w' heads_base nexts_base (labelled_into G) (9 * size G) (length G.edges) (λ k h. cell_agree w' w heads_base 2 k (λ q a b. past q (omega arith) (inl (omega arith)))) (λ j h. cell_agree w' w nexts_base 2 j (λ q a b. past q (omega arith) (inl (omega arith)))) x.by_slot;
    neighbours = record {
      successors = λ k l y a b c. row_same (10 * k + l) y ∙ x.neighbours.successors k l y a b c;
      predecessors = λ k y a c. row_same (10 * k + 9) y ∙ x.neighbours.predecessors k y a c;
    };
    inside = λ g h a b t. x.inside g h a b (less g h a b t);
    contains = all;
  }
    where
      row_same : (m y : ℕ) → neighbour w' m y ≡ neighbour w m y
      row_same m y = bit_byte w' w (neighbours_base + line_bytes * m) (neighbours_base + line_bytes * m) y (past (neighbours_base + line_bytes * m + y / 8) (omega arith) (inr (omega arith)))

  -- and so does putting the nodes in order
  pub order_beside : (w w' : List ℕ) → Outside cursors_base neighbours_base w w' → length w' ≡ length w → Refining G H w → Refining G H w'
  order_beside w w' o long x = looked_up_kept w w' (λ q l d. o q d) long x (λ g h a b t. subst T (same g h a b) t) (λ g h t. let z = related_e G H fl fk g h t in subst T (sym (same g h z.0 (omega (arith, z.1)))) (x.contains g h t))
    where
      same : (g h : ℕ) → g < size G → h < max_nodes → rel w' g h ≡ rel w g h
      same g h a b = bit_byte w' w (32 * g) (32 * g) h (o (32 * g + h / 8) (inl (omega arith)))

  -- a row dropped from the row of node u, of which the largest simulation has none
  module _ (w w' c : List ℕ) (u : ℕ) (hu : u < size G) (bits : (h : ℕ) → h < max_nodes → rel w' u h ≡ (rel w u h && not (has_bit c 0 h))) (o : Outside (32 * u) (32 * u + 32) w w') (long : length w' ≡ length w)
      (apart : (h : ℕ) → h < max_nodes → In c h → T (related G H u h) → ⊥) (x : Refining G H w) where
    other : (g h : ℕ) → h < max_nodes → (g ≡ u → ⊥) → rel w' g h ≡ rel w g h
    other g h b n = bit_byte w' w (32 * g) (32 * g) h (o (32 * g + h / 8) (side (dec_lt g u)))
      where
        side : Dec (g < u) → (32 * g + h / 8 < 32 * u) ⊎ (32 * u + 32 ≤ 32 * g + h / 8)
        side (yes l) = inl (omega arith)
        side (no l) = inr (omega arith)

    less : (g h : ℕ) → h < max_nodes → T (rel w' g h) → T (rel w g h)
    less g h b t = go (ℕ_discrete g u)
      where
        go : Dec (g ≡ u) → T (rel w g h)
        go (yes e) = subst (λ (m : ℕ). T (rel w m h)) (sym e) (and_l (rel w u h) (not (has_bit c 0 h)) (subst T (bits h b) (subst (λ (m : ℕ). T (rel w' m h)) e t)))
        go (no n) = subst T (other g h b n) t

    all : (g h : ℕ) → T (related G H g h) → T (rel w' g h)
    all g h t = go (ℕ_discrete g u) (has_bit c 0 h) refl
      where
        in_h : h < max_nodes
        in_h = let b = related_e G H fl fk g h t in omega (arith, b.1)

        go : Dec (g ≡ u) → (b : Bool) → has_bit c 0 h ≡ b → T (rel w' g h)
        go (no n) b e = subst T (sym (other g h in_h n)) (x.contains g h t)
        go (yes d) true e = absurd (apart h in_h (subst T (sym e) tt) (subst (λ (m : ℕ). T (related G H m h)) d t))
        go (yes d) false e =
            subst (λ (m : ℕ). T (rel w' m h)) (sym d) (subst T (sym (bits h in_h ∙ ap (λ (b : Bool). rel w u h && not b) e)) (keep (rel w u h) (subst (λ (m : ℕ). T (rel w m h)) d (x.contains g h t))))
          where
            keep : (p : Bool) → T p → T (p && true)
            keep true s = tt
            keep false s = s

    pub row_dropped : Shrank G H w w' × ((h : ℕ) → h < max_nodes → T (rel w' u h) → In c h → ⊥)
    row_dropped = (
      record {
        refining = looked_up_kept w w' (λ q l d. o q (inr (omega arith))) long x (λ g h a b t. less g h b t) all;
        rel_less = λ g h a b t. less g h b t;
        held_kept = λ g h a b. bit_byte w' w (held_base + line_bytes * g) (held_base + line_bytes * g) h (o (held_base + line_bytes * g + h / 8) (inr (omega arith)));
      },
      λ h b t i. T_not (has_bit c 0 h) (and_r (rel w u h) (not (has_bit c 0 h)) (subst T (bits h b) t)) i,
    )

  -- ---- which nodes may be dropped, and what is matched then

  module _ (w : List ℕ) (x : Refining G H w) (v l : ℕ) (hl : l < 9) (r : List ℕ) (cont : Contained G H v r) where
    -- a node of which no edge leads into the row is not related to where an edge with the label comes from that leads to v
    pub unmet_apart : (e h : ℕ) → e < length G.edges → (edge G e).to ≡ v → (edge G e).label ≡ l → (Meets w l r h → ⊥) → T (related G H (edge G e).from h) → ⊥
    unmet_apart e h he to_is Label_is n t =
        let s = related_simulation G H fl fk in
        let a = s.matched (edge G e).from h t (edge G e) (index_e no_edge G.edges e he) refl in
        let d = index_i no_edge H.edges a.0 a.1 in
        n (reaches_meets H fk fh w x.neighbours r l hl h (related_e G H fl fk (edge G e).from h t).1 (
          d.0,
          d.1,
          ap (λ (y : Edge). y.from) d.2 ∙ a.2,
          ap (λ (y : Edge). y.label) d.2 ∙ a.3 ∙ Label_is,
          cont (edge H d.0).to (subst (λ (m : ℕ). T (related G H m (edge H d.0).to)) to_is (subst (λ (m : ℕ). T (related G H (edge G e).to m)) (sym (ap (λ (y : Edge). y.to) d.2)) a.4)),
        ))

    -- once candidates are sifted and the rest is dropped, every edge with the label into v is matched
    pub label_matched : (c d d' w' : List ℕ) → Candidates G H w v l r c → Sifted w l r c d d' 0 256 → Shrank G H w w'
        → ((e h : ℕ) → e < length G.edges → (edge G e).to ≡ v → (edge G e).label ≡ l → h < max_nodes → T (rel w' (edge G e).from h) → In d' h → ⊥) → LabelMatched G H w' v l r
    unfolding LabelMatched
    label_matched c d d' w' k s y none e h he to_is Label_is b t = go (k.complete e h he to_is Label_is b (y.rel_less (edge G e).from h (from_in G fl e he) b t))
      where
        go : In c h ⊎ Reaches H (In r) h l → Reaches H (In r) h l
        go (inr z) = z
        go (inl i) = meets_reaches H fk fh w x.neighbours r l hl h (k.within h b i) (s.met h (omega arith) b i (none e h he to_is Label_is b t))

  -- a label that no edge into v has
  pub label_none : (w : List ℕ) (v l : ℕ) (r : List ℕ) → ((e : ℕ) → e < length G.edges → (edge G e).to ≡ v → (edge G e).label ≡ l → ⊥) → LabelMatched G H w v l r
  unfolding LabelMatched
  label_none w v l r f e h he to_is Label_is b t = absurd (f e he to_is Label_is)

  pub label_kept : (w w' : List ℕ) (v l : ℕ) (r : List ℕ) → Shrank G H w w' → LabelMatched G H w v l r → LabelMatched G H w' v l r
  unfolding LabelMatched
  label_kept w w' v l r y m e h he to_is Label_is b t = m e h he to_is Label_is b (y.rel_less (edge G e).from h (from_in G fl e he) b t)

  -- ---- candidates

  -- what has an edge into a row, by the rows of predecessors
  pub preceding_by : (w r c m : List ℕ) → Refining G H w → Preceded w r c m 0 256 → Preceding H r m
  preceding_by w r c m x y h k hh hk t u = y.added h k (omega arith) (omega arith) hk t (subst T (sym (x.neighbours.predecessors h k hh hk)) u)

  -- what has an edge to what v has lost
  pub lost_met : (w : List ℕ) (v : ℕ) (r lost c m : List ℕ) → Refining G H w → ((h : ℕ) → h < max_nodes → has_bit lost 0 h ≡ (held w v h && not (has_bit r 0 h))) → Preceded w lost c m 0 256 → LostMet H w v r m
  lost_met w v r lost c m x bits y h k hh hk t f u =
      preceding_by w lost c m x y h k hh hk (subst T (sym (bits h (omega arith))) (and_i (held w v h) (not (has_bit r 0 h)) t (off (has_bit r 0 h) f))) u
    where
      off : (p : Bool) → (T p → ⊥) → T (not p)
      off true g = absurd (g tt)
      off false g = tt

  pub lost_kept : (w w' : List ℕ) (v : ℕ) (r m : List ℕ) → v < size G → Shrank G H w w' → LostMet H w v r m → LostMet H w' v r m
  lost_kept w w' v r m hv y z h k hh hk t = z h k hh hk (subst T (y.held_kept v h hv (omega arith)) t)

  -- what the sources are related to, as far as it has an edge to what v has lost
  pub candidates_met : (w : List ℕ) (v l : ℕ) (r m a c : List ℕ) → NodeMatched G H w v → LostMet H w v r m → Within (size H) a
      → ((e h : ℕ) → e < length G.edges → T (labelled_into G (9 * v + l) e) → h < max_nodes → T (rel w (edge G e).from h) → In a h) → ((h : ℕ) → h < max_nodes → has_bit c 0 h ≡ (has_bit a 0 h && has_bit m 0 h)) → Candidates G H w v l r c
  unfolding NodeMatched
  candidates_met w v l r m a c matched met i sources bits = record {
    within = λ h b t. i h b (and_l (has_bit a 0 h) (has_bit m 0 h) (subst T (bits h b) t));
    complete = λ e h he to_is Label_is b t. go e h Label_is b (sources e h he (eq_eqb (9 * (edge G e).to + (edge G e).label) (9 * v + l) (omega arith)) b t) (matched e h he to_is b t);
  }
    where
      go : (e h : ℕ) → (edge G e).label ≡ l → h < max_nodes → In a h → Reaches H (λ (t : ℕ). T (held w v t)) h (edge G e).label → In c h ⊎ Reaches H (In r) h l
      go e h Label_is b p d = split (has_bit r 0 to) refl
        where
          to : ℕ
          to = (edge H d.0).to

          split : (q : Bool) → has_bit r 0 to ≡ q → In c h ⊎ Reaches H (In r) h l
          split true q = inr (d.0, d.1, d.2, d.3 ∙ Label_is, subst T (sym q) tt)
          split false q = inl (subst T (sym (bits h b)) (and_i (has_bit a 0 h) (has_bit m 0 h) p (met to h (to_in H fk d.0 d.1) b d.4 (λ t. subst T q t) (leads_to_i H to h (d.0, d.1, d.2, refl)))))

  -- what v holds, and the matches by it, stay
  pub node_kept : (w w' : List ℕ) (v : ℕ) → v < size G → Shrank G H w w' → NodeMatched G H w v → NodeMatched G H w' v
  unfolding NodeMatched
  node_kept w w' v hv y m e h he to_is b t =
      let d = m e h he to_is b (y.rel_less (edge G e).from h (from_in G fl e he) b t) in
      let z = to_in H fk d.0 d.1 in
      (d.0, d.1, d.2, d.3, subst T (sym (y.held_kept v (edge H d.0).to hv (omega (arith, z)))) d.4)

  -- ---- nodes without an edge of a label

  -- a node without an edge of label l is related to no source of such an edge
  pub lacking_apart : (w : List ℕ) → Refining G H w → (l h : ℕ) → l < 9 → ((y : ℕ) → y < max_nodes → T (follows w h l y) → ⊥) → (e : ℕ) → e < length G.edges → (edge G e).label ≡ l → T (related G H (edge G e).from h) → ⊥
  lacking_apart w x l h hl none e he Label_is t =
      let s = related_simulation G H fl fk in
      let a = s.matched (edge G e).from h t (edge G e) (index_e no_edge G.edges e he) refl in
      let d = index_i no_edge H.edges a.0 a.1 in
      let b : (edge H d.0).to < size H = to_in H fk d.0 d.1 in
      none (edge H d.0).to (omega (arith, b)) (subst T (sym (x.neighbours.successors h l (edge H d.0).to (related_e G H fl fk (edge G e).from h t).1 hl (omega (arith, b))))
      (leads_into_i H (edge H d.0).to l h (d.0, d.1, ap (λ (y : Edge). y.from) d.2 ∙ a.2, ap (λ (y : Edge). y.label) d.2 ∙ a.3 ∙ Label_is, refl)))

  -- once they are dropped, what is left has such an edge
  pub leading_by : (w w' c : List ℕ) (l : ℕ) → l < 9 → Refining G H w → Shrank G H w w' → ((h : ℕ) → h < size H → (In c h → ⊥) → (y : ℕ) × (y < max_nodes) × T (follows w h l y))
      → ((e h : ℕ) → e < length G.edges → (edge G e).label ≡ l → h < max_nodes → T (rel w' (edge G e).from h) → In c h → ⊥) → Leading G H w' l
  unfolding Leading
  leading_by w w' c l hl r y has none e h he Label_is b t =
      let low : h < size H = (y.refining.inside (edge G e).from h (from_in G fl e he) b t).0 in
      let k = has h low (none e h he Label_is b t) in
      let d = leads_into_e H k.0 l h (subst T (r.neighbours.successors h l k.0 low hl k.1) k.2) in
      (d.0, d.1, d.2, d.3, to_in H fk d.0 d.1)

  pub leading_kept : (w w' : List ℕ) (l : ℕ) → Shrank G H w w' → Leading G H w l → Leading G H w' l
  unfolding Leading
  leading_kept w w' l y x e h he Label_is b t = x e h he Label_is b (y.rel_less (edge G e).from h (from_in G fl e he) b t)
