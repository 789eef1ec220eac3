-- For the code that hands rows on, in two accepted files: a walk along the edges of a slot, what it adds and what it drops, bytes that are passed over, and what is matched in the end.
use mathlib.Core.Path.{◌≡◌, refl, sym, ap, subst, ◌∙◌}
use mathlib.Core.Logic.{◌⊎◌, inl, inr}
use mathlib.Core.Bool.{Bool, true, false, not, ◌&&◌, ◌||◌}
use mathlib.Core.List.{List}
use Prim.Native.Nat.{ℕ, ◌+◌, ◌*◌, ◌-◌, ◌/◌, ◌≤◌, ◌<◌}
use native.Mathlib.Decide.{ℕ_discrete}
use native.Mathlib.Omega.{arith}
use lib.Bits.{bit_and}
use lib.Count.{count_trailing_zeros}
use lib.Dec.{T, eqb→eq, ltb}
use lib.ListN.{length, replicate}
use Rattle.files.specs.Basics.Tests.{or_e, or_l, or_r, eq_eqb}
use Rattle.files.specs.Cells.{cell, has_bit, put_bit}
use Rattle.files.specs.Cells.Laws.{zero_byte, zero_bit, bit_byte, bit_same, bit_other}
use Rattle.files.specs.Decode.{decode_graph}
use Rattle.files.specs.Graph.{Graph, size}
use Rattle.files.specs.Places.{line_bytes, max_nodes}
use Rattle.judging.specs.Chains.Laws.{Walk, walk_start, walk_item, walk_turn, walk_less}
use Rattle.judging.specs.Places.{cursors_base, heads_base, held_base, kinds_base, neighbours_base, nexts_base}
use Rattle.judging.specs.declared.sizes.Sizes.{Sizes}
use Rattle.files.specs.Basics.First.{last_where}
use Rattle.judging.specs.Chains.{Outside}
use Rattle.judging.specs.Refinement.{Both, rel, held, load, edge, follows, comes, labelled_into, In, Within, Lacking, Meets, Preceded, Preceding, LostMet, Asked, Sifted, Refining, Shrank, Contained, LabelMatched, NodeMatched, Leading, Candidates, Took, Matching, Settled}
use Rattle.judging.specs.Refinement.Files.{first_size, second_size, first_edges, first_flow, second_flow, first_fits, second_fits, first_edges_fit, first_edge_in}
use Rattle.judging.specs.Refinement.Handing.{looked_up_kept, sifted_near, preceding_by, lost_met, lost_kept, row_dropped, shrank_on, unmet_apart, label_matched, label_none, label_kept, node_kept, order_beside, candidates_met, lacking_apart, leading_by, leading_kept}
use Rattle.judging.specs.Refinement.Taking.{took, matching_on, matching_first, load_le, load_lt, all_settled}
use Rattle.judging.specs.Simulation.{related}
use Rattle.judging.specs.Simulation.Laws.{related_e}
use Rattle.judging.specs.Words.{Left, left_turn, left_none}

-- a row without a bit
pub none_within : (n : ℕ) → Within n (replicate line_bytes 0)
none_within n h b t = absurd (subst T (zero_bit (replicate line_bytes 0) 0 h (zero_byte (replicate line_bytes 0) refl (0 + h / 8))) t)

pub not_off : (b : Bool) → not b ≡ false → T b
not_off true e = tt
not_off false e = subst T e tt

-- a row put where it is held, for one node more
pub held_turn : (w₀ w w' r : List ℕ) (n v : ℕ) → v < max_nodes → ((h : ℕ) → h < max_nodes → has_bit r 0 h ≡ ltb h n) → ((h : ℕ) → h < max_nodes → held w' v h ≡ has_bit r 0 h) → Outside (held_base + line_bytes * v) (held_base + line_bytes * v + line_bytes) w w'
    → ((u h : ℕ) → u < v → h < max_nodes → held w u h ≡ ltb h n) → Outside held_base kinds_base w₀ w → ((u h : ℕ) → u < v + 1 → h < max_nodes → held w' u h ≡ ltb h n) × Outside held_base kinds_base w₀ w'
held_turn w₀ w w' r n v few is put o was out = (λ u h a b. go u h a b (ℕ_discrete u v), beside)
  where
    go : (u h : ℕ) → u < v + 1 → h < max_nodes → Dec (u ≡ v) → held w' u h ≡ ltb h n
    go u h a b (yes e) = subst (λ (k : ℕ). held w' k h ≡ ltb h n) (sym e) (put h b ∙ is h b)
    go u h a b (no f) = bit_byte w' w (held_base + line_bytes * u) (held_base + line_bytes * u) h (o (held_base + line_bytes * u + h / 8) (inl (omega arith))) ∙ was u h (omega arith) b

    beside : Outside held_base kinds_base w₀ w'
    beside q (inl l) = o q (inl (omega arith)) ∙ out q (inl l)
    beside q (inr l) = o q (inr (omega arith)) ∙ out q (inr l)

-- the row of nodes without an edge of a label, one by one
module _ (w : List ℕ) (l : ℕ) where
  pub lacking_none : Lacking w l 0 (replicate line_bytes 0)
  lacking_none = record { without_edge = λ x b t. absurd (let z = none_within 0 x b t in omega (arith, z)); with_edge = λ x b. absurd (omega arith) }

  pub lacking_over : (r : List ℕ) (n : ℕ) → (y : ℕ) × (y < max_nodes) × T (follows w n l y) → Lacking w l n r → Lacking w l (n + 1) r
  lacking_over r n y x = record { without_edge = λ k b t. let z = x.without_edge k b t in (omega (arith, z.0), z.1); with_edge = λ k b f. go k b f (ℕ_discrete k n) }
    where
      go : (k : ℕ) → k < n + 1 → (In r k → ⊥) → Dec (k ≡ n) → (y : ℕ) × (y < max_nodes) × T (follows w k l y)
      go k b f (yes e) = (y.0, y.1, subst (λ (m : ℕ). T (follows w m l y.0)) (sym e) y.2)
      go k b f (no d) = x.with_edge k (omega arith) f

  pub lacking_put : (r r' : List ℕ) (n : ℕ) → 32 ≤ length r → n < max_nodes → r' ≡ put_bit r 0 n → ((y : ℕ) → y < max_nodes → follows w n l y ≡ false) → Lacking w l n r → Lacking w l (n + 1) r'
  lacking_put r r' n room few put none x = subst (Lacking w l (n + 1)) (sym put) (record { without_edge = λ k b t. go k b t (ℕ_discrete n k); with_edge = λ k b f. on k b f (ℕ_discrete n k) })
    where
      go : (k : ℕ) → k < max_nodes → In (put_bit r 0 n) k → Dec (n ≡ k) → (k < n + 1) × ((y : ℕ) → y < max_nodes → T (follows w k l y) → ⊥)
      go k b t (yes e) = (omega arith, λ y m u. subst T (none y m) (subst (λ (z : ℕ). T (follows w z l y)) (sym e) u))
      go k b t (no d) = let z = x.without_edge k b (subst T (bit_other r 0 n k d) t) in (omega (arith, z.0), z.1)

      on : (k : ℕ) → k < n + 1 → (In (put_bit r 0 n) k → ⊥) → Dec (n ≡ k) → (y : ℕ) × (y < max_nodes) × T (follows w k l y)
      on k b f (yes e) = absurd (f (subst (In (put_bit r 0 n)) e (subst T (sym (bit_same r 0 n (omega arith))) tt)))
      on k b f (no d) = x.with_edge k (omega arith) (λ t. f (subst T (sym (bit_other r 0 n k d)) t))

-- ---- the bits of a word visited: predecessors added

module _ (w c : List ℕ) (k : ℕ) where
  -- the row m has the predecessors of node h
  abbrev pub Before : List ℕ → ℕ → Type 0
  Before m h = (y : ℕ) → y < max_nodes → T (comes w h y) → In m y

  pub before_turn : (m₀ m m' : List ℕ) (n n' h : ℕ) → (n ≡ 0 → ⊥) → n' ≡ bit_and n (n - 1) → h ≡ 32 * k + count_trailing_zeros 32 n → ((y : ℕ) → y < max_nodes → has_bit m' 0 y ≡ (has_bit m 0 y || comes w h y)) → Left c k (Before m) n → ((y : ℕ) → y < max_nodes → In m₀ y → In m y)
      → Left c k (Before m') n' × ((y : ℕ) → y < max_nodes → In m₀ y → In m' y)
  before_turn m₀ m m' n n' h some is at bits x grown = (
    (left_turn c k n n' (Before m) (Before m') some is (λ u d y b t. more y b (d y b t)) (subst (Before m') at (λ y b t. subst T (sym (bits y b)) (or_r (has_bit m 0 y) (comes w h y) t))) x).0,
    λ y b t. more y b (grown y b t),
  )
    where
      more : (y : ℕ) → y < max_nodes → In m y → In m' y
      more y b t = subst T (sym (bits y b)) (or_l (has_bit m 0 y) (comes w h y) t)

  pub before_end : (m₀ m : List ℕ) (n : ℕ) → n ≡ 0 → Left c k (Before m) n → ((y : ℕ) → y < max_nodes → In m₀ y → In m y) → Preceded w c m₀ m (32 * k) (32 * k + 32)
  before_end m₀ m n z x grown = record { grown = grown; added = λ h y p q b t u. left_none c k n (Before m) z x h p q t y b u }

-- ---- the bits of a word visited: nodes without a match added

-- one node
module _ (w : List ℕ) (l : ℕ) (r : List ℕ) where
  pub asked_met : (d : List ℕ) (x : ℕ) → Meets w l r x → Asked w l r d d x
  asked_met d x m = record { grown = λ y b t. t; unmet = λ y b t. inl t; met = λ f. m }

  pub asked_unmet : (d d' : List ℕ) (x : ℕ) → 32 ≤ length d → x < max_nodes → d' ≡ put_bit d 0 x → (Meets w l r x → ⊥) → Asked w l r d d' x
  asked_unmet d d' x room few is n = subst (λ (z : List ℕ). Asked w l r d z x) (sym is) (record {
    grown = λ y b t. more y t (ℕ_discrete x y);
    unmet = λ y b t. less y t (ℕ_discrete x y);
    met = λ f. absurd (f here);
  })
    where
      here : In (put_bit d 0 x) x
      here = subst T (sym (bit_same d 0 x (omega arith))) tt

      more : (y : ℕ) → In d y → Dec (x ≡ y) → In (put_bit d 0 x) y
      more y t (yes e) = subst (In (put_bit d 0 x)) e here
      more y t (no f) = subst T (sym (bit_other d 0 x y f)) t

      less : (y : ℕ) → In (put_bit d 0 x) y → Dec (x ≡ y) → In d y ⊎ (Meets w l r y → ⊥)
      less y t (yes e) = inr (λ m. n (subst (Meets w l r) (sym e) m))
      less y t (no f) = inl (subst T (bit_other d 0 x y f) t)

  module _ (c : List ℕ) (k : ℕ) where
    -- the row d has node x, or it is matched
    abbrev pub Decided : List ℕ → ℕ → Type 0
    Decided d x = x < max_nodes → (In d x → ⊥) → Meets w l r x

    -- so far, from d₀ on
    abbrev pub Sifting : List ℕ → List ℕ → ℕ → Type 0
    Sifting d₀ d n = Left c k (Decided d) n × ((y : ℕ) → y < max_nodes → In d₀ y → In d y) × ((y : ℕ) → y < max_nodes → In d y → In d₀ y ⊎ (Meets w l r y → ⊥))

    pub sifting_turn : (d₀ d d' : List ℕ) (n n' x : ℕ) → k < 8 → (n ≡ 0 → ⊥) → n' ≡ bit_and n (n - 1) → x ≡ 32 * k + count_trailing_zeros 32 n → Asked w l r d d' x → Sifting d₀ d n → Sifting d₀ d' n'
    sifting_turn d₀ d d' n n' x few some is at a y = (
      (left_turn c k n n' (Decided d) (Decided d') some is (λ u s b f. s b (λ i. f (a.grown u b i))) (subst (Decided d') at (λ b f. a.met f)) y.0).0,
      λ u b t. a.grown u b (y.1 u b t),
      λ u b t. go u b (a.unmet u b t),
    )
      where
        go : (u : ℕ) → u < max_nodes → In d u ⊎ (Meets w l r u → ⊥) → In d₀ u ⊎ (Meets w l r u → ⊥)
        go u b (inl t) = y.2 u b t
        go u b (inr f) = inr f

    pub sifting_end : (d₀ d : List ℕ) (n : ℕ) → k < 8 → n ≡ 0 → Sifting d₀ d n → Sifted w l r c d₀ d (32 * k) (32 * k + 32)
    sifting_end d₀ d n few z y = record { grown = y.1; unmet = y.2; met = λ x p q t f. left_none c k n (Decided d) z y.0 x p q t (omega arith) f }

module _ (s : Sizes) (f g : List ℕ) (x : Both s f g) where
  abbrev G : Graph
  G = decode_graph f

  abbrev H : Graph
  H = decode_graph g

  -- ---- a walk along the edges of a slot

  module _ (k : ℕ) (hk : k < 9 * s.first.nodes) where
    pub slot_start : (w : List ℕ) (at : ℕ) (D : ℕ → Type 0) → Refining G H w → at ≡ cell w heads_base 2 k → Walk (labelled_into G k) (length G.edges) at D
    slot_start w at D r e = walk_start (labelled_into G k) (length G.edges) at D (e ∙ r.by_slot.heads_are k (omega (arith, hk, first_size s f g x)))

    pub slot_next : (w : List ℕ) (at next : ℕ) (D : ℕ → Type 0) → Refining G H w → Walk (labelled_into G k) (length G.edges) at D → 0 < at → next ≡ cell w nexts_base 2 (at - 1) → next ≡ last_where (labelled_into G k) (at - 1)
    slot_next w at next D r y l e = let i = walk_item (labelled_into G k) (length G.edges) at D y l in e ∙ r.by_slot.nexts_are k (at - 1) (omega (arith, hk, first_size s f g x)) i.1 i.0

    pub slot_item : (at : ℕ) (D : ℕ → Type 0) → Walk (labelled_into G k) (length G.edges) at D → 0 < at → (at - 1 < s.first.edges) × ((edge G (at - 1)).from < s.first.nodes)
    slot_item at D y l =
        let i = walk_item (labelled_into G k) (length G.edges) at D y l in
        let e : at - 1 < s.first.edges = omega (arith, i.1, first_edges s f g x) in
        (e, (first_edge_in s f g x (at - 1) e).0)

    pub slot_less : (w : List ℕ) (at next : ℕ) (D : ℕ → Type 0) → Refining G H w → Walk (labelled_into G k) (length G.edges) at D → 0 < at → next ≡ cell w nexts_base 2 (at - 1) → next < at
    slot_less w at next D r y l e = walk_less (labelled_into G k) at next l (slot_next w at next D r y l e)

    -- what the source of an edge is related to is in the row
    abbrev pub Added : List ℕ → List ℕ → ℕ → Type 0
    Added w c e = (h : ℕ) → h < max_nodes → T (rel w (edge G e).from h) → In c h

    pub source_added : (w c c' : List ℕ) (at next u : ℕ) → Refining G H w → Walk (labelled_into G k) (length G.edges) at (Added w c) → 0 < at → next ≡ cell w nexts_base 2 (at - 1) → u ≡ (edge G (at - 1)).from
        → ((h : ℕ) → h < max_nodes → has_bit c' 0 h ≡ (has_bit c 0 h || has_bit w (32 * u) h)) → Within s.second.nodes c → Within s.second.nodes c' × Walk (labelled_into G k) (length G.edges) next (Added w c')
    source_added w c c' at next u r y l e is bits i = (
      λ h b t. inside h b (or_e (has_bit c 0 h) (has_bit w (32 * u) h) (subst T (bits h b) t)),
      walk_turn (labelled_into G k) (length G.edges) at next (Added w c) (Added w c') y l (slot_next w at next (Added w c) r y l e)
          (λ j hj d h b t. subst T (sym (bits h b)) (or_l (has_bit c 0 h) (has_bit w (32 * u) h) (d h b t)))
          (λ h b t. subst T (sym (bits h b)) (or_r (has_bit c 0 h) (has_bit w (32 * u) h) (subst (λ (m : ℕ). T (rel w m h)) (sym is) t))),
    )
      where
        low : u < size G
        low = let z = slot_item at (Added w c) y l in omega (arith, is, z.1, first_size s f g x)

        inside : (h : ℕ) → h < max_nodes → In c h ⊎ T (rel w u h) → h < s.second.nodes
        inside h b (inl t) = i h b t
        inside h b (inr t) = let z = (r.inside u h low b t).0 in omega (arith, z, second_size s f g x)

    pub all_added : (w c : List ℕ) (at : ℕ) → at ≤ 0 → Walk (labelled_into G k) (length G.edges) at (Added w c) → (e h : ℕ) → e < s.first.edges → T (labelled_into G k e) → h < max_nodes → T (rel w (edge G e).from h) → In c h
    all_added w c at z y e h he t b = y.3 e (omega (arith, he, first_edges s f g x)) t (omega arith) h b

    -- none of the row is left to the source of an edge
    abbrev pub Gone : List ℕ → List ℕ → ℕ → Type 0
    Gone c w e = (h : ℕ) → h < max_nodes → T (rel w (edge G e).from h) → In c h → ⊥

    pub source_dropped : (w₀ w w' c : List ℕ) (at next u : ℕ) → Shrank G H w₀ w → Walk (labelled_into G k) (length G.edges) at (Gone c w) → 0 < at → next ≡ cell w' nexts_base 2 (at - 1) → u ≡ (edge G (at - 1)).from
        → ((h : ℕ) → h < max_nodes → has_bit w' (32 * u) h ≡ (has_bit w (32 * u) h && not (has_bit c 0 h))) → Outside (32 * u) (32 * u + 32) w w' → length w' ≡ length w
        → ((e h : ℕ) → e < s.first.edges → T (labelled_into G k e) → h < max_nodes → In c h → T (related G H (edge G e).from h) → ⊥)
        → Shrank G H w₀ w' × Walk (labelled_into G k) (length G.edges) next (Gone c w')
    source_dropped w₀ w w' c at next u y z l e is bits o long apart =
        let i = walk_item (labelled_into G k) (length G.edges) at (Gone c w) z l in
        let low : u < size G = omega (arith, is, (slot_item at (Gone c w) z l).1, first_size s f g x) in
        let d = row_dropped G H (first_flow s f g x) (second_flow s f g x) (first_fits s f g x) (second_fits s f g x) (first_edges_fit s f g x) w w' c u low bits o long
        (λ h b t r. apart (at - 1) h (slot_item at (Gone c w) z l).0 i.0 b t (subst (λ (m : ℕ). T (related G H m h)) is r)) y.refining in (
          shrank_on G H w₀ w w' y d.0,
          walk_turn (labelled_into G k) (length G.edges) at next (Gone c w) (Gone c w') z l (slot_next w' at next (Gone c w) d.0.refining z l e)
              (λ j hj n h b t. n h b (d.0.rel_less (edge G j).from h (omega (arith, (first_edge_in s f g x j (omega (arith, hj, first_edges s f g x))).0, first_size s f g x)) b t))
              (λ h b t. d.1 h b (subst (λ (m : ℕ). T (rel w' m h)) (sym is) t)),
        )

    pub all_dropped : (w c : List ℕ) (at : ℕ) → at ≤ 0 → Walk (labelled_into G k) (length G.edges) at (Gone c w) → (e h : ℕ) → e < s.first.edges → T (labelled_into G k e) → h < max_nodes → T (rel w (edge G e).from h) → In c h → ⊥
    all_dropped w c at z y e h he t b = y.3 e (omega (arith, he, first_edges s f g x)) t (omega arith) h b

  -- ---- candidates

  module _ (w : List ℕ) (r : Refining G H w) (v l : ℕ) (hv : v < s.first.nodes) (hl : l < 9) (row : List ℕ) where
    pub found : (m a c : List ℕ) → NodeMatched G H w v → LostMet H w v row m → Within s.second.nodes a
        → ((e h : ℕ) → e < s.first.edges → T (labelled_into G (9 * v + l) e) → h < max_nodes → T (rel w (edge G e).from h) → In a h) → ((h : ℕ) → h < max_nodes → has_bit c 0 h ≡ (has_bit a 0 h && has_bit m 0 h)) → Candidates G H w v l row c
    found m a c matched met i sources =
        candidates_met G H (first_flow s f g x) (second_flow s f g x) (first_fits s f g x) (second_fits s f g x) (first_edges_fit s f g x) w v l row m a c matched met
        (λ h b t. let z = i h b t in omega (arith, z, second_size s f g x)) (λ e h he t b u. sources e h (omega (arith, he, first_edges s f g x)) t b u)

    -- ---- one label

    -- the slot of an edge tells its end and its label
    slot_tells : (e : ℕ) → e < length G.edges → T (labelled_into G (9 * v + l) e) → ((edge G e).to ≡ v) × ((edge G e).label ≡ l)
    slot_tells e he t =
        let d = eqb→eq (9 * (edge G e).to + (edge G e).label) (9 * v + l) t in
        let b = (first_edge_in s f g x e (omega (arith, he, first_edges s f g x))).2 in
        (omega (arith, d, b, hl), omega (arith, d, b, hl))

    slot_told : (e : ℕ) → (edge G e).to ≡ v → (edge G e).label ≡ l → T (labelled_into G (9 * v + l) e)
    slot_told e a b = eq_eqb (9 * (edge G e).to + (edge G e).label) (9 * v + l) (omega arith)

    pub lacking_drop : Lacking w l s.second.nodes row → (e h : ℕ) → e < s.first.edges → T (labelled_into G (9 * v + l) e) → h < max_nodes → In row h → T (related G H (edge G e).from h) → ⊥
    lacking_drop y e h he t b i z =
        let he' : e < length G.edges = omega (arith, he, first_edges s f g x) in
        lacking_apart G H (first_flow s f g x) (second_flow s f g x) (first_fits s f g x) (second_fits s f g x) (first_edges_fit s f g x) w r l h hl (y.without_edge h b i).1 e he' (slot_tells e he' t).1 z

    -- the candidates c are sifted once those that are not near are dropped and the others asked
    pub all_sifted : (c a d₀ d m : List ℕ) → Candidates G H w v l row c → Preceding H row m → ((h : ℕ) → h < max_nodes → has_bit d₀ 0 h ≡ (has_bit c 0 h && not (has_bit m 0 h)))
        → ((h : ℕ) → h < max_nodes → has_bit a 0 h ≡ (has_bit c 0 h && has_bit m 0 h)) → Sifted w l row a d₀ d 0 256 → Sifted w l row c (replicate line_bytes 0) d 0 256
    all_sifted c a d₀ d m k all out kept y =
        sifted_near H (second_flow s f g x) (second_fits s f g x) w r.neighbours row l hl c a d₀ (replicate line_bytes 0) d m k.within all out kept (λ h b t. let z = none_within 0 h b t in omega (arith, z)) y

    pub may_drop : (c d : List ℕ) → Contained G H v row → Sifted w l row c (replicate line_bytes 0) d 0 256 → (e h : ℕ) → e < s.first.edges → T (labelled_into G (9 * v + l) e) → h < max_nodes → In d h → T (related G H (edge G e).from h) → ⊥
    may_drop c d cont y e h he t b i z =
        let he' : e < length G.edges = omega (arith, he, first_edges s f g x) in
        let a = slot_tells e he' t in
        unmet_apart G H (first_flow s f g x) (second_flow s f g x) (first_fits s f g x) (second_fits s f g x) (first_edges_fit s f g x) w r v l hl row cont e h he' a.0 a.1 (only (y.unmet h b i)) z
      where
        only : In (replicate line_bytes 0) h ⊎ (Meets w l row h → ⊥) → Meets w l row h → ⊥
        only (inl n) = absurd (let k = none_within 0 h b n in omega (arith, k))
        only (inr n) = n

    pub label_done : (c d w' : List ℕ) → Contained G H v row → Candidates G H w v l row c → Sifted w l row c (replicate line_bytes 0) d 0 256 → Shrank G H w w'
        → ((e h : ℕ) → e < s.first.edges → T (labelled_into G (9 * v + l) e) → h < max_nodes → T (rel w' (edge G e).from h) → In d h → ⊥) → LabelMatched G H w' v l row
    label_done c d w' cont k y z none =
        label_matched G H (first_flow s f g x) (second_flow s f g x) (first_fits s f g x) (second_fits s f g x) (first_edges_fit s f g x) w r v l hl row cont c (replicate line_bytes 0) d w' k y z
        (λ e h he a b m t. none e h (omega (arith, he, first_edges s f g x)) (slot_told e a b) m t)

    pub label_empty : (at : ℕ) → at ≡ cell w heads_base 2 (9 * v + l) → at ≡ 0 → LabelMatched G H w v l row
    label_empty at e z =
        label_none G H (first_flow s f g x) (second_flow s f g x) (first_fits s f g x) (second_fits s f g x) (first_edges_fit s f g x) w v l row
        (λ d hd a b. (slot_start (9 * v + l) (omega (arith, hv, hl)) w at (λ d. ⊥) r e).3 d hd (slot_told d a b) (omega (arith, z)))

  pub labels_kept : (w w' : List ℕ) (v : ℕ) (row : List ℕ) (n : ℕ) → Shrank G H w w' → ((l : ℕ) → l < n → LabelMatched G H w v l row) → LabelMatched G H w' v n row → (l : ℕ) → l < n + 1 → LabelMatched G H w' v l row
  labels_kept w w' v row n y m z l hl = go (ℕ_discrete l n)
    where
      go : Dec (l ≡ n) → LabelMatched G H w' v l row
      go (yes e) = subst (λ (k : ℕ). LabelMatched G H w' v k row) (sym e) z
      go (no d) = label_kept G H (first_flow s f g x) (second_flow s f g x) (first_fits s f g x) (second_fits s f g x) (first_edges_fit s f g x) w w' v l row y (m l (omega arith))

  pub near_by : (w r c m : List ℕ) → Refining G H w → Preceded w r c m 0 256 → Preceding H r m
  near_by w r c m y z = preceding_by G H (first_flow s f g x) (second_flow s f g x) (first_fits s f g x) (second_fits s f g x) (first_edges_fit s f g x) w r c m y z

  -- what is asked of a node, and what has an edge to what it has lost, stay while others lose
  pub met_first : (w : List ℕ) (v : ℕ) (r lost c m : List ℕ) → Refining G H w → ((h : ℕ) → h < max_nodes → has_bit lost 0 h ≡ (held w v h && not (has_bit r 0 h))) → Preceded w lost c m 0 256 → LostMet H w v r m
  met_first w v r lost c m y z = lost_met G H (first_flow s f g x) (second_flow s f g x) (first_fits s f g x) (second_fits s f g x) (first_edges_fit s f g x) w v r lost c m y z

  pub met_still : (w w' : List ℕ) (v : ℕ) (r m : List ℕ) → v < s.first.nodes → Shrank G H w w' → NodeMatched G H w v → LostMet H w v r m → NodeMatched G H w' v × LostMet H w' v r m
  met_still w w' v r m hv y n z =
      let low : v < size G = omega (arith, hv, first_size s f g x) in (
        node_kept G H (first_flow s f g x) (second_flow s f g x) (first_fits s f g x) (second_fits s f g x) (first_edges_fit s f g x) w w' v low y n,
        lost_kept G H (first_flow s f g x) (second_flow s f g x) (first_fits s f g x) (second_fits s f g x) (first_edges_fit s f g x) w w' v r m low y z,
      )

  -- ---- taking rows

  pub contained : (w r : List ℕ) (v : ℕ) → Refining G H w → ((h : ℕ) → h < max_nodes → has_bit r 0 h ≡ rel w v h) → Contained G H v r
  contained w r v y e h t = let b = related_e G H (first_flow s f g x) (second_flow s f g x) v h t in subst T (sym (e h (omega (arith, b.1, second_fits s f g x)))) (y.contains v h t)

  pub taken : (v : ℕ) → v < s.first.nodes → (w w₁ w₂ r : List ℕ) → ((h : ℕ) → h < max_nodes → has_bit r 0 h ≡ rel w v h) → Shrank G H w w₁ → ((l : ℕ) → l < 9 → LabelMatched G H w₁ v l r) → ((h : ℕ) → h < max_nodes → held w₂ v h ≡ has_bit r 0 h)
      → Outside (held_base + line_bytes * v) (held_base + line_bytes * v + line_bytes) w₁ w₂ → length w₂ ≡ length w₁ → Took G H v w w₂
  taken v hv w w₁ w₂ r was y all now o long =
      took G H (first_flow s f g x) (second_flow s f g x) (first_fits s f g x) (second_fits s f g x) (first_edges_fit s f g x) v (omega (arith, hv, first_size s f g x)) w w₁ w₂ r was y all
      (λ e he. (first_edge_in s f g x e (omega (arith, he, first_edges s f g x))).2) now o long

  pub ordered : (w w' : List ℕ) → Outside cursors_base neighbours_base w w' → length w' ≡ length w → Refining G H w → Refining G H w'
  ordered w w' o long r = order_beside G H (first_flow s f g x) (second_flow s f g x) (first_fits s f g x) (second_fits s f g x) (first_edges_fit s f g x) w w' o long r

  -- ---- before any row is taken

  -- none of the row c is left to the sources of edges with label l into the nodes below n
  abbrev pub Dropped : List ℕ → List ℕ → ℕ → ℕ → Type 0
  Dropped w c l n = (e h : ℕ) → e < s.first.edges → (edge G e).label ≡ l → (edge G e).to < n → h < max_nodes → T (rel w (edge G e).from h) → In c h → ⊥

  pub dropped_turn : (w w' c : List ℕ) (l v : ℕ) → Shrank G H w w' → Dropped w c l v → ((e h : ℕ) → e < s.first.edges → T (labelled_into G (9 * v + l) e) → h < max_nodes → T (rel w' (edge G e).from h) → In c h → ⊥) → Dropped w' c l (v + 1)
  dropped_turn w w' c l v y old new e h he Label_is below b t i = go (ℕ_discrete (edge G e).to v)
    where
      go : Dec ((edge G e).to ≡ v) → ⊥
      go (yes d) = new e h he (eq_eqb (9 * (edge G e).to + (edge G e).label) (9 * v + l) (omega arith)) b t i
      go (no d) = old e h he Label_is (omega arith) b (y.rel_less (edge G e).from h (omega (arith, (first_edge_in s f g x e he).0, first_size s f g x)) b t) i

  pub leading_all : (w w' c : List ℕ) (l v : ℕ) → l < 9 → s.first.nodes ≤ v → Refining G H w → Shrank G H w w' → Lacking w l s.second.nodes c → Dropped w' c l v → Leading G H w' l
  leading_all w w' c l v hl all r y k none =
      leading_by G H (first_flow s f g x) (second_flow s f g x) (first_fits s f g x) (second_fits s f g x) (first_edges_fit s f g x) w w' c l hl r y (λ h hh n. k.with_edge h (omega (arith, hh, second_size s f g x)) n)
      (λ e h he Label_is b t i. let he' : e < s.first.edges = omega (arith, he, first_edges s f g x) in none e h he' Label_is (omega (arith, (first_edge_in s f g x e he').1, all)) b t i)

  pub leadings_kept : (w w' : List ℕ) (n : ℕ) → Shrank G H w w' → ((l : ℕ) → l < n → Leading G H w l) → Leading G H w' n → (l : ℕ) → l < n + 1 → Leading G H w' l
  leadings_kept w w' n y m z l hl = go (ℕ_discrete l n)
    where
      go : Dec (l ≡ n) → Leading G H w' l
      go (yes e) = subst (Leading G H w') (sym e) z
      go (no d) = leading_kept G H (first_flow s f g x) (second_flow s f g x) (first_fits s f g x) (second_fits s f g x) (first_edges_fit s f g x) w w' l y (m l (omega arith))

  pub held_beside : (w w' : List ℕ) → Outside held_base kinds_base w w' → length w' ≡ length w → Refining G H w → Refining G H w'
  held_beside w w' o long r =
      looked_up_kept G H (first_flow s f g x) (second_flow s f g x) (first_fits s f g x) (second_fits s f g x) (first_edges_fit s f g x) w w' (λ q l d. o q (inr (omega arith))) long r (λ u h a b t. subst T (same u h a b) t)
      (λ u h t. let z = related_e G H (first_flow s f g x) (second_flow s f g x) u h t in subst T (sym (same u h z.0 (omega (arith, z.1, second_fits s f g x)))) (r.contains u h t))
    where
      same : (u h : ℕ) → u < size G → h < max_nodes → rel w' u h ≡ rel w u h
      same u h a b = bit_byte w' w (32 * u) (32 * u) h (o (32 * u + h / 8) (inl (omega (arith, first_fits s f g x))))

  pub matched_first : (w w' : List ℕ) → ((v h : ℕ) → v < s.first.nodes → h < max_nodes → held w v h ≡ ltb h s.second.nodes) → Shrank G H w w' → ((l : ℕ) → l < 9 → Leading G H w' l) → Matching G H s.first.nodes w'
  matched_first w w' whole y leading =
      subst (λ (k : ℕ). Matching G H k w') (first_size s f g x)
      (matching_first G H (first_flow s f g x) (second_flow s f g x) (first_fits s f g x) (second_fits s f g x) (first_edges_fit s f g x) w' y.refining
      (λ v h l b. y.held_kept v h l b ∙ whole v h (omega (arith, l, first_size s f g x)) b ∙ ap (ltb h) (sym (second_size s f g x)))
      (λ e he. (first_edge_in s f g x e (omega (arith, he, first_edges s f g x))).2) leading)

  module _ (v : ℕ) (w w' : List ℕ) (hv : v < s.first.nodes) (m : Matching G H s.first.nodes w) (y : Took G H v w w') where
    low : v < size G
    low = omega (arith, hv, first_size s f g x)

    sized : Matching G H (size G) w
    sized = subst (λ (n : ℕ). Matching G H n w) (sym (first_size s f g x)) m

    pub matching_still : Matching G H s.first.nodes w'
    matching_still = subst (λ (n : ℕ). Matching G H n w') (first_size s f g x) (matching_on G H (first_flow s f g x) (second_flow s f g x) (first_fits s f g x) (second_fits s f g x) (first_edges_fit s f g x) v w w' low sized y)

    pub load_down : load s.first.nodes w' ≤ load s.first.nodes w
    load_down = subst (λ (n : ℕ). load n w' ≤ load n w) (first_size s f g x) (load_le G H (first_flow s f g x) (second_flow s f g x) (first_fits s f g x) (second_fits s f g x) (first_edges_fit s f g x) v w w' low sized y)

    pub load_less : (h : ℕ) × (h < max_nodes) × T (held w v h) × (T (rel w v h) → ⊥) → load s.first.nodes w' < load s.first.nodes w
    load_less z = subst (λ (n : ℕ). load n w' < load n w) (first_size s f g x) (load_lt G H (first_flow s f g x) (second_flow s f g x) (first_fits s f g x) (second_fits s f g x) (first_edges_fit s f g x) v w w' low sized y z.0 z.1 z.2 z.3)

  pub settled_all : (w : List ℕ) → Matching G H s.first.nodes w → ((v h : ℕ) → v < s.first.nodes → h < max_nodes → T (held w v h) → T (rel w v h)) → Settled G H w
  settled_all w m none =
      all_settled G H (first_flow s f g x) (second_flow s f g x) (first_fits s f g x) (second_fits s f g x) (first_edges_fit s f g x) w (subst (λ (n : ℕ). Matching G H n w) (sym (first_size s f g x)) m)
      (λ v h l b t. none v h (omega (arith, l, first_size s f g x)) b t)
