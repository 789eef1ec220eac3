-- The computed verdict is exact: the places listed are those that a trail reaches, so the verdict is "clean" where no run with an unbounded stack is bad, and
-- only there.
-- Its theorems that rest on a definition which a must-fail edit turns stand in proofs/Theorems/Summary/Places.
use Rattle.std.specs.Prelude.{◌≡◌, ◌⊎◌, Bool, not, ◌&&◌, ℕ, ◌<◌, ltb}
use Rattle.std.proofs.Math.Path.{refl, ap, subst}
use Rattle.std.proofs.Common.{sym, inl, inr, arith, ltb→lt, lt→ltb, lit<}
use mathlib.Core.List.Memᴰ
use mathlib.Core.List.{List, map, Memᴰ}
use Rattle.std.proofs.Math.Dec.{T, eqb, eqb→eq}
use Rattle.files.specs.Basics.Closure.{closed_ind, closed_rule}
use Rattle.files.specs.Basics.Lists.{each_i, each_e, span, span_i, span_e}
use Rattle.files.specs.Basics.Tests.{and_i, and_e, or_e, or_l, or_r, any, any_i, any_e, eq_eqb, or_map, any_map}
use Rattle.files.specs.Graph.{Graph, Edge, size, node, Flow}
use Rattle.files.specs.Rules.{Event, calls, Monitor}
use Rattle.runs.specs.Runs.{meth}
use Rattle.runs.specs.Summary.{Trail, starts, steps, enters, passes, Place, is_entry_of, moves, spots, moved_from, called_from, reaches, place_rule, all_places, places}
use Rattle.runs.specs.Summary.Moves.{Moves, by_step, by_call, no_ret, entry_e, entry_i, into, moves_e, step_moves, call_moves, into_is}
use Rattle.runs.specs.Summary.Spots.{spot, spots_sound, spots_complete, inside_now}

abbrev pub place : ℕ → ℕ → Place
place g q = record { at = g; now = q }

module _ (G : Graph) (mon : Monitor) where
  -- a trail from method k reaches x
  abbrev At : ℕ → Place → Type 0
  At k x = Trail G mon k x.at x.now

  pub places_i : (g q : ℕ) → g < size G → q < 8 → Memᴰ (place g q) (all_places G mon)
  unfolding all_places
  places_i g q hg hq =
      each_i (λ (g : ℕ). map (place g) (span 0 8)) (span 0 (size G)) g _ (span_i (size G) 0 g (omega arith) (omega arith))
      (Memᴰ.map (place g) (span_i 8 0 q (omega arith) (omega arith)))

  places_at : (x : Place) → Memᴰ x (all_places G mon) → x.at < size G
  unfolding all_places
  places_at x m =
      let c = each_e (λ (g : ℕ). map (place g) (span 0 8)) (span 0 (size G)) x m in
      let d = Memᴰ.of_map (place c.0) (span 0 8) c.2 in
      let e : c.0 ≡ x.at = ap (λ (y : Place). y.at) d.2 in
      omega (arith, span_e (size G) 0 c.0 c.1)

  -- how an edge leads to x from a place of ys
  data Reaches (ys : List Place) (x : Place) (e : Edge) : Type 0 where
    moved : (y : Place) → Memᴰ y ys → e.to ≡ x.at → y.at ≡ e.from → T (moves G mon (spots G mon) e y.now x.now) → Reaches ys x e
    called : (y : Place) → Memᴰ y ys → 0 < e.label → T (is_entry_of G mon e.label x.at) → T (not (node G e.from).ret) → y.at ≡ e.from
        → into G mon e y.now ≡ x.now → Reaches ys x e

  abbrev by_move : List Place → Place → Edge → Bool
  by_move ys x e = eqb e.to x.at && any (moved_from G mon e x) ys

  abbrev by_entry : List Place → Place → Edge → Bool
  by_entry ys x e = ltb 0 e.label && (is_entry_of G mon e.label x.at && (not (node G e.from).ret && any (called_from G mon e x) ys))

  reaches_e : (ys : List Place) (x : Place) (e : Edge) → T (reaches G mon ys x e) → Reaches ys x e
  unfolding reaches moved_from called_from
  reaches_e ys x e t = go (or_e (by_move ys x e) _ t)
    where
      go : T (by_move ys x e) ⊎ T (by_entry ys x e) → Reaches ys x e
      go (inl a) =
          let b = and_e (eqb e.to x.at) _ a in
          let c = any_e (moved_from G mon e x) ys b.1 in
          let d = and_e (eqb c.0.at e.from) _ c.2 in
          moved c.0 c.1 (eqb→eq _ _ b.0) (eqb→eq _ _ d.0) d.1
      go (inr a) =
          let b = and_e (ltb 0 e.label) _ a in
          let c = and_e (is_entry_of G mon e.label x.at) _ b.1 in
          let d = and_e (not (node G e.from).ret) _ c.1 in
          let f = any_e (called_from G mon e x) ys d.1 in
          let g = and_e (eqb f.0.at e.from) _ f.2 in
          called f.0 f.1 (ltb→lt 0 e.label b.0) c.0 d.0 (eqb→eq _ _ g.0) (eqb→eq _ _ g.1)

  reaches_i : (ys : List Place) (x : Place) (e : Edge) → Reaches ys x e → T (reaches G mon ys x e)
  unfolding reaches moved_from called_from
  reaches_i ys x e (moved y m p q t) =
      or_l (by_move ys x e) (by_entry ys x e) (and_i (eqb e.to x.at) _ (eq_eqb e.to x.at p)
      (any_i (moved_from G mon e x) ys y m (and_i (eqb y.at e.from) _ (eq_eqb y.at e.from q) t)))
  reaches_i ys x e (called y m h a n q w) =
      or_r (by_move ys x e) (by_entry ys x e) (and_i (ltb 0 e.label) _ (lt→ltb 0 e.label h) (and_i (is_entry_of G mon e.label x.at) _ a
      (and_i (not (node G e.from).ret) _ n (any_i (called_from G mon e x) ys y m
      (and_i (eqb y.at e.from) _ (eq_eqb y.at e.from q) (eq_eqb (into G mon e y.now) x.now w))))))

  module _ (k : ℕ) where
    abbrev begin : Place → Bool
    begin x = is_entry_of G mon k x.at && eqb 0 x.now

    place_mono : (ys zs : List Place) → ((y : Place) → Memᴰ y ys → Memᴰ y zs) → (x : Place) → T (place_rule G mon k ys x) → T (place_rule G mon k zs x)
    unfolding place_rule
    place_mono ys zs f x =
        or_map (begin x) (any (reaches G mon ys x) G.edges) (begin x) (any (reaches G mon zs x) G.edges) (λ t. t)
        (any_map (reaches G mon ys x) (reaches G mon zs x) G.edges G.edges (λ e m t. (m, reaches_i zs x e (more e (reaches_e ys x e t)))))
      where
        more : (e : Edge) → Reaches ys x e → Reaches zs x e
        more e (moved y m p q t) = moved y (f y m) p q t
        more e (called y m h a n q w) = called y (f y m) h a n q w

    pub trail_moves : (g q p : ℕ) (e : Edge) → Trail G mon k g q → Memᴰ e G.edges → g ≡ e.from → T (not (node G e.from).ret) → Moves G mon e q p → Trail G mon k e.to p
    trail_moves g q p e t m h n v = go e p m h n v
      where
        go : (e : Edge) (p : ℕ) → Memᴰ e G.edges → g ≡ e.from → T (not (node G e.from).ret) → Moves G mon e q p → Trail G mon k e.to p
        go e p m h n (by_step z) = steps e.from q e (subst (λ (i : ℕ). Trail G mon k i q) h t) (record { edge = m; leaves = refl; no_return = n }) z
        go e p m h n (by_call r s z j b) =
            passes e.from q e r s (subst (λ (i : ℕ). Trail G mon k i q) h t) (record { edge = m; leaves = refl; no_return = n }) z j b

    -- ---- sound

    place_sound : (ys : List Place) → ((y : Place) → Memᴰ y ys → At k y) → (x : Place) → Memᴰ x (all_places G mon) → T (place_rule G mon k ys x) → At k x
    unfolding place_rule
    place_sound ys f x m t = go (or_e (begin x) _ t)
      where
        by : (e : Edge) → Memᴰ e G.edges → Reaches ys x e → At k x
        by e n (moved y j p q s) =
            let v = moves_e G mon (spots G mon) (spots_sound G mon) e y.now x.now s in
            subst (λ (g : ℕ). Trail G mon k g x.now) p (trail_moves y.at y.now x.now e (f y j) n q v.0 v.1)
        by e n (called y j h a b q w) =
            subst (λ (s : ℕ). Trail G mon k x.at s) w (enters e.from y.now e x.at (subst (λ (g : ℕ). Trail G mon k g y.now) q (f y j))
            (record { edge = n; leaves = refl; no_return = b }) h (entry_e G mon e.label x.at (places_at x m) a))

        go : T (begin x) ⊎ T (any (reaches G mon ys x) G.edges) → At k x
        go (inl a) =
            let b = and_e (is_entry_of G mon k x.at) _ a in
            subst (λ (s : ℕ). Trail G mon k x.at s) (eqb→eq 0 x.now b.1) (starts x.at (entry_e G mon k x.at (places_at x m) b.0))
        go (inr a) = let b = any_e (reaches G mon ys x) G.edges a in by b.0 b.1 (reaches_e ys x b.0 b.2)

    pub places_sound : (x : Place) → Memᴰ x (places G mon k) → At k x
    unfolding places
    places_sound = closed_ind (all_places G mon) (place_rule G mon k) (At k) place_sound

-- ---- complete

module _ (G : Graph) (mon : Monitor) (mon_small : (q : ℕ) (v : Event) → q < 8 → mon q v < 8) (k : ℕ) where
  pub trail_now : (g q : ℕ) → Trail G mon k g q → q < 8
  trail_now g q (starts n e) = lit< tt
  trail_now g q (steps g' q' e t x z) = trail_now g' q' t
  trail_now g q (enters g' q' e n t x z d) = mon_small q' _ (trail_now g' q' t)
  trail_now g q (passes g' q' e r s t x z j b) =
      mon_small s _ (inside_now G mon mon_small e.label _ r s (mon_small q' _ (trail_now g' q' t)) j)

module _ (G : Graph) (mon : Monitor) (flow : Flow G) (labels_small : (e : Edge) → Memᴰ e G.edges → e.label < 9)
    (mon_small : (q : ℕ) (v : Event) → q < 8 → mon q v < 8) (k : ℕ) where
  place_next : (g q : ℕ) (e : Edge) → g < size G → q < 8 → Memᴰ e G.edges → Reaches G mon (places G mon k) (place g q) e → Memᴰ (place g q) (places G mon k)
  unfolding places place_rule
  place_next g q e hg hq m r =
      closed_rule (all_places G mon) (place_rule G mon k) (place_mono G mon k) (place g q) (places_i G mon g q hg hq)
      (or_r (begin G mon k (place g q)) _ (any_i (reaches G mon (places G mon k) (place g q)) G.edges e m (reaches_i G mon (places G mon k) (place g q) e r)))

  pub places_complete : (g q : ℕ) → Trail G mon k g q → Memᴰ (place g q) (places G mon k)
  unfolding places place_rule
  places_complete g q (starts n e) =
      closed_rule (all_places G mon) (place_rule G mon k) (place_mono G mon k) (place n 0) (places_i G mon n 0 e.is_node (lit< tt))
      (or_l (begin G mon k (place n 0)) _ (and_i (is_entry_of G mon k n) _ (entry_i G mon k n e) (eq_eqb 0 0 refl)))
  places_complete g q (steps g' q' e t x z) =
      place_next e.to q' e (flow.to_node e x.edge) (trail_now G mon mon_small k g' q' t) x.edge
      (moved (place g' q') (places_complete g' q' t) refl (sym x.leaves) (step_moves G mon (spots G mon) e q' (no_ret G g' e x) z))
  places_complete g q (enters g' q' e n t x z d) =
      place_next n _ e d.is_node (mon_small q' _ (trail_now G mon mon_small k g' q' t)) x.edge
      (called (place g' q') (places_complete g' q' t) z (entry_i G mon e.label n d) (no_ret G g' e x) (sym x.leaves) (sym (into_is G mon g' q' e x)))
  places_complete g q (passes g' q' e r s t x z j b) =
      let c = spots_complete G mon flow labels_small mon_small e.label _ r s (labels_small e x.edge) (mon_small q' _ (trail_now G mon mon_small k g' q' t)) j in
      place_next e.to _ e (flow.to_node e x.edge) (trail_now G mon mon_small k g q (passes g' q' e r s t x z j b)) x.edge
      (moved (place g' q') (places_complete g' q' t) refl (sym x.leaves)
      (call_moves G mon (spots G mon) e q' (spot e.label (mon q' (calls (meth G g') e.label)) r s) (no_ret G g' e x) z refl (into_is G mon g' q' e x) b c))
