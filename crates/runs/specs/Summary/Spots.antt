-- The computed summaries are exact: the spots listed are those that a method comes to, and `yields` says what a whole call can yield.
use Rattle.std.specs.Prelude.{◌≡◌, ◌⊎◌, ◌↔◌, Bool, not, ◌&&◌, ℕ, ◌<◌}
use Rattle.std.proofs.Math.Path.{refl, ap, subst}
use Rattle.std.proofs.Common.{sym, subst₂, inl, inr, arith, eqb→eq}
use mathlib.Core.List.Memᴰ
use mathlib.Core.List.{List, map, Memᴰ}
use Rattle.std.proofs.Math.Dec.{T, eqb}
use Rattle.files.specs.Basics.Closure.{closed_ind, closed_rule}
use Rattle.files.specs.Basics.Lists.{each, each_i, each_e, span, span_i, span_e}
use Rattle.files.specs.Basics.Tests.{and_i, and_e, or_e, or_l, or_r, any, any_i, any_e, eq_eqb, or_map, any_map}
use Rattle.files.specs.Graph.{Graph, Edge, size, node, Flow}
use Rattle.files.specs.Rules.{Event, calls, Monitor}
use Rattle.runs.specs.Runs.{meth}
use Rattle.runs.specs.Summary.{Inside, enter, inner, over, Yields, Spot, is_entry_of, moves, along, spot_rule, all_spots, spots, yields}
use Rattle.runs.specs.Summary.Moves.{Moves, by_step, by_call, Sound, In, no_ret, entry_e, entry_i, into_is, moves_e, step_moves, call_moves, moves_mono, before_e, before_i, along_e, along_i}

abbrev pub spot : ℕ → ℕ → ℕ → ℕ → Spot
spot m p g q = record { of = m; was = p; at = g; now = q }

module _ (G : Graph) (mon : Monitor) where
  -- x is the start of its method
  abbrev begins : Spot → Bool
  begins x = is_entry_of G mon x.of x.at && eqb x.was x.now

  spot_mono : (ys zs : List Spot) → In ys zs → (x : Spot) → T (spot_rule G mon ys x) → T (spot_rule G mon zs x)
  unfolding spot_rule
  spot_mono ys zs f x =
      or_map (begins x) (any (along G mon ys x) G.edges) (begins x) (any (along G mon zs x) G.edges) (λ t. t)
      (any_map (along G mon ys x) (along G mon zs x) G.edges G.edges (λ e m t.
      let a = along_e G mon ys x e t in
      let y = a.1.0 in
      let b = before_e G mon ys e x y a.1.2 in
      (m, along_i G mon zs x e a.0 y (f y a.1.1) (before_i G mon zs e x y b.0 b.1 b.2 (moves_mono G mon ys zs f e y.now x.now b.3)))))

  -- ---- every spot there could be

  abbrev spots₁ : ℕ → ℕ → ℕ → List Spot
  spots₁ m p g = map (spot m p g) (span 0 8)

  abbrev spots₂ : ℕ → ℕ → List Spot
  spots₂ m p = each (spots₁ m p) (span 0 (size G))

  abbrev spots₃ : ℕ → List Spot
  spots₃ m = each (spots₂ m) (span 0 8)

  spots_i : (m p g q : ℕ) → m < 9 → p < 8 → g < size G → q < 8 → Memᴰ (spot m p g q) (all_spots G mon)
  unfolding all_spots
  spots_i m p g q hm hp hg hq =
      each_i spots₃ (span 0 9) m _ (span_i 9 0 m (omega arith) (omega arith))
      (each_i (spots₂ m) (span 0 8) p _ (span_i 8 0 p (omega arith) (omega arith))
      (each_i (spots₁ m p) (span 0 (size G)) g _ (span_i (size G) 0 g (omega arith) (omega arith))
      (Memᴰ.map (spot m p g) (span_i 8 0 q (omega arith) (omega arith)))))

  spots_at : (x : Spot) → Memᴰ x (all_spots G mon) → x.at < size G
  unfolding all_spots
  spots_at x m =
      let a = each_e spots₃ (span 0 9) x m in
      let b = each_e (spots₂ a.0) (span 0 8) x a.2 in
      let c = each_e (spots₁ a.0 b.0) (span 0 (size G)) x b.2 in
      let d = Memᴰ.of_map (spot a.0 b.0 c.0) (span 0 8) c.2 in
      let e : c.0 ≡ x.at = ap (λ (y : Spot). y.at) d.2 in
      omega (arith, span_e (size G) 0 c.0 c.1)

  -- ---- sound

  inside_moves : (m p g q p' : ℕ) (e : Edge) → Inside G mon m p g q → Memᴰ e G.edges → g ≡ e.from → T (not (node G e.from).ret) → Moves G mon e q p'
      → Inside G mon m p e.to p'
  inside_moves m p g q p' e i k h n v = go e p' k h n v
    where
      go : (e : Edge) (p' : ℕ) → Memᴰ e G.edges → g ≡ e.from → T (not (node G e.from).ret) → Moves G mon e q p' → Inside G mon m p e.to p'
      go e p' k h n (by_step z) =
          inner m p e.from q e (subst (λ (x : ℕ). Inside G mon m p x q) h i) (record { edge = k; leaves = refl; no_return = n }) z
      go e p' k h n (by_call r s z j b) =
          over m p e.from q e r s (subst (λ (x : ℕ). Inside G mon m p x q) h i) (record { edge = k; leaves = refl; no_return = n }) z j b

  spot_sound : (ys : List Spot) → ((y : Spot) → Memᴰ y ys → Sound G mon y) → (x : Spot) → Memᴰ x (all_spots G mon) → T (spot_rule G mon ys x) → Sound G mon x
  unfolding spot_rule
  spot_sound ys f x m t = go (or_e (begins x) _ t)
    where
      go : T (begins x) ⊎ T (any (along G mon ys x) G.edges) → Sound G mon x
      go (inl a) =
          let b = and_e (is_entry_of G mon x.of x.at) _ a in
          subst (λ (q : ℕ). Inside G mon x.of x.was x.at q) (eqb→eq x.was x.now b.1) (enter x.of x.was x.at (entry_e G mon x.of x.at (spots_at x m) b.0))
      go (inr a) =
          let b = any_e (along G mon ys x) G.edges a in
          let e = b.0 in
          let c = along_e G mon ys x e b.2 in
          let y = c.1.0 in
          let d = before_e G mon ys e x y c.1.2 in
          let v = moves_e G mon ys f e y.now x.now d.3 in
          subst (λ (g : ℕ). Inside G mon x.of x.was g x.now) c.0
          (subst₂ (λ (i j : ℕ). Inside G mon i j e.to x.now) d.0 d.1
          (inside_moves y.of y.was y.at y.now x.now e (f y c.1.1) b.1 d.2 v.0 v.1))

  pub spots_sound : (x : Spot) → Memᴰ x (spots G mon) → Sound G mon x
  unfolding spots
  spots_sound = closed_ind (all_spots G mon) (spot_rule G mon) (Sound G mon) spot_sound

-- ---- complete

module _ (G : Graph) (mon : Monitor) (mon_small : (q : ℕ) (v : Event) → q < 8 → mon q v < 8) where
  pub inside_now : (m p g q : ℕ) → p < 8 → Inside G mon m p g q → q < 8
  inside_now m p g q h (enter m' p' n e) = h
  inside_now m p g q h (inner m' p' g' q' e i x z) = inside_now m' p' g' q' h i
  inside_now m p g q h (over m' p' g' q' e r s i x z j b) =
      mon_small s _ (inside_now e.label _ r s (mon_small q' _ (inside_now m' p' g' q' h i)) j)

module _ (G : Graph) (mon : Monitor) (flow : Flow G) (labels_small : (e : Edge) → Memᴰ e G.edges → e.label < 9)
    (mon_small : (q : ℕ) (v : Event) → q < 8 → mon q v < 8) where
  spot_next : (m p g q q' : ℕ) (e : Edge) → m < 9 → p < 8 → q' < 8 → Memᴰ e G.edges → e.from ≡ g → Memᴰ (spot m p g q) (spots G mon)
      → T (moves G mon (spots G mon) e q q') → Memᴰ (spot m p e.to q') (spots G mon)
  unfolding spots spot_rule
  spot_next m p g q q' e hm hp hq k l y t =
      let x = spot m p e.to q' in
      closed_rule (all_spots G mon) (spot_rule G mon) (spot_mono G mon) x (spots_i G mon m p e.to q' hm hp (flow.to_node e k) hq)
      (or_r (begins G mon x) _ (any_i (along G mon (spots G mon) x) G.edges e k (along_i G mon (spots G mon) x e refl (spot m p g q) y (before_i G mon (spots G mon) e x (spot m p g q) refl refl (sym l) t))))

  pub spots_complete : (m p g q : ℕ) → m < 9 → p < 8 → Inside G mon m p g q → Memᴰ (spot m p g q) (spots G mon)
  unfolding spots spot_rule
  spots_complete m p g q hm hp (enter m' p' n e) =
      let x = spot m p n p in
      closed_rule (all_spots G mon) (spot_rule G mon) (spot_mono G mon) x (spots_i G mon m p n p hm hp e.is_node hp)
      (or_l (begins G mon x) _ (and_i (is_entry_of G mon m n) _ (entry_i G mon m n e) (eq_eqb p p refl)))
  spots_complete m p g q hm hp (inner m' p' g' q' e i x z) =
      spot_next m p g' q' q' e hm hp (inside_now G mon mon_small m p g' q' hp i) x.edge x.leaves (spots_complete m p g' q' hm hp i) (step_moves G mon (spots G mon) e q' (no_ret G g' e x) z)
  spots_complete m p g q hm hp (over m' p' g' q' e r s i x z j b) =
      let hq = inside_now G mon mon_small m p g' q' hp i in
      let c = spots_complete e.label _ r s (labels_small e x.edge) (mon_small q' _ hq) j in
      spot_next m p g' q' _ e hm hp (inside_now G mon mon_small m p g q hp (over m p g' q' e r s i x z j b)) x.edge x.leaves (spots_complete m p g' q' hm hp i)
      (call_moves G mon (spots G mon) e q' (spot e.label (mon q' (calls (meth G g') e.label)) r s) (no_ret G g' e x) z refl
      (into_is G mon g' q' e x) b c)

  -- the table says what a whole call can yield
  pub yields_exact : (m p q : ℕ) → m < 9 → p < 8 → T (yields G mon m p q) ↔ Yields G mon m p q
  unfolding yields
  yields_exact m p q hm hp = (
    λ t.
        let a = any_e (λ (z : Spot). eqb z.of m && (eqb z.was p && (eqb z.now q && (node G z.at).ret))) (spots G mon) t in
        let z = a.0 in
        let b = and_e (eqb z.of m) _ a.2 in
        let c = and_e (eqb z.was p) _ b.1 in
        let d = and_e (eqb z.now q) _ c.1 in
        record {
          at = z.at;
          inside = subst (λ (s : ℕ). Inside G mon m p z.at s) (eqb→eq _ _ d.0)
              (subst₂ (λ (i j : ℕ). Inside G mon i j z.at z.now) (eqb→eq _ _ b.0) (eqb→eq _ _ c.0) (spots_sound G mon z a.1));
          returning = d.1;
        },
    λ y. any_i (λ (z : Spot). eqb z.of m && (eqb z.was p && (eqb z.now q && (node G z.at).ret))) (spots G mon) (spot m p y.at q)
        (spots_complete m p y.at q hm hp y.inside)
        (and_i (eqb m m) _ (eq_eqb m m refl) (and_i (eqb p p) _ (eq_eqb p p refl) (and_i (eqb q q) _ (eq_eqb q q refl) y.returning))),
  )
