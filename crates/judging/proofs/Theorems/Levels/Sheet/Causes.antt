-- The theorems of specs/Levels/Sheet/Causes that rest on a definition which a must-fail edit turns: there they could not be read under the edit.
-- Causes: Why a pair of the fault sheet is false: its causes are the reason that its row gives, are false themselves, and have a lower rank.
-- The cause of a box is the foremost of its targets, the cause of an "and" the lower of its operands.
use Rattle.std.specs.Prelude.{◌≡◌, ◌⊎◌, not, ltb}
use Rattle.std.proofs.Math.Path.{refl, ap, subst}
use Rattle.std.proofs.Common.{sym, le_refl, arith}
use Rattle.std.proofs.Math.Logic.{inl, inr}
use mathlib.Core.List.Memᴰ
use mathlib.Core.List.{List, [], ◌∷◌, Memᴰ}
use Prim.Native.Nat.{ℕ, ◌*◌, ◌≤◌, ◌<◌}
use Rattle.std.proofs.Math.Dec.{T, eqb, ltb→lt}
use Rattle.std.proofs.Math.ListN.{length}
use Rattle.files.specs.Basics.Tests.{and_l, and_r, not_not, not_and, not_or}
use Rattle.files.specs.Graph.{Graph, size, node, Flow}
use Rattle.files.specs.Property.{Row, always, never, returns, not_returns, in_method, not_in_method, both, either, box, box_all, row, names, Property}
use Rattle.judging.specs.Levels.{truth, after, level, rank}
use Rattle.judging.specs.Levels.Laws.{after_no, obliged_named}
use Rattle.judging.specs.Levels.Ranks.{rank_le, rank_bound}
use Rattle.judging.proofs.Theorems.Levels.Ranks.{false_if, low_false, rank_step}
use Rattle.judging.specs.Levels.Sheet.{targets, lower, foremost, box_causes, row_causes, causes}
use Rattle.judging.specs.Levels.Sheet.Meaning.{rank_of, Ahead, Wrong, Reason, by_never, by_returns, by_not_returns, by_in_method, by_not_in_method, by_both, by_either, by_box}
use Rattle.judging.specs.Levels.Sheet.Causes.{FalseBy, Few, IsPair, Why, ahead_rank, foremost_ahead, foremost_in, lower_is, no_causes, no_one, one_cause, one_only, targets_e, targets_i, two_only}

module _ (G : Graph) (P : List Row) (flow : Flow G) (wf : Property P) where
  -- false at level k
  wrong_at : (g r k : ℕ) → g < size G → r < length P → T (not (level G P k g r)) → (FalseBy G P flow wf) k (g, r)
  wrong_at g r k hg hr t = (record { is_node = hg; is_row = hr; is_false = false_if G P flow wf g r k hg hr t }, rank_le G P flow wf g r k t)

  wrong_low : (g r k : ℕ) → g < size G → r < length P → rank G P g r ≤ k → k ≤ size G * length P → Wrong G P (g, r)
  wrong_low g r k hg hr h l = record { is_node = hg; is_row = hr; is_false = low_false G P flow wf g r hg hr (omega arith) }

  -- a row whose truth is that of what it obliges to: its cause is the foremost of its targets
  why_box : (g k : ℕ) → k ≤ size G * length P → (w : Row) → T (names (length P) w) → T (not (after G (level G P k) g w)) → (Why G P flow wf) g k w (box_causes G P (targets G g w))
  unfolding box_causes
  why_box g k hk w n t =
      let a = after_no G (level G P k) g w t in
      go (targets G g w) refl (a.0.to, a.3) (targets_i G g w a.0 a.3 a.1 a.2 a.4) (rank_le G P flow wf a.0.to a.3 k a.5)
    where
      pick : (x : ℕ × ℕ) → Memᴰ x (targets G g w) → rank_of G P x ≤ k → ((y : ℕ × ℕ) → Memᴰ y (targets G g w) → Ahead G P x y) → (Why G P flow wf) g k w (x ∷ [])
      pick x m h f =
          let a = targets_e G g w x m in
          let same : (a.0.to, x.1) ≡ x = ap (λ (i : ℕ). (i, x.1)) a.4 in
          let u = wrong_low x.0 x.1 k (subst (λ (i : ℕ). i < size G) a.4 (flow.to_node a.0 a.1)) (obliged_named (length P) w a.0.label x.1 n a.3) h hk in (
            subst (λ (y : ℕ × ℕ). Reason G P g w (y ∷ [])) same
                (by_box w x.1 a.0 a.1 a.2 a.3 (subst (λ (y : ℕ × ℕ). Wrong G P y) (sym same) u)
                (λ c d i p q. subst (λ (y : ℕ × ℕ). Ahead G P y (d.to, c)) (sym same) (f (d.to, c) (targets_i G g w d c i p q)))),
            (one_cause G P flow wf) k x (u, h),
          )

      go : (xs : List (ℕ × ℕ)) → targets G g w ≡ xs → (y : ℕ × ℕ) → Memᴰ y (targets G g w) → rank_of G P y ≤ k → (Why G P flow wf) g k w (box_causes G P xs)
      go [] e y m h = absurd (Memᴰ.not-nil (subst (λ (xs : List (ℕ × ℕ)). Memᴰ y xs) e m))
      go (u ∷ us) e y m h =
          let f = foremost_ahead G P u us in
          let c : rank_of G P (foremost G P u us) ≤ rank_of G P y = ahead_rank G P (foremost G P u us) y (f y (subst (λ (xs : List (ℕ × ℕ)). Memᴰ y xs) e m)) in
          pick (foremost G P u us) (subst (λ (xs : List (ℕ × ℕ)). Memᴰ (foremost G P u us) xs) (sym e) (foremost_in G P u us)) (omega arith)
          (λ z i. f z (subst (λ (xs : List (ℕ × ℕ)). Memᴰ z xs) e i))

  why : (g k : ℕ) → g < size G → k ≤ size G * length P → (w : Row) → T (names (length P) w)
      → T (not (truth w (node G g).method (node G g).ret (level G P k g) (after G (level G P k) g w))) → (Why G P flow wf) g k w (row_causes G P g w)
  unfolding row_causes box_causes
  why g k hg hk always n t = absurd t
  why g k hg hk never n t = (by_never, (no_causes G P flow wf) k)
  why g k hg hk returns n t = (by_returns t, (no_causes G P flow wf) k)
  why g k hg hk not_returns n t = (by_not_returns (not_not (node G g).ret t), (no_causes G P flow wf) k)
  why g k hg hk (in_method a) n t = (by_in_method a t, (no_causes G P flow wf) k)
  why g k hg hk (not_in_method a) n t = (by_not_in_method a (not_not (eqb (node G g).method a) t), (no_causes G P flow wf) k)
  why g k hg hk (both a b) n t = go (lower_is G P g a b) (not_and (level G P k g a) (level G P k g b) t)
    where
      ha : a < length P
      ha = ltb→lt a (length P) (and_l (ltb a (length P)) (ltb b (length P)) n)

      hb : b < length P
      hb = ltb→lt b (length P) (and_r (ltb a (length P)) (ltb b (length P)) n)

      low : T (not (level G P k g a)) ⊎ T (not (level G P k g b)) → (n : ℕ) → n ≤ rank G P g a → n ≤ rank G P g b → n ≤ k
      low (inl s) n x y = omega (arith, rank_le G P flow wf g a k s)
      low (inr s) n x y = omega (arith, rank_le G P flow wf g b k s)

      end : (c : ℕ) → c < length P → rank G P g c ≤ k → ((c ≡ a) × (rank G P g a ≤ rank G P g b)) ⊎ ((c ≡ b) × (rank G P g b < rank G P g a))
          → (Why G P flow wf) g k (both a b) ((g, c) ∷ [])
      end c hc h d = let w = wrong_low g c k hg hc h hk in (by_both a b c w d, (one_cause G P flow wf) k (g, c) (w, h))

      go : ((lower G P g a b ≡ a) × (rank G P g a ≤ rank G P g b)) ⊎ ((lower G P g a b ≡ b) × (rank G P g b < rank G P g a))
          → T (not (level G P k g a)) ⊎ T (not (level G P k g b)) → (Why G P flow wf) g k (both a b) ((g, lower G P g a b) ∷ [])
      go (inl d) s = subst (λ (c : ℕ). (Why G P flow wf) g k (both a b) ((g, c) ∷ [])) (sym d.0) (end a ha (low s _ (le_refl _) d.1) (inl (refl, d.1)))
      go (inr d) s = subst (λ (c : ℕ). (Why G P flow wf) g k (both a b) ((g, c) ∷ [])) (sym d.0) (end b hb (low s _ (omega (arith, d.1)) (le_refl _)) (inr (refl, d.1)))
  why g k hg hk (either a b) n t =
      let s = not_or (level G P k g a) (level G P k g b) t in
      let u = wrong_at g a k hg (ltb→lt a (length P) (and_l (ltb a (length P)) (ltb b (length P)) n)) s.0 in
      let w = wrong_at g b k hg (ltb→lt b (length P) (and_r (ltb a (length P)) (ltb b (length P)) n)) s.1 in
      (by_either a b u.0 w.0, λ y m. go u w y (Memᴰ.cases_cons m))
    where
      go : (FalseBy G P flow wf) k (g, a) → (FalseBy G P flow wf) k (g, b) → (y : ℕ × ℕ) → (y ≡ (g, a)) ⊎ Memᴰ y ((g, b) ∷ []) → (FalseBy G P flow wf) k y
      go u w y (inl e) = subst ((FalseBy G P flow wf) k) (sym e) u
      go u w y (inr m) = (one_cause G P flow wf) k (g, b) w y m
  why g k hg hk (box l b) n t = why_box g k hk (box l b) n t
  why g k hg hk (box_all a) n t = why_box g k hk (box_all a) n t

  -- ---- of a false pair

  whole : (x : ℕ × ℕ) → Wrong G P x
      → Reason G P x.0 (row P x.1) (causes G P x) × ((y : ℕ × ℕ) → Memᴰ y (causes G P x) → Wrong G P y × (rank G P y.0 y.1 < rank G P x.0 x.1))
  unfolding causes
  whole x w =
      let a = rank_step G P flow wf x.0 x.1 w.is_false in
      let h = rank_bound G P flow wf x.0 x.1 w.is_false in
      let b = why x.0 a.0 w.is_node (omega (arith, a.1)) (row P x.1) (wf.names_rows x.1 w.is_row) a.2 in
      (b.0, λ y m. let c = b.1 y m in (c.0, omega (arith, a.1, c.1)))

  -- each record justifies itself
  pub reason : (x : ℕ × ℕ) → Wrong G P x → Reason G P x.0 (row P x.1) (causes G P x)
  reason x w = (whole x w).0

  -- a cause of a false pair is false, and of lower rank
  pub cause_false : (x y : ℕ × ℕ) → Wrong G P x → Memᴰ y (causes G P x) → Wrong G P y
  cause_false x y w m = ((whole x w).1 y m).0

  pub cause_lower : (x y : ℕ × ℕ) → Wrong G P x → Memᴰ y (causes G P x) → rank G P y.0 y.1 < rank G P x.0 x.1
  cause_lower x y w m = ((whole x w).1 y m).1

module _ (G : Graph) (P : List Row) where
  pub causes_few : (x : ℕ × ℕ) → Few (causes G P x)
  unfolding causes row_causes box_causes
  causes_few x = go (row P x.1)
    where
      box_few : (ys : List (ℕ × ℕ)) → Few (box_causes G P ys)
      box_few [] = no_one
      box_few (y ∷ ys) = one_only (foremost G P y ys)

      go : (r : Row) → Few (row_causes G P x.0 r)
      go always = no_one
      go never = no_one
      go returns = no_one
      go not_returns = no_one
      go (in_method a) = no_one
      go (not_in_method a) = no_one
      go (both a b) = one_only (x.0, lower G P x.0 a b)
      go (either a b) = two_only (x.0, a) (x.0, b)
      go (box l b) = box_few (targets G x.0 (box l b))
      go (box_all a) = box_few (targets G x.0 (box_all a))

  pub causes_in : Flow G → Property P → (x y : ℕ × ℕ) → (IsPair G P) x → Memᴰ y (causes G P x) → (IsPair G P) y
  unfolding causes row_causes box_causes
  causes_in flow wf x y (hg, hr) m = go (row P x.1) (wf.names_rows x.1 hr) m
    where
      alone : (z : ℕ × ℕ) → (IsPair G P) z → Memᴰ y (z ∷ []) → (IsPair G P) y
      alone z i k = subst (IsPair G P) (sym (Memᴰ.eq_of_singleton k)) i

      target_in : (w : Row) → T (names (length P) w) → (z : ℕ × ℕ) → Memᴰ z (targets G x.0 w) → (IsPair G P) z
      target_in w n z k =
          let a = targets_e G x.0 w z k in
          (subst (λ (i : ℕ). i < size G) a.4 (flow.to_node a.0 a.1), obliged_named (length P) w a.0.label z.1 n a.3)

      box_in : (ys : List (ℕ × ℕ)) → ((z : ℕ × ℕ) → Memᴰ z ys → (IsPair G P) z) → Memᴰ y (box_causes G P ys) → (IsPair G P) y
      box_in [] f k = absurd (Memᴰ.not-nil k)
      box_in (u ∷ us) f k = alone (foremost G P u us) (f (foremost G P u us) (foremost_in G P u us)) k

      go : (w : Row) → T (names (length P) w) → Memᴰ y (row_causes G P x.0 w) → (IsPair G P) y
      go always n k = absurd (Memᴰ.not-nil k)
      go never n k = absurd (Memᴰ.not-nil k)
      go returns n k = absurd (Memᴰ.not-nil k)
      go not_returns n k = absurd (Memᴰ.not-nil k)
      go (in_method a) n k = absurd (Memᴰ.not-nil k)
      go (not_in_method a) n k = absurd (Memᴰ.not-nil k)
      go (both a b) n k = alone (x.0, lower G P x.0 a b) (hg, one_of (lower_is G P x.0 a b)) k
        where
          one_of : ((lower G P x.0 a b ≡ a) × (rank G P x.0 a ≤ rank G P x.0 b)) ⊎ ((lower G P x.0 a b ≡ b) × (rank G P x.0 b < rank G P x.0 a)) → lower G P x.0 a b < length P
          one_of (inl d) = subst (λ (i : ℕ). i < length P) (sym d.0) (ltb→lt a (length P) (and_l (ltb a (length P)) (ltb b (length P)) n))
          one_of (inr d) = subst (λ (i : ℕ). i < length P) (sym d.0) (ltb→lt b (length P) (and_r (ltb a (length P)) (ltb b (length P)) n))
      go (either a b) n k = on (Memᴰ.cases_cons k)
        where
          on : (y ≡ (x.0, a)) ⊎ Memᴰ y ((x.0, b) ∷ []) → (IsPair G P) y
          on (inl e) = subst (IsPair G P) (sym e) (hg, ltb→lt a (length P) (and_l (ltb a (length P)) (ltb b (length P)) n))
          on (inr j) = alone (x.0, b) (hg, ltb→lt b (length P) (and_r (ltb a (length P)) (ltb b (length P)) n)) j
      go (box l b) n k = box_in (targets G x.0 (box l b)) (target_in (box l b) n) k
      go (box_all a) n k = box_in (targets G x.0 (box_all a)) (target_in (box_all a) n) k
