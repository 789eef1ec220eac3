-- A graph that lacks an entry of a method of its interface, told by the test; and one that lacks none.
use Rattle.std.specs.Prelude.{◌≡◌, refl, ◌⊎◌, Bool, true, false, not, ◌&&◌, ℕ, ◌+◌, ◌<◌, T, eqb}
use Rattle.std.proofs.Common.{sym, ap, subst, ◌∙◌, inl, inr, arith, eqb→eq, T_not}
use Rattle.std.proofs.Math.Decide.{ℕ_discrete}
use Rattle.std.proofs.Math.Dec.{not_T}
use Rattle.files.specs.Basics.Lists.{span, span_i}
use Rattle.files.specs.Basics.Says.{Says}
use Rattle.files.specs.Basics.Tests.{and_l, and_r, and_i, any, any_i, any_e, upto, upto_i, upto_e, decide, eq_eqb, T_eq}
use Rattle.files.specs.Graph.{Graph, size, node, EntryOf}
use Rattle.files.specs.Interface.{Interface, provides}
use Rattle.files.specs.Interface.Laws.{in_set_small}
use Rattle.files.specs.Sides.{has_entry, lacks_entry, LacksEntry, Entered}
use Rattle.files.specs.Sides.Looks.{some_from}

has_entry_e : (G : Graph) (m : ℕ) → T (has_entry G m) → (n : ℕ) × EntryOf G m n
has_entry_e G m t =
    let a = any_e (λ (n : ℕ). (node G n).entry && eqb (node G n).method m) (upto (size G)) t in
    (a.0, record { is_node = upto_e (size G) a.0 a.1; is_entry = and_l (node G a.0).entry _ a.2; in_method = eqb→eq _ _ (and_r (node G a.0).entry _ a.2) })

has_entry_i : (G : Graph) (m n : ℕ) → EntryOf G m n → T (has_entry G m)
has_entry_i G m n e =
    any_i (λ (n : ℕ). (node G n).entry && eqb (node G n).method m) (upto (size G)) n (upto_i (size G) n e.is_node)
    (and_i (node G n).entry _ e.is_entry (eq_eqb _ _ e.in_method))

pub says_lacks_entry : (I : Interface) (G : Graph) → Says (lacks_entry I G) (LacksEntry I G)
unfolding lacks_entry
says_lacks_entry I G = record {
  say = λ t. let a = any_e (λ (m : ℕ). provides I m && not (has_entry G m)) (span 1 8) t in
      (a.0, and_l (provides I a.0) _ a.2, λ n e. T_not (has_entry G a.0) (and_r (provides I a.0) _ a.2) (has_entry_i G a.0 n e));
  hear = λ x. let b = in_set_small I.provided x.0 x.1 in
      any_i (λ (m : ℕ). provides I m && not (has_entry G m)) (span 1 8) x.0 (span_i 8 1 x.0 b.0 (omega (arith, b.1)))
      (and_i (provides I x.0) _ x.1 (not_T (has_entry G x.0) (λ t. let e = has_entry_e G x.0 t in x.2 e.0 e.1)));
}

-- none lacking: each provided method has one
pub entered_i : (I : Interface) (G : Graph) → T (not (lacks_entry I G)) → Entered I G
entered_i I G t m p = go (decide (has_entry G m))
  where
    go : T (has_entry G m) ⊎ T (not (has_entry G m)) → (n : ℕ) × EntryOf G m n
    go (inl h) = has_entry_e G m h
    go (inr h) = absurd (T_not (lacks_entry I G) t ((says_lacks_entry I G).hear (m, p, λ n e. T_not (has_entry G m) h (has_entry_i G m n e))))

-- ---- as the code looks for one

none_in : (b : Bool) → (T b → ⊥) → b ≡ false
none_in true f = absurd (f tt)
none_in false f = refl

-- one more node, which is not looked for
none_more : (p : ℕ → Bool) (n : ℕ) → any p (upto n) ≡ false → p n ≡ false → any p (upto (n + 1)) ≡ false
none_more p n a b = none_in (any p (upto (n + 1))) (λ t. let x = any_e p (upto (n + 1)) t in go x.0 (upto_e (n + 1) x.0 x.1) x.2 (ℕ_discrete x.0 n))
  where
    go : (k : ℕ) → k < n + 1 → T (p k) → Dec (k ≡ n) → ⊥
    go k h t (yes e) = subst T (ap p e ∙ b) t
    go k h t (no d) = subst T a (any_i p (upto n) k (upto_i n k (omega arith)) t)

abbrev pub entry_at : Graph → ℕ → ℕ → Bool
entry_at G m n = (node G n).entry && eqb (node G n).method m

module _ (G : Graph) (m : ℕ) where
  -- n nodes are looked at, and none is an entry of m
  abbrev pub NoneSoFar : ℕ → Type 0
  NoneSoFar n = any (entry_at G m) (upto n) ≡ false

  pub none_yet : NoneSoFar 0
  none_yet = refl

  pub none_on : (n : ℕ) → NoneSoFar n → entry_at G m n ≡ false → NoneSoFar (n + 1)
  none_on = none_more (entry_at G m)

  pub one_found : (n : ℕ) → n < size G → entry_at G m n ≡ true → true ≡ has_entry G m
  one_found n h e = sym (T_eq (has_entry G m) (any_i (entry_at G m) (upto (size G)) n (upto_i (size G) n h) (subst T (sym e) tt)))

  pub none_found : (n : ℕ) → n ≡ size G → NoneSoFar n → false ≡ has_entry G m
  none_found n e x = sym (subst NoneSoFar e x)

pub lacks_entry_looks : (I : Interface) (G : Graph) → lacks_entry I G ≡ some_from (λ (k : ℕ). provides I k && not (has_entry G k)) 1
unfolding lacks_entry
lacks_entry_looks I G = refl
