-- Unions of sets of states: what is in them, one state more, and what a whole call makes of a set.
use Rattle.std.specs.Prelude.{◌≡◌, refl, ◌⊎◌, Bool, true, false, ◌&&◌, ◌||◌, ℕ, suc, ◌+◌, ◌^◌, ◌≤◌, ◌<◌}
use Rattle.std.proofs.Common.{sym, ap, ◌∙◌, inl, inr, zero-add, arith, eqb→eq}
use Rattle.std.proofs.Math.Path.{subst}
use Rattle.std.proofs.Math.Bool.{or-false}
use Rattle.std.proofs.Math.Decide.{dec_lt}
use Rattle.std.specs.Int.Bits.{bit_or}
use Rattle.std.proofs.lemmas.Nat.{or_lt}
use Rattle.std.proofs.Math.Dec.{T}
use Rattle.files.specs.Basics.Lists.{span, span_i, span_e}
use Rattle.files.specs.Basics.Tests.{any, any_i, any_e, and_i, and_e, eq_eqb, same_test, or_e, or_l, or_r}
use Rattle.files.specs.Rules.{Monitor, calls, returns_to}
use Rattle.maximal.specs.Masks.{member, mask}
use Rattle.maximal.specs.Masks.Laws.{member_or, member_one, member_mask, mask_is, mask_lt}
use Rattle.runs.specs.Worklist.{union, passed}

-- state s is in f q for some q of x below n
abbrev within_to : (ℕ → ℕ) → ℕ → ℕ → ℕ → Bool
within_to f x n s = any (λ (q : ℕ). member x q && member (f q) s) (span 0 n)

-- the union over the first n states
abbrev pub union_to : (ℕ → ℕ) → ℕ → ℕ → ℕ
union_to f x n = mask (within_to f x n) 8

pub union_is : (f : ℕ → ℕ) (x : ℕ) → union_to f x 8 ≡ union f x
unfolding union
union_is f x = refl

pub any_more : (f : ℕ → Bool) (a n : ℕ) → any f (span a (suc n)) ≡ (any f (span a n) || f (a + n))
any_more f a n = same_test _ _
    (λ t. let b = any_e f (span a (suc n)) t in let c = span_e (suc n) a b.0 b.1 in go b.0 b.2 c.0 c.1)
    (λ t. back (or_e (any f (span a n)) (f (a + n)) t))
  where
    split : (k : ℕ) → k < a + suc n → (k < a + n) ⊎ (k ≡ a + n)
    split k h = pick (dec_lt k (a + n))
      where
        pick : Dec (k < a + n) → (k < a + n) ⊎ (k ≡ a + n)
        pick (yes l) = inl l
        pick (no l) = inr (omega arith)

    go : (k : ℕ) → T (f k) → a ≤ k → k < a + suc n → T (any f (span a n) || f (a + n))
    go k t h l = on (split k l)
      where
        on : (k < a + n) ⊎ (k ≡ a + n) → T (any f (span a n) || f (a + n))
        on (inl m) = or_l (any f (span a n)) (f (a + n)) (any_i f (span a n) k (span_i n a k h m) t)
        on (inr e) = or_r (any f (span a n)) (f (a + n)) (subst (λ (i : ℕ). T (f i)) e t)

    back : T (any f (span a n)) ⊎ T (f (a + n)) → T (any f (span a (suc n)))
    back (inl t) = let b = any_e f (span a n) t in let c = span_e n a b.0 b.1 in any_i f (span a (suc n)) b.0 (span_i (suc n) a b.0 c.0 (omega (arith, c.1))) b.2
    back (inr t) = any_i f (span a (suc n)) (a + n) (span_i (suc n) a (a + n) (omega arith) (omega arith)) t

-- ---- one state more

pub union_none : (f : ℕ → ℕ) (x : ℕ) → 0 ≡ union_to f x 0
union_none f x = refl

module _ (f : ℕ → ℕ) (x n y : ℕ) (so_far : y ≡ union_to f x n) where
  at_state : (s : ℕ) → within_to f x (suc n) s ≡ (within_to f x n s || (member x n && member (f n) s))
  at_state s =
      any_more (λ (q : ℕ). member x q && member (f q) s) 0 n ∙ ap (λ (k : ℕ). within_to f x n s || (member x k && member (f k) s)) (zero-add n)

  before_it : (s : ℕ) → s < 8 → member y s ≡ within_to f x n s
  before_it s l = ap (λ (k : ℕ). member k s) so_far ∙ member_mask (within_to f x n) 8 s l

  small : y < 2 ^ 8
  small = subst (λ (k : ℕ). k < 2 ^ 8) (sym so_far) (mask_lt (within_to f x n) 8)

  pub union_yes : member x n ≡ true → f n < 256 → bit_or y (f n) ≡ union_to f x (suc n)
  union_yes t h =
      mask_is (within_to f x (suc n)) 8 (bit_or y (f n)) (or_lt 8 y (f n) small h)
      (λ s l. member_or y (f n) s ∙ ap (λ (b : Bool). b || member (f n) s) (before_it s l)
      ∙ sym (at_state s ∙ ap (λ (b : Bool). within_to f x n s || (b && member (f n) s)) t))

  pub union_no : member x n ≡ false → y ≡ union_to f x (suc n)
  union_no t =
      mask_is (within_to f x (suc n)) 8 y small
      (λ s l. before_it s l ∙ sym (at_state s ∙ ap (λ (b : Bool). within_to f x n s || (b && member (f n) s)) t ∙ or-false (within_to f x n s)))

-- ---- what is in a union

module _ (f : ℕ → ℕ) (x s : ℕ) (small : s < 8) where
  pub union_e : T (member (union f x) s) → (q : ℕ) × (q < 8) × T (member x q) × T (member (f q) s)
  unfolding union
  union_e t =
      let a = any_e (λ (q : ℕ). member x q && member (f q) s) (span 0 8) (subst T (member_mask (within_to f x 8) 8 s small) t) in
      let b = and_e (member x a.0) (member (f a.0) s) a.2 in
      (a.0, omega (arith, (span_e 8 0 a.0 a.1).1), b.0, b.1)

  pub union_i : (q : ℕ) → q < 8 → T (member x q) → T (member (f q) s) → T (member (union f x) s)
  unfolding union
  union_i q h t u =
      subst T (sym (member_mask (within_to f x 8) 8 s small))
      (any_i (λ (q : ℕ). member x q && member (f q) s) (span 0 8) q (span_i 8 0 q (omega arith) (omega arith)) (and_i (member x q) (member (f q) s) t u))

-- ---- a whole call

module _ (mon : Monitor) (mon_small : (q k a b : ℕ) → q < 8 → mon q (record { kind = k; m1 = a; m2 = b }) < 8) (t : ℕ → ℕ → ℕ) (a l x : ℕ) where
  one_e : (i s : ℕ) → T (member (2 ^ i) s) → i ≡ s
  one_e i s u = eqb→eq i s (subst T (member_one i s) u)

  one_i : (i s : ℕ) → i ≡ s → T (member (2 ^ i) s)
  one_i i s e = subst T (sym (member_one i s)) (eq_eqb i s e)

  pub passed_e : (r : ℕ) → r < 8 → T (member (passed mon t a l x) r)
      → (q : ℕ) × (s : ℕ) × (q < 8) × (s < 8) × T (member x q) × T (member (t l (mon q (calls a l))) s) × (mon s (returns_to l a) ≡ r)
  passed_e r h u =
      let b = union_e (λ (s : ℕ). 2 ^ mon s (returns_to l a)) _ r h u in
      let c = union_e (t l) _ b.0 b.1 b.2 in
      let d = union_e (λ (q : ℕ). 2 ^ mon q (calls a l)) x c.0 c.1 c.2 in
      (d.0, b.0, d.1, b.1, d.2, subst (λ (p : ℕ). T (member (t l p) b.0)) (sym (one_e _ _ d.3)) c.3, one_e _ _ b.3)

  pub passed_i : (q s : ℕ) → q < 8 → s < 8 → T (member x q) → T (member (t l (mon q (calls a l))) s) → T (member (passed mon t a l x) (mon s (returns_to l a)))
  passed_i q s hq hs u v =
      let into : ℕ → ℕ = λ q. 2 ^ mon q (calls a l) in
      let out : ℕ → ℕ = λ s. 2 ^ mon s (returns_to l a) in
      let p = mon q (calls a l) in
      let hp = mon_small q 1 a l hq in
      union_i out (union (t l) (union into x)) (mon s (returns_to l a)) (mon_small s 2 l a hs) s hs
      (union_i (t l) (union into x) s hs p hp (union_i into x p hp q hq u (one_i p p refl)) v) (one_i (mon s (returns_to l a)) (mon s (returns_to l a)) refl)
