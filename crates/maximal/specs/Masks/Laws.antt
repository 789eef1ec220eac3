-- Laws of sets of rows as numbers: the digits of a union, of what two sets share, of where they differ and of one row; a set is its digits; subsets; numbers and flags; and what a completed
-- set contains.
use Rattle.std.specs.Prelude.{◌≡◌, ◌⊎◌, Bool, true, false, not, ◌&&◌, ◌||◌, ℕ, zero, suc, ◌+◌, ◌*◌, ◌/◌, ◌%◌, ◌^◌, ◌<◌, length}
use Rattle.std.proofs.Math.Path.{refl, subst}
use Rattle.std.proofs.Common.{sym, ap, ap₂, ◌∙◌, inl, inr, pow-suc, mul_comm, arith, eqb→eq}
use mathlib.Core.List.Memᴰ
use mathlib.Core.List.{List, [], ◌∷◌, Memᴰ}
use Rattle.std.proofs.Math.Nat.{div-div-eq-div-mul, suc_inj}
use Rattle.std.proofs.Math.Decide.{dec_lt}
use Rattle.std.specs.Int.Bits.{bit_and, bit_or, bit_xor, and_lt}
use Rattle.std.proofs.lemmas.Nat.{or_shr, or_mod, and_shr, and_mod, xor_shr, xor_mod, or_lt}
use Rattle.std.proofs.Math.Dec.{T, eqb}
use Rattle.files.specs.Basics.Binary.{value, value_one}
use Rattle.files.specs.Basics.Closure.{closed_ind, closed_rule}
use Rattle.files.specs.Basics.Lists.{span, span_i}
use Rattle.files.specs.Basics.Tests.{same_test, one, one_le, same, eq_eqb, and_l, and_r, and_i, or_e, or_l, or_r, or_map, any, any_i, any_e, any_map}
use Rattle.files.specs.Property.{Row, row}
use Rattle.maximal.specs.Model.{Rows, has, asked}
use Rattle.maximal.specs.Model.Supports.{tab, length_tab, has_tab, has_lt}
use Rattle.maximal.specs.Masks.{member, rows, mask, within, apart, joins, completed_rows, completion, untrue_at, untrue, asked_of}

-- ---- digits

digit_suc : (n r : ℕ) → n / 2 ^ suc r ≡ n / 2 / 2 ^ r
digit_suc n r = ap (λ (x : ℕ). n / x) (pow-suc 2 r ∙ mul_comm (2 ^ r) 2) ∙ sym (div-div-eq-div-mul n 2 (2 ^ r))

pub member_suc : (n r : ℕ) → member n (suc r) ≡ member (n / 2) r
member_suc n r = ap (λ (x : ℕ). eqb (x % 2) 1) (digit_suc n r)

member_zero : (n : ℕ) → member n 0 ≡ eqb (n % 2) 1
member_zero n = let e : n / 2 ^ 0 ≡ n = omega arith in ap (λ (x : ℕ). eqb (x % 2) 1) e

binary : (n : ℕ) → n < 2 → (n ≡ 0) ⊎ (n ≡ 1)
binary zero h = inl refl
binary (suc zero) h = inr refl
binary (suc (suc n)) h = absurd (omega arith)

or_digits : (a b : ℕ) → (a ≡ 0) ⊎ (a ≡ 1) → (b ≡ 0) ⊎ (b ≡ 1) → eqb (bit_or a b) 1 ≡ (eqb a 1 || eqb b 1)
or_digits a b (inl p) (inl q) = rw (p, q) refl
or_digits a b (inl p) (inr q) = rw (p, q) refl
or_digits a b (inr p) (inl q) = rw (p, q) refl
or_digits a b (inr p) (inr q) = rw (p, q) refl

and_digits : (a b : ℕ) → (a ≡ 0) ⊎ (a ≡ 1) → (b ≡ 0) ⊎ (b ≡ 1) → eqb (bit_and a b) 1 ≡ (eqb a 1 && eqb b 1)
and_digits a b (inl p) q = rw p refl
and_digits a b (inr p) (inl q) = rw (p, q) refl
and_digits a b (inr p) (inr q) = rw (p, q) refl

xor_digits : (a b : ℕ) → (a ≡ 0) ⊎ (a ≡ 1) → (b ≡ 0) ⊎ (b ≡ 1) → eqb (bit_xor a b) 1 ≡ not (same (eqb a 1) (eqb b 1))
xor_digits a b (inl p) (inl q) = rw (p, q) refl
xor_digits a b (inl p) (inr q) = rw (p, q) refl
xor_digits a b (inr p) (inl q) = rw (p, q) refl
xor_digits a b (inr p) (inr q) = rw (p, q) refl

pub member_or : (u s r : ℕ) → member (bit_or u s) r ≡ (member u r || member s r)
member_or u s r =
    ap (λ (n : ℕ). eqb (n % 2) 1) (or_shr u s r) ∙ ap (λ (n : ℕ). eqb n 1) (or_mod (u / 2 ^ r) (s / 2 ^ r) 1)
    ∙ or_digits (u / 2 ^ r % 2) (s / 2 ^ r % 2) (binary _ (omega arith)) (binary _ (omega arith))

pub member_and : (u s r : ℕ) → member (bit_and u s) r ≡ (member u r && member s r)
member_and u s r =
    ap (λ (n : ℕ). eqb (n % 2) 1) (and_shr u s r) ∙ ap (λ (n : ℕ). eqb n 1) (and_mod (u / 2 ^ r) (s / 2 ^ r) 1)
    ∙ and_digits (u / 2 ^ r % 2) (s / 2 ^ r % 2) (binary _ (omega arith)) (binary _ (omega arith))

pub member_xor : (u s r : ℕ) → member (bit_xor u s) r ≡ not (same (member u r) (member s r))
member_xor u s r =
    ap (λ (n : ℕ). eqb (n % 2) 1) (xor_shr u s r) ∙ ap (λ (n : ℕ). eqb n 1) (xor_mod (u / 2 ^ r) (s / 2 ^ r) 1)
    ∙ xor_digits (u / 2 ^ r % 2) (s / 2 ^ r % 2) (binary _ (omega arith)) (binary _ (omega arith))

pub member_none : (r : ℕ) → member 0 r ≡ false
member_none zero = refl
member_none (suc r) = member_suc 0 r ∙ member_none r

differ : (m n : ℕ) → (m ≡ n → ⊥) → eqb m n ≡ false
differ m n f = same_test (eqb m n) false (λ t. f (eqb→eq m n t)) (λ t. absurd t)

-- the digits of one row, and of two
pub member_one : (x r : ℕ) → member (2 ^ x) r ≡ eqb x r
member_one zero zero = refl
member_one zero (suc r) =
    let e : 2 ^ 0 / 2 ≡ 0 = omega arith in
    member_suc (2 ^ 0) r ∙ ap (λ (n : ℕ). member n r) e ∙ member_none r ∙ sym (differ 0 (suc r) (λ c. omega arith))
member_one (suc x) zero =
    let e : 2 ^ suc x % 2 ≡ 0 = omega (arith, pow-suc 2 x) in
    member_zero (2 ^ suc x) ∙ ap (λ (n : ℕ). eqb n 1) e ∙ sym (differ (suc x) 0 (λ c. omega arith))
member_one (suc x) (suc r) =
    let e : 2 ^ suc x / 2 ≡ 2 ^ x = omega (arith, pow-suc 2 x) in
    member_suc (2 ^ suc x) r ∙ ap (λ (n : ℕ). member n r) e ∙ member_one x r
    ∙ same_test (eqb x r) (eqb (suc x) (suc r)) (λ t. eq_eqb (suc x) (suc r) (ap suc (eqb→eq x r t))) (λ t. eq_eqb x r (suc_inj (eqb→eq (suc x) (suc r) t)))

pub member_two : (a b r : ℕ) → member (bit_or (2 ^ a) (2 ^ b)) r ≡ eqb a r || eqb b r
member_two a b r = member_or (2 ^ a) (2 ^ b) r ∙ ap₂ ◌||◌ (member_one a r) (member_one b r)

pub member_lt : (n u r : ℕ) → u < 2 ^ n → T (member u r) → r < n
member_lt zero u r h t = let e : u ≡ 0 = omega arith in absurd (subst T (ap (λ (x : ℕ). member x r) e ∙ member_none r) t)
member_lt (suc n) u zero h t = omega arith
member_lt (suc n) u (suc r) h t =
    let l : u / 2 < 2 ^ n = omega (arith, pow-suc 2 n) in
    let k = member_lt n (u / 2) r l (subst T (member_suc u r) t) in omega arith

-- a set is its digits
pub members_eq : (n u s : ℕ) → u < 2 ^ n → s < 2 ^ n → ((r : ℕ) → r < n → member u r ≡ member s r) → u ≡ s
members_eq zero u s a b f = omega arith
members_eq (suc n) u s a b f =
    let l : u / 2 < 2 ^ n = omega (arith, pow-suc 2 n) in
    let m : s / 2 < 2 ^ n = omega (arith, pow-suc 2 n) in
    let high = members_eq n (u / 2) (s / 2) l m (λ r h. sym (member_suc u r) ∙ f (suc r) (omega arith) ∙ member_suc s r) in
    let low = same_digit (u % 2) (s % 2) (binary _ (omega arith)) (binary _ (omega arith)) (sym (member_zero u) ∙ f 0 (omega arith) ∙ member_zero s) in
    omega (arith, high, low)
  where
    same_digit : (a b : ℕ) → (a ≡ 0) ⊎ (a ≡ 1) → (b ≡ 0) ⊎ (b ≡ 1) → eqb a 1 ≡ eqb b 1 → a ≡ b
    same_digit a b (inl p) (inl q) e = p ∙ sym q
    same_digit a b (inl p) (inr q) e = absurd (subst T (sym e ∙ ap (λ (x : ℕ). eqb x 1) p) (eq_eqb b 1 q))
    same_digit a b (inr p) (inl q) e = absurd (subst T (e ∙ ap (λ (x : ℕ). eqb x 1) q) (eq_eqb a 1 p))
    same_digit a b (inr p) (inr q) e = p ∙ sym q

-- ---- subsets

pub within_e : (u s : ℕ) → T (within u s) → (r : ℕ) → T (member u r) → T (member s r)
within_e u s t r m = subst (λ (k : ℕ). T (member k r)) (eqb→eq (bit_or u s) s t) (subst T (sym (member_or u s r)) (or_l (member u r) (member s r) m))

pub within_i : (n u s : ℕ) → u < 2 ^ n → s < 2 ^ n → ((r : ℕ) → T (member u r) → T (member s r)) → T (within u s)
within_i n u s a b f = eq_eqb (bit_or u s) s (members_eq n (bit_or u s) s (or_lt n u s a b) b (λ r h. member_or u s r ∙ same_test (member u r || member s r) (member s r) (go r) (or_r (member u r) (member s r))))
  where
    go : (r : ℕ) → T (member u r || member s r) → T (member s r)
    go r t = pick (or_e (member u r) (member s r) t)
      where
        pick : T (member u r) ⊎ T (member s r) → T (member s r)
        pick (inl x) = f r x
        pick (inr x) = x

pub apart_e : (u s : ℕ) → T (apart u s) → (r : ℕ) → T (member u r) → T (member s r) → ⊥
apart_e u s t r a b = subst T (ap (λ (k : ℕ). member k r) (eqb→eq (bit_and u s) 0 t) ∙ member_none r) (subst T (sym (member_and u s r)) (and_i (member u r) (member s r) a b))

pub apart_i : (n u s : ℕ) → u < 2 ^ n → s < 2 ^ n → ((r : ℕ) → T (member u r) → T (member s r) → ⊥) → T (apart u s)
apart_i n u s a b f =
    eq_eqb (bit_and u s) 0 (members_eq n (bit_and u s) 0 (and_lt n u s a b) (omega arith) (λ r h. member_and u s r ∙ same_test (member u r && member s r) (member 0 r)
    (λ t. absurd (f r (and_l (member u r) (member s r) t) (and_r (member u r) (member s r) t))) (λ t. absurd (subst T (member_none r) t))))

-- ---- numbers and flags

pub value_lt : (S : Rows) → value S < 2 ^ length S
value_lt [] = omega arith
value_lt (b ∷ S) = omega (arith, one_le b, value_lt S, pow-suc 2 (length S))

pub value_member : (S : Rows) (r : ℕ) → member (value S) r ≡ has S r
value_member [] r = member_none r
value_member (b ∷ S) zero = member_zero (value (b ∷ S)) ∙ go b
  where
    go : (b : Bool) → eqb ((one b + 2 * value S) % 2) 1 ≡ b
    go true = let e : (1 + 2 * value S) % 2 ≡ 1 = omega arith in ap (λ (n : ℕ). eqb n 1) e
    go false = let e : (0 + 2 * value S) % 2 ≡ 0 = omega arith in ap (λ (n : ℕ). eqb n 1) e
value_member (b ∷ S) (suc r) =
    let e : value (b ∷ S) / 2 ≡ value S = omega (arith, one_le b) in member_suc (value (b ∷ S)) r ∙ ap (λ (n : ℕ). member n r) e ∙ value_member S r

pub mask_lt : (v : ℕ → Bool) (n : ℕ) → mask v n < 2 ^ n
mask_lt v n = subst (λ (k : ℕ). value (tab v n) < 2 ^ k) (length_tab v n) (value_lt (tab v n))

pub member_mask : (v : ℕ → Bool) (n r : ℕ) → r < n → member (mask v n) r ≡ v r
member_mask v n r h = value_member (tab v n) r ∙ has_tab v n r h

-- the number whose digits pass a test
pub mask_is : (v : ℕ → Bool) (n k : ℕ) → k < 2 ^ n → ((r : ℕ) → r < n → member k r ≡ v r) → k ≡ mask v n
mask_is v n k h f = members_eq n k (mask v n) h (mask_lt v n) (λ r l. f r l ∙ sym (member_mask v n r l))

pub has_rows : (n k r : ℕ) → k < 2 ^ n → has (rows n k) r ≡ member k r
has_rows n k r h = go (dec_lt r n)
  where
    go : Dec (r < n) → has (rows n k) r ≡ member k r
    go (yes l) = has_tab (member k) n r l
    go (no l) = same_test (has (rows n k) r) (member k r) (λ t. absurd (l (subst (λ (x : ℕ). r < x) (length_tab (member k) n) (has_lt (rows n k) r t)))) (λ t. absurd (l (member_lt n k r h t)))

pub rows_member : (n k : ℕ) → k < 2 ^ n → has (rows n k) ≡ member k
rows_member n k h i r = has_rows n k r h i

pub value_rows : (n k : ℕ) → k < 2 ^ n → value (rows n k) ≡ k
value_rows n k h = sym (mask_is (member k) n k h (λ r l. refl))

pub rows_value : (n : ℕ) (S : Rows) → length S ≡ n → rows n (value S) ≡ S
rows_value n S e =
    let h : value S < 2 ^ n = subst (λ (m : ℕ). value S < 2 ^ m) e (value_lt S) in
    value_one (rows n (value S)) S (length_tab (member (value S)) n ∙ sym e) (value_rows n (value S) h)

-- ---- untrue rows, and what a state asks for

module _ (P : List Row) where
  pub untrue_mask : (m : ℕ) (f : Bool) → untrue P m f ≡ mask (λ r. untrue_at (row P r) m f) (length P)
  unfolding untrue
  untrue_mask m f = refl

  pub untrue_lt : (m : ℕ) (f : Bool) → untrue P m f < 2 ^ length P
  unfolding untrue
  untrue_lt m f = mask_lt (λ r. untrue_at (row P r) m f) (length P)

  pub member_untrue : (m : ℕ) (f : Bool) (r : ℕ) → r < length P → member (untrue P m f) r ≡ untrue_at (row P r) m f
  unfolding untrue
  member_untrue m f = member_mask (λ r. untrue_at (row P r) m f) (length P)

  pub asked_lt : (k l : ℕ) → asked_of P k l < 2 ^ length P
  unfolding asked_of
  asked_lt k l = mask_lt (asked P (rows (length P) k) l) (length P)

  pub member_asked : (k l r : ℕ) → r < length P → member (asked_of P k l) r ≡ asked P (rows (length P) k) l r
  unfolding asked_of
  member_asked k l = member_mask (asked P (rows (length P) k) l) (length P)

-- ---- a set completed

module _ (P : List Row) (s : ℕ) where
  abbrev rule : List ℕ → ℕ → Bool
  rule ys r = member s r || any (λ y. joins (row P y) r) ys

  rule_mono : (ys zs : List ℕ) → ((y : ℕ) → Memᴰ y ys → Memᴰ y zs) → (r : ℕ) → T (rule ys r) → T (rule zs r)
  rule_mono ys zs f r = or_map (member s r) _ (member s r) _ (λ t. t) (any_map (λ y. joins (row P y) r) (λ y. joins (row P y) r) ys zs (λ y m t. (f y m, t)))

  pub completion_lt : completion P s < 2 ^ length P
  unfolding completion
  completion_lt = mask_lt (λ r. any (λ y. eqb y r) (completed_rows P s)) (length P)

  listed_e : (r : ℕ) → T (member (completion P s) r) → Memᴰ r (completed_rows P s)
  unfolding completion
  listed_e r t =
      let a = any_e (λ y. eqb y r) (completed_rows P s) (subst T (member_mask (λ r. any (λ y. eqb y r) (completed_rows P s)) (length P) r (member_lt (length P) (completion P s) r completion_lt t)) t) in
      Memᴰ.cast (sym (eqb→eq a.0 r a.2)) a.1

  listed_i : (r : ℕ) → r < length P → T (rule (completed_rows P s) r) → T (member (completion P s) r)
  unfolding completion completed_rows
  listed_i r h t =
      subst T (sym (member_mask (λ r. any (λ y. eqb y r) (completed_rows P s)) (length P) r h))
      (any_i (λ y. eqb y r) (completed_rows P s) r (closed_rule (span 0 (length P)) rule rule_mono r (span_i (length P) 0 r (omega arith) (omega arith)) t) (eq_eqb r r refl))

  -- it contains the set ..
  pub completion_contains : (r : ℕ) → r < length P → T (member s r) → T (member (completion P s) r)
  completion_contains r h t = listed_i r h (or_l (member s r) _ t)

  -- .. and what its "and" rows ask for ..
  pub completion_joins : (y r : ℕ) → r < length P → T (member (completion P s) y) → T (joins (row P y) r) → T (member (completion P s) r)
  completion_joins y r h m t = listed_i r h (or_r (member s r) _ (any_i (λ y. joins (row P y) r) (completed_rows P s) y (listed_e y m) t))

  -- .. and no more
  pub completion_least : (Q : ℕ → Type 0) → ((r : ℕ) → T (member s r) → Q r) → ((y r : ℕ) → Q y → T (joins (row P y) r) → Q r) → (r : ℕ) → T (member (completion P s) r) → Q r
  unfolding completed_rows
  completion_least Q f g r t = closed_ind (span 0 (length P)) rule Q step r (listed_e r t)
    where
      step : (ys : List ℕ) → ((y : ℕ) → Memᴰ y ys → Q y) → (r : ℕ) → Memᴰ r (span 0 (length P)) → T (rule ys r) → Q r
      step ys i r m t = go (or_e (member s r) _ t)
        where
          go : T (member s r) ⊎ T (any (λ y. joins (row P y) r) ys) → Q r
          go (inl x) = f r x
          go (inr x) = let a = any_e (λ y. joins (row P y) r) ys x in g a.0 r (i a.0 a.1) a.2
