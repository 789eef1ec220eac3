-- Rows of bits by words of 32: the bits of a word are those of its bytes, its lowest digit that is one, and what holds once all its bits were visited, lowest first, from a
-- number that loses each bit as it is visited. Comparing and modelling cite them.
use Rattle.std.specs.Prelude.{◌≡◌, refl, ◌⊎◌, List, ℕ, zero, suc, ◌+◌, ◌-◌, ◌*◌, ◌/◌, ◌%◌, ◌^◌, ◌≤◌, ◌<◌, T, eqb, get_or}
use Rattle.std.proofs.Common.{sym, ap, ap₂, subst, ◌∙◌, inl, inr, add-zero, arith, eqb→eq, shr_lt, shr-shr}
use Rattle.std.proofs.Math.Decide.{ℕ_discrete, dec_lt}
use Rattle.std.proofs.Math.Nat.{zero-div}
use Rattle.std.specs.Int.Bits.{bit_and}
use Rattle.std.proofs.lemmas.Nat.{and_le_r, trailing_le}
use Rattle.std.specs.Int.Count.{ones, count_trailing_zeros, under}
use Rattle.std.proofs.Math.Pow.{field, mod-mod-pow}
use Rattle.files.specs.Basics.Tests.{and_i, eq_eqb}
use Rattle.files.specs.Cells.{cell, has_bit}
use Rattle.files.specs.Cells.Laws.{cell_four, has_bit_is}
use Rattle.files.specs.Places.{max_nodes}
use Rattle.judging.specs.Refinement.Rows.{lit, lit_and, lit_zero}

-- ---- the digits of a number of some bytes

-- the number of n bytes, the low one first
abbrev of_bytes : ℕ → (ℕ → ℕ) → ℕ
of_bytes zero x = 0
of_bytes (suc n) x = x 0 + 256 * of_bytes n (λ k. x (suc k))

low_digit : (e x y : ℕ) → e < 8 → (x + 256 * y) / 2 ^ e % 2 ≡ x / 2 ^ e % 2
low_digit e x y h =
    let d : (x + 256 * y) % 256 ≡ x % 256 = omega arith in
    of_low (x + 256 * y) ∙ ap (λ (m : ℕ). m % 2 ^ (1 + e) / 2 ^ e) d ∙ sym (of_low x)
  where
    of_low : (n : ℕ) → n / 2 ^ e % 2 ≡ n % 256 % 2 ^ (1 + e) / 2 ^ e
    of_low n =
        let all : 7 - e + (1 + e) ≡ 8 = omega arith in
        sym (field n 1 e) ∙ ap (λ (m : ℕ). m / 2 ^ e) (sym (mod-mod-pow n (7 - e) (1 + e)) ∙ ap (λ (k : ℕ). n % 2 ^ k % 2 ^ (1 + e)) all)

high_digit : (e x y : ℕ) → x < max_nodes → (x + 256 * y) / 2 ^ (8 + e) % 2 ≡ y / 2 ^ e % 2
high_digit e x y h =
    let d : (x + 256 * y) / 256 ≡ y = omega arith in
    ap (λ (n : ℕ). n % 2) (sym (shr-shr (x + 256 * y) 8 e) ∙ ap (λ (n : ℕ). n / 2 ^ e) d)

digit_of_byte : (n : ℕ) (x : ℕ → ℕ) → ((k : ℕ) → x k < max_nodes) → (e : ℕ) → e < 8 * n → of_bytes n x / 2 ^ e % 2 ≡ x (e / 8) / 2 ^ (e % 8) % 2
digit_of_byte zero x small e h = absurd (omega arith)
digit_of_byte (suc n) x small e h = go (dec_lt e 8) (digit_of_byte n (λ k. x (suc k)) (λ k. small (suc k)))
  where
    rest : ℕ
    rest = of_bytes n (λ k. x (suc k))

    go : Dec (e < 8) → ((f : ℕ) → f < 8 * n → rest / 2 ^ f % 2 ≡ x (suc (f / 8)) / 2 ^ (f % 8) % 2) → (x 0 + 256 * rest) / 2 ^ e % 2 ≡ x (e / 8) / 2 ^ (e % 8) % 2
    go (yes l) above =
        let a : 0 ≡ e / 8 = omega arith in
        let b : e ≡ e % 8 = omega arith in
        low_digit e (x 0) rest l ∙ ap₂ (λ (k d : ℕ). x k / 2 ^ d % 2) a b
    go (no l) above =
        let f : ℕ = e - 8 in
        let d : e ≡ 8 + f = omega arith in
        let a : suc (f / 8) ≡ e / 8 = omega arith in
        let b : f % 8 ≡ e % 8 = omega arith in
        ap (λ (k : ℕ). (x 0 + 256 * rest) / 2 ^ k % 2) d ∙ high_digit f (x 0) rest (small 0) ∙ above f (omega arith) ∙ ap₂ (λ (k d : ℕ). x k / 2 ^ d % 2) a b

-- ---- the lowest digit that is one

pub lowest_digit : (k n : ℕ) → (n ≡ 0 → ⊥) → n < 2 ^ k → n / 2 ^ count_trailing_zeros k n % 2 ≡ 1
unfolding count_trailing_zeros
lowest_digit zero n some h = absurd (some (omega arith))
lowest_digit (suc k) n some h = go (n % 2) refl (lowest_digit k (n / 2))
  where
    t : ℕ
    t = count_trailing_zeros k (n / 2)

    go : (r : ℕ) → n % 2 ≡ r → ((n / 2 ≡ 0 → ⊥) → n / 2 < 2 ^ k → n / 2 / 2 ^ t % 2 ≡ 1) → n / 2 ^ under r t % 2 ≡ 1
    go zero e half =
        let a : suc t ≡ 1 + t = omega arith in
        let b : suc k ≡ k + 1 = omega arith in
        ap (λ (d : ℕ). n / 2 ^ d % 2) a
        ∙ ap (λ (m : ℕ). m % 2) (sym (shr-shr n 1 t))
        ∙ half (λ z. some (omega (arith, e))) (shr_lt {n = n} k 1 (subst (λ (d : ℕ). n < 2 ^ d) b h))
    go (suc r) e half = omega (arith, e)

-- those below it are zero
pub digits_below : (k n d : ℕ) → d < count_trailing_zeros k n → n / 2 ^ d % 2 ≡ 0
unfolding count_trailing_zeros
digits_below zero n d h = absurd (omega arith)
digits_below (suc k) n d h = go (n % 2) refl d h (digits_below k (n / 2))
  where
    t : ℕ
    t = count_trailing_zeros k (n / 2)

    go : (r : ℕ) → n % 2 ≡ r → (d : ℕ) → d < under r t → ((d : ℕ) → d < t → n / 2 / 2 ^ d % 2 ≡ 0) → n / 2 ^ d % 2 ≡ 0
    go zero e zero l half = omega (arith, e)
    go zero e (suc d) l half =
        let a : suc d ≡ 1 + d = omega arith in
        ap (λ (m : ℕ). n / 2 ^ m % 2) a ∙ ap (λ (m : ℕ). m % 2) (sym (shr-shr n 1 d)) ∙ half d (omega arith)
    go (suc r) e d l half = absurd (omega arith)

-- ---- a word of the row

module _ (w : List ℕ) (base : ℕ) (bytes : (b : ℕ) → get_or w b 0 < max_nodes) where
  abbrev word : ℕ → ℕ
  word i = cell w base 4 i

  abbrev byte : ℕ → ℕ → ℕ
  byte i k = get_or w (base + 4 * i + k) 0

  word_is : (i : ℕ) → word i ≡ of_bytes 4 (byte i)
  word_is i = omega (arith, cell_four w base i, ap (λ (n : ℕ). get_or w n 0) (add-zero (base + 4 * i)))

  pub word_lt : (i : ℕ) → word i < 2 ^ 32
  word_lt i = omega (arith, word_is i, bytes (base + 4 * i + 0), bytes (base + 4 * i + 1), bytes (base + 4 * i + 2), bytes (base + 4 * i + 3))

  pub bit_of_word : (u : ℕ) → has_bit w base u ≡ eqb (word (u / 32) / 2 ^ (u % 32) % 2) 1
  bit_of_word u =
      let a : base + u / 8 ≡ base + 4 * (u / 32) + u % 32 / 8 = omega arith in
      let b : u % 8 ≡ u % 32 % 8 = omega arith in
      has_bit_is w base u
      ∙ ap₂ (λ (m d : ℕ). eqb (get_or w m 0 / 2 ^ d % 2) 1) a b
      ∙ ap (λ (x : ℕ). eqb x 1) (sym (digit_of_byte 4 (byte (u / 32)) (λ k. bytes (base + 4 * (u / 32) + k)) (u % 32) (omega arith)))
      ∙ ap (λ (x : ℕ). eqb (x / 2 ^ (u % 32) % 2) 1) (sym (word_is (u / 32)))

-- how many bits of the first k words are one
abbrev pub ones_in : List ℕ → ℕ → ℕ
ones_in l zero = 0
ones_in l (suc k) = ones_in l k + ones (cell l 0 4 k)

-- ---- the lowest digit, dropped

-- it stands below 32
pub lowest_low : (n : ℕ) → (n ≡ 0 → ⊥) → n < 2 ^ 32 → count_trailing_zeros 32 n < 32
lowest_low n some h = go (ℕ_discrete (count_trailing_zeros 32 n) 32)
  where
    go : Dec (count_trailing_zeros 32 n ≡ 32) → count_trailing_zeros 32 n < 32
    go (no f) = omega (arith, trailing_le 32 n, f)
    go (yes e) = let z : n / 2 ^ 32 % 2 ≡ 1 = subst (λ (t : ℕ). n / 2 ^ t % 2 ≡ 1) e (lowest_digit 32 n some h) in absurd (omega (arith, z, h))

-- one less has all the other digits that are one
one_less : (k n d : ℕ) → n < 2 ^ k → n / 2 ^ d % 2 ≡ 1 → (d ≡ count_trailing_zeros k n → ⊥) → (n - 1) / 2 ^ d % 2 ≡ 1
unfolding count_trailing_zeros
one_less zero n d h one other =
    let z : n ≡ 0 = omega arith in
    let none : n / 2 ^ d % 2 ≡ 0 = ap (λ (m : ℕ). m / 2 ^ d % 2) z ∙ ap (λ (m : ℕ). m % 2) (zero-div (2 ^ d)) in
    absurd (omega (arith, none, one))
one_less (suc k) n d h one other = go (n % 2) refl d one other (one_less k (n / 2))
  where
    t : ℕ
    t = count_trailing_zeros k (n / 2)

    half_digit : (m e : ℕ) → m / 2 ^ suc e % 2 ≡ m / 2 / 2 ^ e % 2
    half_digit m e = let a : suc e ≡ 1 + e = omega arith in ap (λ (i : ℕ). m / 2 ^ i % 2) a ∙ ap (λ (i : ℕ). i % 2) (sym (shr-shr m 1 e))

    go : (r : ℕ) → n % 2 ≡ r → (d : ℕ) → n / 2 ^ d % 2 ≡ 1 → (d ≡ under r t → ⊥) → ((d : ℕ) → n / 2 < 2 ^ k → n / 2 / 2 ^ d % 2 ≡ 1 → (d ≡ t → ⊥) → (n / 2 - 1) / 2 ^ d % 2 ≡ 1) → (n - 1) / 2 ^ d % 2 ≡ 1
    go zero e zero one f half = absurd (omega (arith, e, one))
    go zero e (suc d) one f half =
        let b : suc k ≡ k + 1 = omega arith in
        let low : n / 2 < 2 ^ k = shr_lt {n = n} k 1 (subst (λ (i : ℕ). n < 2 ^ i) b h) in
        let z : (n - 1) / 2 ≡ n / 2 - 1 = omega (arith, e) in
        half_digit (n - 1) d ∙ ap (λ (m : ℕ). m / 2 ^ d % 2) z ∙ half d low (sym (half_digit n d) ∙ one) (λ x. f (ap suc x))
    go (suc r) e zero one f half = absurd (f refl)
    go (suc r) e (suc d) one f half =
        let z : (n - 1) / 2 ≡ n / 2 = omega (arith, e) in
        half_digit (n - 1) d ∙ ap (λ (m : ℕ). m / 2 ^ d % 2) z ∙ sym (half_digit n d) ∙ one

-- ---- the bits of a word, visited

-- of the bits of word k of the row c, each that is one stands in the number still, or D holds of it
abbrev pub Left : List ℕ → ℕ → (ℕ → Type 0) → ℕ → Type 0
Left c k D n = (n < 2 ^ 32) × ((j : ℕ) → j < 32 → T (has_bit c 0 (32 * k + j)) → T (lit n j) ⊎ D (32 * k + j))

pub left_all : (c : List ℕ) (k n : ℕ) (D : ℕ → Type 0) → ((b : ℕ) → get_or c b 0 < max_nodes) → n ≡ cell c 0 4 k → Left c k D n
left_all c k n D bytes is = (omega (arith, is, word_lt c 0 bytes k), λ j h t. inl (subst T (bit_of_word c 0 bytes (32 * k + j) ∙ at j h) t))
  where
    at : (j : ℕ) → j < 32 → eqb (cell c 0 4 ((32 * k + j) / 32) / 2 ^ ((32 * k + j) % 32) % 2) 1 ≡ lit n j
    at j h =
        let a : (32 * k + j) / 32 ≡ k = omega arith in
        let b : (32 * k + j) % 32 ≡ j = omega arith in
        ap₂ (λ (i e : ℕ). eqb (cell c 0 4 i / 2 ^ e % 2) 1) a b ∙ ap (λ (m : ℕ). lit m j) (sym is)

-- the lowest one is visited
pub left_turn : (c : List ℕ) (k n n' : ℕ) (D D' : ℕ → Type 0) → (n ≡ 0 → ⊥) → n' ≡ bit_and n (n - 1) → ((x : ℕ) → D x → D' x) → D' (32 * k + count_trailing_zeros 32 n) → Left c k D n → Left c k D' n' × (n' < n)
left_turn c k n n' D D' some is more here x = ((omega (arith, is, and_le_r n (n - 1), x.0), λ j h t. go j h (x.1 j h t) (ℕ_discrete j (count_trailing_zeros 32 n))), omega (arith, is, and_le_r n (n - 1), some))
  where
    go : (j : ℕ) → j < 32 → T (lit n j) ⊎ D (32 * k + j) → Dec (j ≡ count_trailing_zeros 32 n) → T (lit n' j) ⊎ D' (32 * k + j)
    go j h (inr d) e = inr (more (32 * k + j) d)
    go j h (inl t) (yes e) = inr (subst (λ (i : ℕ). D' (32 * k + i)) (sym e) here)
    go j h (inl t) (no f) =
        inl (subst T (sym (ap (λ (m : ℕ). lit m j) is ∙ lit_and n (n - 1) j))
        (and_i (lit n j) (lit (n - 1) j) t (eq_eqb ((n - 1) / 2 ^ j % 2) 1 (one_less 32 n j x.0 (eqb→eq (n / 2 ^ j % 2) 1 t) f))))

-- all were visited
pub left_none : (c : List ℕ) (k n : ℕ) (D : ℕ → Type 0) → n ≡ 0 → Left c k D n → (x : ℕ) → 32 * k ≤ x → x < 32 * k + 32 → T (has_bit c 0 x) → D x
left_none c k n D z y x a b t =
    let e : 32 * k + (x - 32 * k) ≡ x = omega arith in
    subst D e (go (y.1 (x - 32 * k) (omega arith) (subst (λ (i : ℕ). T (has_bit c 0 i)) (sym e) t)))
  where
    go : T (lit n (x - 32 * k)) ⊎ D (32 * k + (x - 32 * k)) → D (32 * k + (x - 32 * k))
    go (inl s) = absurd (subst T (lit_zero (x - 32 * k)) (subst (λ (m : ℕ). T (lit m (x - 32 * k))) z s))
    go (inr d) = d
