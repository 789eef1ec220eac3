-- For the code that visits the bits of a row: which one comes next, by the words of 32, and what holds of the bits visited holds of all before the next one.
use mathlib.Core.Path.{◌≡◌, sym, ap, ap₂, subst, ◌∙◌}
use mathlib.Core.Bool.{true, false}
use mathlib.Core.List.{List}
use Prim.Native.Nat.{ℕ, zero, suc, ◌+◌, ◌-◌, ◌*◌, ◌/◌, ◌%◌, ◌^◌, ◌≤◌, ◌<◌}
use native.Mathlib.Decide.{dec_lt}
use native.Mathlib.Nat.{add-zero, zero-div}
use native.Mathlib.Omega.{arith}
use lib.Count.{count_trailing_zeros}
use lib.Dec.{eqb}
use lib.ListN.{get_or}
use lib.Pow.{shr_le, shr-shr}
use Rattle.files.specs.Cells.{cell, has_bit}
use Rattle.files.specs.Places.{byte_end}
use Rattle.judging.specs.Words.{bit_of_word, word_lt, lowest_digit, digits_below}
use Rattle.maximal.specs.Bits.{NextBit}

-- ---- the next bit

module _ (w : List ℕ) (base : ℕ) (bytes : (b : ℕ) → get_or w b 0 < byte_end) where
  abbrev word : ℕ → ℕ
  word i = cell w base 4 i

  -- what is left of the word from bit u on
  module _ (u rest : ℕ) (is : rest ≡ word (u / 32) / 2 ^ (u % 32)) where
    bit_of_rest : (d : ℕ) → u % 32 + d < 32 → has_bit w base (u + d) ≡ eqb (rest / 2 ^ d % 2) 1
    bit_of_rest d h =
        let a : (u + d) / 32 ≡ u / 32 = omega arith in
        let b : (u + d) % 32 ≡ u % 32 + d = omega arith in
        bit_of_word w base bytes (u + d)
        ∙ ap₂ (λ (i e : ℕ). eqb (word i / 2 ^ e % 2) 1) a b
        ∙ ap (λ (x : ℕ). eqb (x % 2) 1) (sym (shr-shr (word (u / 32)) (u % 32) d) ∙ ap (λ (x : ℕ). x / 2 ^ d) (sym is))

    -- a bit of this word that is so far from u
    bit_from : (v x : ℕ) → u ≤ v → v < 32 * (u / 32) + 32 → rest / 2 ^ (v - u) % 2 ≡ x → has_bit w base v ≡ eqb x 1
    bit_from v x h l e =
        let a : v ≡ u + (v - u) = omega arith in
        ap (has_bit w base) a ∙ bit_of_rest (v - u) (omega arith) ∙ ap (λ (y : ℕ). eqb y 1) e

    rest_lt : rest < 2 ^ 32
    rest_lt = omega (arith, is, shr_le (word (u / 32)) (u % 32), word_lt w base bytes (u / 32))

    -- nothing is left beyond the word
    past_word : (d : ℕ) → 32 ≤ u % 32 + d → rest / 2 ^ d ≡ 0
    past_word d h =
        let e : u % 32 + d ≡ 32 + (u % 32 + d - 32) = omega arith in
        let z : word (u / 32) / 2 ^ 32 ≡ 0 = omega (arith, word_lt w base bytes (u / 32)) in
        ap (λ (x : ℕ). x / 2 ^ d) is ∙ shr-shr (word (u / 32)) (u % 32) d ∙ ap (λ (k : ℕ). word (u / 32) / 2 ^ k) e ∙ sym (shr-shr (word (u / 32)) 32 (u % 32 + d - 32)) ∙ ap (λ (x : ℕ). x / 2 ^ (u % 32 + d - 32)) z
        ∙ zero-div (2 ^ (u % 32 + d - 32))

    module _ (t n : ℕ) (onward : t ≤ u) (none : (v : ℕ) → t ≤ v → v < u → v < n → has_bit w base v ≡ false) where
      -- nothing is left: no bit up to the next word
      pub none_in_word : rest ≡ 0 → (v : ℕ) → t ≤ v → v < 32 * (u / 32) + 32 → v < n → has_bit w base v ≡ false
      none_in_word e v h l m = go (dec_lt v u)
        where
          go : Dec (v < u) → has_bit w base v ≡ false
          go (yes k) = none v h k m
          go (no k) = bit_from v 0 (omega arith) l (ap (λ (x : ℕ). x / 2 ^ (v - u) % 2) e ∙ ap (λ (x : ℕ). x % 2) (zero-div (2 ^ (v - u))))

      -- something is left: its lowest bit comes next
      pub next_in_word : (rest ≡ 0 → ⊥) → (r : ℕ) → r ≡ u + count_trailing_zeros 32 rest → NextBit w base t n r
      next_in_word some r e = record {
        onward = omega arith;
        none_before = λ v h l m. go v h l m (dec_lt v u);
        is_one = λ h. bit_from r 1 (omega arith) (omega (arith, within, e)) (ap (λ (d : ℕ). rest / 2 ^ d % 2) far ∙ lowest_digit 32 rest some rest_lt);
      }
        where
          z : ℕ
          z = count_trailing_zeros 32 rest

          far : r - u ≡ z
          far = omega (arith, e)

          within : u % 32 + z < 32
          within = at (dec_lt (u % 32 + z) 32)
            where
              at : Dec (u % 32 + z < 32) → u % 32 + z < 32
              at (yes l) = l
              at (no l) = absurd (omega (arith, lowest_digit 32 rest some rest_lt, past_word z (omega arith)))

          go : (v : ℕ) → t ≤ v → v < r → v < n → Dec (v < u) → has_bit w base v ≡ false
          go v h l m (yes k) = none v h k m
          go v h l m (no k) = bit_from v 0 (omega arith) (omega (arith, within, e)) (digits_below 32 rest (v - u) (omega (arith, e)))

-- ---- bits visited in turn

-- Q holds of the bits before bit r, which is one, or of all n bits
pub record Before (w : List ℕ) (base n : ℕ) (Q : ℕ → Type 0) (r : ℕ) : Type 0 where
  pub here : r < n → Q r
  pub is_one : r < n → has_bit w base r ≡ true
  pub all : n ≤ r → Q n

-- a bit that is zero is passed over
module _ (w : List ℕ) (base n : ℕ) (Q : ℕ → Type 0) (pass : (t : ℕ) → t < n → has_bit w base t ≡ false → Q t → Q (suc t)) where
  passed : (k t : ℕ) → t + k ≤ n → ((u : ℕ) → t ≤ u → u < t + k → has_bit w base u ≡ false) → Q t → Q (t + k)
  passed zero t h none x = subst Q (sym (add-zero t)) x
  passed (suc k) t h none x =
      let e : suc (t + k) ≡ t + suc k = omega arith in
      subst Q e (pass (t + k) (omega arith) (none (t + k) (omega arith) (omega arith)) (passed k t (omega arith) (λ u a b. none u a (omega arith)) x))

  pub visit : (t r : ℕ) → t ≤ n → Q t → NextBit w base t n r → Before w base n Q r
  visit t r h x y = record {
    here = λ l. to r y.onward (omega arith) (λ u a b. y.none_before u a b (omega arith));
    is_one = y.is_one;
    all = λ l. to n h (omega arith) (λ u a b. y.none_before u a (omega arith) b);
  }
    where
      to : (m : ℕ) → t ≤ m → m ≤ n → ((u : ℕ) → t ≤ u → u < m → has_bit w base u ≡ false) → Q m
      to m a b none =
          let e : t + (m - t) ≡ m = omega arith in
          subst Q e (passed (m - t) t (omega arith) (λ u c d. none u c (omega arith)) x)
