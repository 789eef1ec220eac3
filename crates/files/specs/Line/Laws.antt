-- The line of a row of bits is that row's 32 bytes.
use Rattle.std.specs.Prelude.{◌≡◌, refl, Bool, List, ℕ, zero, suc, ◌+◌, ◌*◌, ◌/◌, ◌%◌, ◌^◌, ◌<◌, eqb, length, get_or}
use Rattle.std.proofs.Common.{◌∙◌, arith}
use Rattle.files.specs.Basics.Tables.{table, length_table, getD_table}
use Rattle.files.specs.Basics.Binary.{value}
use Rattle.files.specs.Basics.Tests.{one}
use Rattle.files.specs.Cells.{has_bit}
use Rattle.files.specs.Cells.Laws.{has_bit_is}
use Rattle.files.specs.Line.{relation_line}

pub line_size : (v : ℕ → Bool) → length (relation_line v) ≡ 32
line_size v = length_table (λ k. value (table v (8 * k) 8)) 0 32

-- a digit of two values, as a flag and back
flag : (d : ℕ) → d < 2 → one (eqb d 1) ≡ d
flag zero h = refl
flag (suc zero) h = refl
flag (suc (suc d)) h = absurd (omega arith)

-- the digits from place i on, from those after it
half : (i x d r : ℕ) → i < 7 → d ≡ x / 2 ^ i % 2 → r ≡ x / 2 ^ suc i → d + 2 * r ≡ x / 2 ^ i
half zero x d r h e f = omega arith
half (suc zero) x d r h e f = omega arith
half (suc (suc zero)) x d r h e f = omega arith
half (suc (suc (suc zero))) x d r h e f = omega arith
half (suc (suc (suc (suc zero)))) x d r h e f = omega arith
half (suc (suc (suc (suc (suc zero))))) x d r h e f = omega arith
half (suc (suc (suc (suc (suc (suc zero)))))) x d r h e f = omega arith
half (suc (suc (suc (suc (suc (suc (suc i))))))) x d r h e f = absurd (omega arith)

last : (x d : ℕ) → x < 256 → d ≡ x / 2 ^ 7 % 2 → d + 0 ≡ x / 2 ^ 7
last x d h e = omega arith

whole : (x : ℕ) → x / 2 ^ 0 ≡ x
whole x = omega arith

-- a byte is the sum of its eight digits
digits : (x d0 d1 d2 d3 d4 d5 d6 d7 : ℕ) → x < 256 → d0 ≡ x / 2 ^ 0 % 2 → d1 ≡ x / 2 ^ 1 % 2 → d2 ≡ x / 2 ^ 2 % 2 → d3 ≡ x / 2 ^ 3 % 2 → d4 ≡ x / 2 ^ 4 % 2 → d5 ≡ x / 2 ^ 5 % 2 → d6 ≡ x / 2 ^ 6 % 2 → d7 ≡ x / 2 ^ 7 % 2
    → d0 + 2 * (d1 + 2 * (d2 + 2 * (d3 + 2 * (d4 + 2 * (d5 + 2 * (d6 + 2 * (d7 + 0))))))) ≡ x
digits x d0 d1 d2 d3 d4 d5 d6 d7 h e0 e1 e2 e3 e4 e5 e6 e7 =
    half 0 x d0 _ (omega arith) e0 (half 1 x d1 _ (omega arith) e1 (half 2 x d2 _ (omega arith) e2 (half 3 x d3 _ (omega arith) e3 (half 4 x d4 _ (omega arith) e4 (half 5 x d5 _ (omega arith) e5 (half 6 x d6 _ (omega arith) e6 (last x d7 h e7))))))) ∙ whole x

module _ (l : List ℕ) (base k : ℕ) (byte : get_or l (base + k) 0 < 256) where
  digit : (i h : ℕ) → i < 8 → h ≡ 8 * k + i → one (has_bit l base h) ≡ get_or l (base + k) 0 / 2 ^ i % 2
  digit i h b e =
      let q : h / 8 ≡ k = omega arith in
      let r : h % 8 ≡ i = omega arith in
      rw (has_bit_is l base h, q, r) (flag (get_or l (base + k) 0 / 2 ^ i % 2) (omega arith))

  -- byte k of the line is byte k of the row
  pub line_byte : k < 32 → get_or (relation_line (has_bit l base)) k 0 ≡ get_or l (base + k) 0
  line_byte h =
      let d0 = digit 0 (8 * (0 + k)) (omega arith) (omega arith) in
      let d1 = digit 1 (suc (8 * (0 + k))) (omega arith) (omega arith) in
      let d2 = digit 2 (suc (suc (8 * (0 + k)))) (omega arith) (omega arith) in
      let d3 = digit 3 (suc (suc (suc (8 * (0 + k))))) (omega arith) (omega arith) in
      let d4 = digit 4 (suc (suc (suc (suc (8 * (0 + k)))))) (omega arith) (omega arith) in
      let d5 = digit 5 (suc (suc (suc (suc (suc (8 * (0 + k))))))) (omega arith) (omega arith) in
      let d6 = digit 6 (suc (suc (suc (suc (suc (suc (8 * (0 + k)))))))) (omega arith) (omega arith) in
      let d7 = digit 7 (suc (suc (suc (suc (suc (suc (suc (8 * (0 + k))))))))) (omega arith) (omega arith) in
      getD_table (λ j. value (table (has_bit l base) (8 * j) 8)) 0 32 k 0 h ∙ digits (get_or l (base + k) 0) _ _ _ _ _ _ _ _ byte d0 d1 d2 d3 d4 d5 d6 d7
