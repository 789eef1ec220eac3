-- Numbers of several bytes, bits and runs of bytes, as they stand in a lent list of bytes, and the list after one of them is stored. The code's stores equal these.
use Rattle.std.specs.Prelude.{Bool, List, ◌++◌, ℕ, zero, suc, ◌+◌, ◌*◌, ◌/◌, ◌%◌, ◌^◌, eqb, length, get_or, set, take, drop}
use Rattle.std.specs.Int.Bits.{bit_or}
use Rattle.files.specs.Places.{byte_end}
pub mod Laws
pub mod Wrote

-- the number of n bytes from p on, low byte first
pub little : List ℕ → ℕ → ℕ → ℕ
little l p zero = 0
little l p (suc n) = get_or l p 0 + byte_end * little l (suc p) n

-- n bytes of v stored from p on, low byte first
pub put_little : List ℕ → ℕ → ℕ → ℕ → List ℕ
put_little l p zero v = l
put_little l p (suc n) v = put_little (set l p (v % byte_end)) (suc p) n (v / byte_end)

-- cell i of width w in the region from base on
pub cell : List ℕ → ℕ → ℕ → ℕ → ℕ
cell l base w i = little l (base + w * i) w

-- the list with v in cell i
pub put_cell : List ℕ → ℕ → ℕ → ℕ → ℕ → List ℕ
put_cell l base w i v = put_little l (base + w * i) w v

-- bit h of the row of bits from base on: weight 2 ^ (h mod 8) of byte h / 8
pub has_bit : List ℕ → ℕ → ℕ → Bool
has_bit l base h = eqb (get_or l (base + h / 8) 0 / 2 ^ (h % 8) % 2) 1

-- the list with bit h
pub put_bit : List ℕ → ℕ → ℕ → List ℕ
put_bit l base h = set l (base + h / 8) (bit_or (get_or l (base + h / 8) 0) (2 ^ (h % 8)))

-- xs stored from place p on
pub put_at : List ℕ → ℕ → List ℕ → List ℕ
put_at l p xs = take p l ++ xs ++ drop (p + length xs) l
