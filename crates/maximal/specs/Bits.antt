-- A row of bits in a lent buffer, of which those that are one are visited in turn.
use Rattle.std.specs.Prelude.{◌≡◌, true, false, List, ℕ, ◌≤◌, ◌<◌}
use Rattle.files.specs.Cells.{has_bit}

-- r is the first bit from t on that is one, below n; n or more where there is none
pub record NextBit (w : List ℕ) (base t n r : ℕ) : Type 0 where
  pub onward : t ≤ r
  pub none_before : (u : ℕ) → t ≤ u → u < r → u < n → has_bit w base u ≡ false
  pub is_one : r < n → has_bit w base r ≡ true
