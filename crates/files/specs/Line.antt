-- A line of a relation: 256 bits in 32 bytes, laid out as a row of bits in a lent buffer is.
use Rattle.std.specs.Prelude.{Bool, List, ℕ, ◌*◌}
use Rattle.files.specs.Basics.Tables.{table}
use Rattle.files.specs.Basics.Binary.{value}
pub mod Laws

-- "node h is bit weight 2^(h mod 8) of byte h/8 rounded down, unused bits 0"
abbrev pub relation_line : (ℕ → Bool) → List ℕ
relation_line v = table (λ k. value (table v (8 * k) 8)) 0 32
