use mathlib.Core.Path.{◌≡◌}
use Prim.Native.Nat.{ℕ, ◌+◌, ◌-◌, ◌<◌}
use lib.Bits.{bit_and}
use lib.ListN.{length, get_or}
use Rattle.files.specs.Places.{line_bytes, max_nodes}
use Rattle.judging.proofs.rows.row_without.Given as goal

abbrev pub invariant-loop-k : goal.invariant-loop-k
invariant-loop-k l = (length l.rest ≡ line_bytes) × ((j : ℕ) → j < l.k → get_or l.rest (0 + j) 0 ≡ bit_and (get_or l.work (l.at + j) 0) (255 - get_or l.row j 0)) × ((j : ℕ) → j < l.k → get_or l.row j 0 < max_nodes)
