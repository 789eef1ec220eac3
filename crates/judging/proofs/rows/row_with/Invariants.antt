use mathlib.Core.Path.{◌≡◌}
use Prim.Native.Nat.{ℕ, ◌+◌, ◌<◌}
use lib.Bits.{bit_or}
use lib.ListN.{length, get_or}
use Rattle.files.specs.Places.{line_bytes}
use Rattle.judging.proofs.rows.row_with.Given as goal

abbrev pub invariant-loop-k : goal.invariant-loop-k
invariant-loop-k l = (length l.both ≡ line_bytes) × ((j : ℕ) → j < l.k → get_or l.both (0 + j) 0 ≡ bit_or (get_or l.row j 0) (get_or l.work (l.at + j) 0))
