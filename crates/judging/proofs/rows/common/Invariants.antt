use mathlib.Core.Path.{◌≡◌}
use Prim.Native.Nat.{ℕ, ◌+◌, ◌<◌}
use lib.Bits.{bit_and}
use lib.ListN.{length, get_or}
use Rattle.files.specs.Places.{line_bytes}
use Rattle.judging.proofs.rows.common.Given as goal

abbrev pub invariant-loop-k : goal.invariant-loop-k
invariant-loop-k l = (length l.both ≡ line_bytes) × ((j : ℕ) → j < l.k → get_or l.both (0 + j) 0 ≡ bit_and (get_or l.row j 0) (get_or l.other j 0))
