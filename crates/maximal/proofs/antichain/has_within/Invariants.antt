-- None of the first i sets is within s.
use mathlib.Core.Bool.{not}
use Prim.Native.Nat.{ℕ, ◌<◌}
use lib.Dec.{T}
use Rattle.files.specs.Cells.{cell}
use Rattle.maximal.specs.Masks.{within}
use Rattle.maximal.specs.Places.{candidates_base}
use Rattle.maximal.proofs.antichain.has_within.Given as goal

abbrev pub invariant-loop-i : goal.invariant-loop-i
invariant-loop-i l = (j : ℕ) → j < l.i → T (not (within (cell l.work candidates_base 4 j) l.s))
