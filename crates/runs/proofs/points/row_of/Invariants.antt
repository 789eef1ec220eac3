-- The array is filled from entry state 0 on.
use mathlib.Core.Path.{◌≡◌}
use mathlib.Core.Bool.{cond}
use lib.Bits.{bit_and}
use lib.Dec.{eqb}
use Rattle.runs.specs.Worklist.{reach}
use Rattle.runs.proofs.SummaryLaws.{Placed}
use Rattle.runs.proofs.points.row_of.Given as goal

abbrev pub invariant-loop-p : goal.invariant-loop-p
invariant-loop-p l = Placed (λ b v. v ≡ cond (eqb (bit_and (reach l.work l.g b) l.set) 0) 0 l.y) l.t l.p
