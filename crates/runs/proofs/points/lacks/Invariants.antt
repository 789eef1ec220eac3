-- The node lacks nothing of the row if it lacks nothing for each entry state.
use mathlib.Core.Path.{◌≡◌}
use mathlib.Core.Bool.{false}
use Rattle.runs.specs.Worklist.{HasRow}
use Rattle.runs.proofs.points.lacks.Given as goal

abbrev pub invariant-loop-p : goal.invariant-loop-p
invariant-loop-p l = l.some ≡ false → HasRow l.work l.g l.row l.p
