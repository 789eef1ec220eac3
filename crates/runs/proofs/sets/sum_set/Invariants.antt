use mathlib.Core.Path.{◌≡◌}
use Rattle.runs.specs.Worklist.{sums}
use Rattle.runs.specs.Worklist.Unions.{union_to}
use Rattle.runs.proofs.sets.sum_set.Given as goal

abbrev pub invariant-loop-p : goal.invariant-loop-p
invariant-loop-p l = l.y ≡ union_to (sums l.table l.m) l.x l.p
