use Rattle.std.proofs.Common.{◌*◌, ◌≤◌}
use Rattle.checker.proofs.ranges.members.Given as goal

abbrev pub invariant-loop-row : goal.invariant-loop-row
invariant-loop-row l = l.n ≤ 8 * l.row-index
