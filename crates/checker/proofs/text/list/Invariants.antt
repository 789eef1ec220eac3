use Rattle.std.proofs.Common.{◌≤◌}
use Rattle.checker.proofs.text.list.Given as goal

abbrev pub invariant-loop-record : goal.invariant-loop-record
invariant-loop-record l = l.i ≤ l.record-index
