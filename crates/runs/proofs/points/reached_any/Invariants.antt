use Rattle.runs.proofs.SummaryLaws.{ReachedTo}
use Rattle.runs.proofs.points.reached_any.Given as goal

abbrev pub invariant-loop-p : goal.invariant-loop-p
invariant-loop-p l = ReachedTo l.work l.g l.y l.p
