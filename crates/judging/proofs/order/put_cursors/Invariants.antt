use Rattle.judging.specs.Chains.{Outside}
use Rattle.judging.specs.Places.{cursors_base, neighbours_base}
use Rattle.judging.proofs.order.put_cursors.Given as goal

abbrev pub invariant-loop-e : goal.invariant-loop-e
invariant-loop-e l = Outside cursors_base neighbours_base l.initial.work l.work
