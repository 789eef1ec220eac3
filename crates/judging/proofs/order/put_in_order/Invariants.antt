use Rattle.judging.specs.Chains.{Outside}
use Rattle.judging.specs.Places.{cursors_base, neighbours_base}
use Rattle.judging.proofs.order.put_in_order.Given as goal

abbrev pub invariant-loop-root : goal.invariant-loop-root
invariant-loop-root l = Outside cursors_base neighbours_base l.initial.work l.work
