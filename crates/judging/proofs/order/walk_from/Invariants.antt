use Prim.Native.Nat.{◌<◌}
use Rattle.judging.specs.Chains.{Outside}
use Rattle.judging.specs.Places.{cursors_base, neighbours_base}
use Rattle.judging.proofs.order.walk_from.Given as goal

abbrev pub invariant-loop : goal.invariant-loop
invariant-loop l = (l.w.node < l.s.first.nodes) × Outside cursors_base neighbours_base l.initial.work l.work
