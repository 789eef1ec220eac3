use Prim.Native.Nat.{◌*◌}
use Rattle.files.specs.Decode.{decode_graph}
use Rattle.judging.specs.Chains.{Chained, Outside}
use Rattle.judging.specs.Places.{cursors_base, heads_base, nexts_base}
use Rattle.judging.specs.Refinement.{labelled_into}
use Rattle.judging.proofs.relation.link_slots.Given as goal

abbrev pub invariant-loop-e : goal.invariant-loop-e
invariant-loop-e l = Chained l.work heads_base nexts_base (labelled_into (decode_graph l.first)) (9 * l.s.first.nodes) l.e × Outside heads_base cursors_base l.initial.work l.work
