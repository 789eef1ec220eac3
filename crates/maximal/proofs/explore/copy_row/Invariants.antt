use Rattle.maximal.proofs.SlotLaws.{Filled, row_bytes}
use Rattle.maximal.proofs.explore.copy_row.Given as goal

abbrev pub invariant-loop-k : goal.invariant-loop-k
invariant-loop-k l = Filled l.initial.work l.q (row_bytes l.initial.work l.p) l.k l.work
