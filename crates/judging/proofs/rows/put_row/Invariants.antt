use lib.ListN.{get_or}
use Rattle.judging.specs.Refinement.Rows.{Bytes}
use Rattle.judging.proofs.rows.put_row.Given as goal

abbrev pub invariant-loop-k : goal.invariant-loop-k
invariant-loop-k l = Bytes (λ j. get_or l.row j 0) l.initial.work l.at l.k l.work
