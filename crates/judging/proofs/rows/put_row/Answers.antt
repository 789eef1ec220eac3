use native.Mathlib.Omega.{arith}
use lib.ListN.{get_or}
use Rattle.judging.proofs.RowLaws.{written_beside, stored_bits}
use Rattle.judging.proofs.rows.put_row.Goals as goal

pub returns : goal.returns
returns c = let a = c.args in
    let l = c.loop-k in
    (stored_bits a.row.now a.work.now l.work a.at l.k (omega arith) l.invariant, written_beside (λ j. get_or a.row.now j 0) a.work.now l.work a.at l.k (omega arith) (omega arith) l.invariant)
