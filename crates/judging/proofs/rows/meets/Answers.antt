use native.Mathlib.Omega.{arith}
use Rattle.judging.proofs.RowLaws.{meets_by}
use Rattle.judging.proofs.rows.meets.Goals as goal

pub returns : goal.returns
returns c = let a = c.args in
    let l = c.loop-k in
    meets_by a.row.now a.work.now a.at l.any l.k c.wide.result l.invariant (omega arith) (omega arith) c.wide.ensures.0 c.wide.ensures.1
