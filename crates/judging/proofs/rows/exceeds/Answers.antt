use native.Mathlib.Omega.{arith}
use Rattle.judging.proofs.RowLaws.{exceeds_by}
use Rattle.judging.proofs.rows.exceeds.Goals as goal

pub returns : goal.returns
returns c = let a = c.args in
    let l = c.loop-k in
    exceeds_by a.work.now a.at a.less l.any l.k c.wide.result l.invariant.0 l.invariant.1 (omega arith) (omega arith) c.wide.ensures.0 c.wide.ensures.1
