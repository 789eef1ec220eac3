use native.Mathlib.Omega.{arith}
use Rattle.judging.proofs.RowLaws.{any_by}
use Rattle.judging.proofs.rows.any_at.Goals as goal

pub returns : goal.returns
returns c = let a = c.args in
    let l = c.loop-byte in
    any_by a.work.now a.at l.any l.byte-index c.wide.result l.invariant (omega arith) (omega arith) c.wide.ensures.0 c.wide.ensures.1
