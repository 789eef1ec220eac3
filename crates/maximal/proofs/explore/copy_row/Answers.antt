use native.Mathlib.Omega.{arith}
use Rattle.maximal.proofs.SlotLaws.{row_bytes, filled_on, copied_byte, copied_all}
use Rattle.maximal.proofs.explore.copy_row.Goals as goal

pub loop-k-preserved : goal.loop-k-preserved
loop-k-preserved c =
    let a = c.args in
    let l = c.loop-k in
    let x = c.get-byte in
    let y = c.put in
    filled_on a.work.now l.work a.q l.k (row_bytes a.work.now a.p) l.invariant (omega (arith, c.requires.1.0)) (omega (arith, c.requires.1.1)) (omega arith) x.result y.new.work (omega arith) (copied_byte a.work.now l.work a.p a.q l.k x.result c.requires.0 (omega arith) l.invariant.1 x.ensures) y.ensures

pub returns : goal.returns
returns c =
    let a = c.args in
    let l = c.loop-k in
    (copied_all a.work.now l.work a.p a.q l.k l.invariant (omega arith), l.invariant.1)
