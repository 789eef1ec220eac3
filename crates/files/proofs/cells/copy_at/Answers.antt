use mathlib.Core.Path.{refl}
use native.Mathlib.Omega.{arith}
use lib.Seq.{paste-zero}
use borrow.Author.Rules.{rules}
use Rattle.files.specs.Cells.Laws.{copy_on, copy_all}
use Rattle.files.proofs.cells.copy_at.Goals as goal

pub loop-i-init : goal.loop-i-init
loop-i-init c = paste-zero c.args.dst.now c.args.at c.args.src.now

pub loop-i-preserved : goal.loop-i-preserved
loop-i-preserved c =
    let l = c.loop-i in
    let a = c.args in
    copy_on a.dst.now a.src.now l.dst a.at l.i _ (omega arith) (omega arith) refl l.invariant

pub returns : goal.returns
returns c =
    let a = c.args in
    copy_all a.dst.now a.src.now c.loop-i.dst a.at c.loop-i.i (omega arith) c.loop-i.invariant
