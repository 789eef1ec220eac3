use mathlib.Core.Path.{refl}
use lib.ListN.{get_or}
use Rattle.runs.proofs.SummaryLaws.{has_more}
use Rattle.runs.proofs.points.lacks.Goals as goal

pub loop-p-preserved : goal.loop-p-preserved
loop-p-preserved c =
    let a = c.args in
    let l = c.loop-p in
    let x = c.get-x in
    has_more a.work.now a.g a.row.now l.p x.result (get_or a.row.now l.p 0) l.some x.ensures refl l.invariant
