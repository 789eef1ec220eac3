use Rattle.runs.proofs.SummaryLaws.{reached_more}
use Rattle.runs.proofs.points.reached_any.Goals as goal

pub loop-p-preserved : goal.loop-p-preserved
loop-p-preserved c =
    let a = c.args in
    let l = c.loop-p in
    reached_more a.work.now a.g l.y l.p c.get-y.result c.get-y.ensures l.invariant
