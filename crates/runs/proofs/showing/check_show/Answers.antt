-- Each graph settles its numbers, in argument order, and hands its view on.
use Rattle.files.specs.Settling.Laws.{graph_settles, passed_then, refused_then, hands_on, handed_on}
use Rattle.runs.proofs.showing.check_show.Goals as goal

pub returns-in_err-first-clause-settles : goal.returns-in_err-first-clause-settles
returns-in_err-first-clause-settles c =
    let a = c.args in
    refused_then (graph_settles a.limits 1 a.graph1.now) c.in_err-first.ensures.counted (handed_on _ c.from_residual.ensures.1)

pub returns-in_err-second-clause-settles : goal.returns-in_err-second-clause-settles
returns-in_err-second-clause-settles c =
    let a = c.args in
    passed_then (graph_settles a.limits 1 a.graph1.now) c.in_ok-first.ensures.counted
    (refused_then (graph_settles a.limits 2 a.graph2.now) c.in_err-second.ensures.counted (handed_on _ c.from_residual-in_err-second.ensures.1))

pub returns-clause-settles : goal.returns-clause-settles
returns-clause-settles c =
    let a = c.args in
    passed_then (graph_settles a.limits 1 a.graph1.now) c.in_ok-first.ensures.counted
    (hands_on (graph_settles a.limits 2 a.graph2.now) c.in_ok-second.ensures.counted)
