-- Each check settles its numbers, in the published order, and the graph's hands its view on.
use Rattle.files.specs.Outcome.{short}
use Rattle.files.specs.Refusal.{property}
use Rattle.files.specs.Settling.Laws.{whole_settles, graph_settles, file_settles, passed_then, refused_then, hands_on, handed_on}
use Rattle.judging.specs.Places.{judge_room}
use Rattle.judging.proofs.decide.check_judge.Goals as goal

pub returns-in_err-view-clause-settles : goal.returns-in_err-view-clause-settles
returns-in_err-view-clause-settles c =
    let a = c.args in
    passed_then (whole_settles 13 (short judge_room a.work)) c.in_ok-refuse_if.ensures
    (refused_then (graph_settles a.limits 1 a.graph.now) c.in_err-view.ensures.counted (handed_on _ c.from_residual-in_err-view.ensures.1))

pub returns-in_err-check-clause-settles : goal.returns-in_err-check-clause-settles
returns-in_err-check-clause-settles c =
    let a = c.args in
    passed_then (whole_settles 13 (short judge_room a.work)) c.in_ok-refuse_if.ensures
    (passed_then (graph_settles a.limits 1 a.graph.now) c.in_ok-view.ensures.counted
    (refused_then (file_settles a.limits 2 property a.property.now) c.in_err-check.ensures (handed_on _ c.from_residual-in_err-check.ensures.1)))

pub returns-clause-settles : goal.returns-clause-settles
returns-clause-settles c =
    let a = c.args in
    passed_then (whole_settles 13 (short judge_room a.work)) c.in_ok-refuse_if.ensures
    (passed_then (graph_settles a.limits 1 a.graph.now) c.in_ok-view.ensures.counted
    (hands_on (file_settles a.limits 2 property a.property.now) c.in_ok-check.ensures))
