-- Each check settles its numbers, in the published order, and hands its graph's view on.
use Rattle.files.specs.Outcome.{short}
use Rattle.files.specs.Settling.Laws.{whole_settles, graph_settles, passed_then, refused_then, hands_on, handed_on}
use Rattle.judging.specs.Places.{compare_room}
use Rattle.judging.proofs.simulate.check_compare.Goals as goal

pub returns-in_err-one-clause-settles : goal.returns-in_err-one-clause-settles
returns-in_err-one-clause-settles c =
    let a = c.args in
    passed_then (whole_settles 13 (short compare_room a.work)) c.in_ok-refuse_if.ensures
    (refused_then (graph_settles a.limits 1 a.first.now) c.in_err-one.ensures.counted (handed_on _ c.from_residual-in_err-one.ensures.1))

pub returns-in_err-two-clause-settles : goal.returns-in_err-two-clause-settles
returns-in_err-two-clause-settles c =
    let a = c.args in
    passed_then (whole_settles 13 (short compare_room a.work)) c.in_ok-refuse_if.ensures
    (passed_then (graph_settles a.limits 1 a.first.now) c.in_ok-one.ensures.counted
    (refused_then (graph_settles a.limits 2 a.second.now) c.in_err-two.ensures.counted (handed_on _ c.from_residual-in_err-two.ensures.1)))

pub returns-clause-settles : goal.returns-clause-settles
returns-clause-settles c =
    let a = c.args in
    passed_then (whole_settles 13 (short compare_room a.work)) c.in_ok-refuse_if.ensures
    (passed_then (graph_settles a.limits 1 a.first.now) c.in_ok-one.ensures.counted
    (hands_on (graph_settles a.limits 2 a.second.now) c.in_ok-two.ensures.counted))
