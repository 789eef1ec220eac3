-- Each check settles its numbers, in the published order.
use Rattle.files.specs.Outcome.{short}
use Rattle.files.specs.Refusal.{interface, property}
use Rattle.files.specs.Settling.Laws.{whole_settles, file_settles, passed_then, refused_then, hands_on, handed_on}
use Rattle.maximal.specs.Places.{model_room}
use Rattle.maximal.proofs.build.check_model.Goals as goal

pub returns-in_err-check : goal.returns-in_err-check
returns-in_err-check c =
    let a = c.args in
    passed_then (whole_settles 13 (short model_room a.work)) c.in_ok-refuse_if.ensures
    (refused_then (file_settles a.limits 1 interface a.interface.now) c.in_err-check.ensures (handed_on _ c.from_residual-in_err-check.ensures.1))

pub returns-in_err-check-2 : goal.returns-in_err-check-2
returns-in_err-check-2 c =
    let a = c.args in
    passed_then (whole_settles 13 (short model_room a.work)) c.in_ok-refuse_if.ensures
    (passed_then (file_settles a.limits 1 interface a.interface.now) c.in_ok-check.ensures
    (refused_then (file_settles a.limits 2 property a.property.now) c.in_err-check-2.ensures (handed_on _ c.from_residual-in_err-check-2.ensures.1)))

pub returns : goal.returns
returns c =
    let a = c.args in
    passed_then (whole_settles 13 (short model_room a.work)) c.in_ok-refuse_if.ensures
    (passed_then (file_settles a.limits 1 interface a.interface.now) c.in_ok-check.ensures
    (hands_on (file_settles a.limits 2 property a.property.now) c.in_ok-check-2.ensures))
