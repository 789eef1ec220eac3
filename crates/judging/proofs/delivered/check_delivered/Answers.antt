-- Each check settles its numbers, in the published order.
use mathlib.Core.Bool.{◌||◌}
use Rattle.files.specs.Deliveries.{decode_deliveries, repeated}
use Rattle.files.specs.Deliveries.Met.{accepted_issues}
use Rattle.files.specs.Outcome.{short}
use Rattle.files.specs.Refusal.{property}
use Rattle.files.specs.Settling.Laws.{whole_settles, delivery_settles, delivery_known, file_settles, settled_as, passed_then, refused_then, hands_on, handed_on}
use Rattle.judging.specs.Delivered.{deliveries_store}
use Rattle.judging.specs.Places.{judge_room}
use Rattle.judging.proofs.delivered.check_delivered.Goals as goal

pub returns-in_err-check_deliveries : goal.returns-in_err-check_deliveries
returns-in_err-check_deliveries c =
    let a = c.args in
    passed_then (whole_settles 13 (short deliveries_store a.store || short judge_room a.work)) c.in_ok-refuse_if.ensures
    (refused_then (delivery_settles a.limits 1 a.deliveries.now) c.in_err-check_deliveries.ensures (handed_on _ c.from_residual-in_err-check_deliveries.ensures.1))

pub returns-in_err-check : goal.returns-in_err-check
returns-in_err-check c =
    let a = c.args in
    passed_then (whole_settles 13 (short deliveries_store a.store || short judge_room a.work)) c.in_ok-refuse_if.ensures
    (passed_then (delivery_settles a.limits 1 a.deliveries.now) c.in_ok-check_deliveries.ensures
    (refused_then (file_settles a.limits 2 property a.property.now) c.in_err-check.ensures (handed_on _ c.from_residual-in_err-check.ensures.1)))

pub check_unrepeated-requires : goal.check_unrepeated-requires
check_unrepeated-requires c =
    let a = c.args in
    let l = a.deliveries.now in
    accepted_issues a.limits l (delivery_known (λ cs. cs) a.limits 1 l (hands_on (delivery_settles a.limits 1 l) c.in_ok-check_deliveries.ensures)).0

pub returns : goal.returns
returns c =
    let a = c.args in
    let l = a.deliveries.now in
    passed_then (whole_settles 13 (short deliveries_store a.store || short judge_room a.work)) c.in_ok-refuse_if.ensures
    (passed_then (delivery_settles a.limits 1 l) c.in_ok-check_deliveries.ensures
    (passed_then (file_settles a.limits 2 property a.property.now) c.in_ok-check.ensures (settled_as (whole_settles 14 (repeated (decode_deliveries l))) c.check_unrepeated.ensures)))
