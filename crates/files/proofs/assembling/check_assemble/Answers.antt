-- The checks settle in the order of the code.
use Rattle.files.specs.Deliveries.{decode_deliveries, repeated}
use Rattle.files.specs.Deliveries.Met.{accepted_issues}
use Rattle.files.specs.Settling.Laws.{delivery_settles, delivery_known, handed_on, hands_on, passed_then, refused_then, settled_as, whole_settles}
use Rattle.files.proofs.assembling.check_assemble.Goals as goal

pub check_unrepeated-requires : goal.check_unrepeated-requires
check_unrepeated-requires c =
    let a = c.args in
    let l = a.deliveries.now in
    accepted_issues a.limits l (delivery_known (λ cs. cs) a.limits 1 l (hands_on (delivery_settles a.limits 1 l) c.in_ok-check_deliveries.ensures)).0

pub returns-in_err-check_deliveries : goal.returns-in_err-check_deliveries
returns-in_err-check_deliveries c =
    let a = c.args in
    refused_then (delivery_settles a.limits 1 a.deliveries.now) c.in_err-check_deliveries.ensures (handed_on _ c.from_residual.ensures.1)

pub returns : goal.returns
returns c =
    let a = c.args in
    let l = a.deliveries.now in
    passed_then (delivery_settles a.limits 1 l) c.in_ok-check_deliveries.ensures
    (settled_as (whole_settles 14 (repeated (decode_deliveries l))) c.check_unrepeated.ensures)
