-- Each check settles its numbers, in the published order; 9 and 10 are asked where the files before them are accepted.
use mathlib.Core.Bool.{◌||◌}
use Rattle.files.specs.Decode.{decode_interface}
use Rattle.files.specs.Outcome.{short, no_start}
use Rattle.files.specs.Refusal.{property, rules, interface}
use Rattle.files.specs.Settling.Laws.{whole_settles, file_settles, settled_as, passed_then, refused_then, handed_on}
use Rattle.files.specs.Sides.{shares, unprovided}
use Rattle.files.specs.View.{accepted_interface}
use Rattle.runs.specs.Unwritten.{both_store, both_work, both_sides}
use Rattle.runs.proofs.unwritten.check_both.Goals as goal

pub returns-in_err-check : goal.returns-in_err-check
returns-in_err-check c =
    let a = c.args in
    passed_then (whole_settles 13 (short both_store a.store || short both_work a.work)) c.in_ok-refuse_if.ensures
    (refused_then (file_settles a.limits 1 interface a.interface1.now) c.in_err-check.ensures (handed_on _ c.from_residual-in_err-check.ensures.1))

pub returns-in_err-check-2 : goal.returns-in_err-check-2
returns-in_err-check-2 c =
    let a = c.args in
    passed_then (whole_settles 13 (short both_store a.store || short both_work a.work)) c.in_ok-refuse_if.ensures
    (passed_then (file_settles a.limits 1 interface a.interface1.now) c.in_ok-check.ensures
    (refused_then (file_settles a.limits 2 property a.property1.now) c.in_err-check-2.ensures (handed_on _ c.from_residual-in_err-check-2.ensures.1)))

pub returns-in_err-check-3 : goal.returns-in_err-check-3
returns-in_err-check-3 c =
    let a = c.args in
    passed_then (whole_settles 13 (short both_store a.store || short both_work a.work)) c.in_ok-refuse_if.ensures
    (passed_then (file_settles a.limits 1 interface a.interface1.now) c.in_ok-check.ensures
    (passed_then (file_settles a.limits 2 property a.property1.now) c.in_ok-check-2.ensures
    (refused_then (file_settles a.limits 3 interface a.interface2.now) c.in_err-check-3.ensures (handed_on _ c.from_residual-in_err-check-3.ensures.1))))

pub returns-in_err-check-4 : goal.returns-in_err-check-4
returns-in_err-check-4 c =
    let a = c.args in
    passed_then (whole_settles 13 (short both_store a.store || short both_work a.work)) c.in_ok-refuse_if.ensures
    (passed_then (file_settles a.limits 1 interface a.interface1.now) c.in_ok-check.ensures
    (passed_then (file_settles a.limits 2 property a.property1.now) c.in_ok-check-2.ensures
    (passed_then (file_settles a.limits 3 interface a.interface2.now) c.in_ok-check-3.ensures
    (refused_then (file_settles a.limits 4 property a.property2.now) c.in_err-check-4.ensures (handed_on _ c.from_residual-in_err-check-4.ensures.1)))))

pub returns-in_err-check-5 : goal.returns-in_err-check-5
returns-in_err-check-5 c =
    let a = c.args in
    passed_then (whole_settles 13 (short both_store a.store || short both_work a.work)) c.in_ok-refuse_if.ensures
    (passed_then (file_settles a.limits 1 interface a.interface1.now) c.in_ok-check.ensures
    (passed_then (file_settles a.limits 2 property a.property1.now) c.in_ok-check-2.ensures
    (passed_then (file_settles a.limits 3 interface a.interface2.now) c.in_ok-check-3.ensures
    (passed_then (file_settles a.limits 4 property a.property2.now) c.in_ok-check-4.ensures
    (refused_then (file_settles a.limits 5 rules a.rules.now) c.in_err-check-5.ensures (handed_on _ c.from_residual-in_err-check-5.ensures.1))))))

pub returns-in_err-refuse_if-2 : goal.returns-in_err-refuse_if-2
returns-in_err-refuse_if-2 c =
    let a = c.args in
    passed_then (whole_settles 13 (short both_store a.store || short both_work a.work)) c.in_ok-refuse_if.ensures
    (passed_then (file_settles a.limits 1 interface a.interface1.now) c.in_ok-check.ensures
    (passed_then (file_settles a.limits 2 property a.property1.now) c.in_ok-check-2.ensures
    (passed_then (file_settles a.limits 3 interface a.interface2.now) c.in_ok-check-3.ensures
    (passed_then (file_settles a.limits 4 property a.property2.now) c.in_ok-check-4.ensures
    (passed_then (file_settles a.limits 5 rules a.rules.now) c.in_ok-check-5.ensures
    (refused_then (whole_settles 3 (no_start a.start)) c.in_err-refuse_if-2.ensures (handed_on _ c.from_residual-in_err-refuse_if-2.ensures.1)))))))

pub returns-in_err-check_apart : goal.returns-in_err-check_apart
returns-in_err-check_apart c =
    let a = c.args in
    passed_then (whole_settles 13 (short both_store a.store || short both_work a.work)) c.in_ok-refuse_if.ensures
    (passed_then (file_settles a.limits 1 interface a.interface1.now) c.in_ok-check.ensures
    (passed_then (file_settles a.limits 2 property a.property1.now) c.in_ok-check-2.ensures
    (passed_then (file_settles a.limits 3 interface a.interface2.now) c.in_ok-check-3.ensures
    (passed_then (file_settles a.limits 4 property a.property2.now) c.in_ok-check-4.ensures
    (passed_then (file_settles a.limits 5 rules a.rules.now) c.in_ok-check-5.ensures
    (passed_then (whole_settles 3 (no_start a.start)) c.in_ok-refuse_if-2.ensures
    (refused_then (whole_settles 9 (shares (decode_interface a.interface1.now) (decode_interface a.interface2.now))) c.in_err-check_apart.ensures (handed_on _ c.from_residual-in_err-check_apart.ensures.1))))))))

pub check_apart-requires : goal.check_apart-requires
check_apart-requires c =
    let a = c.args in
    (accepted_interface a.limits a.interface1.now 1 c.in_ok-check.ensures, accepted_interface a.limits a.interface2.now 3 c.in_ok-check-3.ensures)

pub check_united-requires : goal.check_united-requires
check_united-requires c =
    let a = c.args in
    (accepted_interface a.limits a.interface1.now 1 c.in_ok-check.ensures, accepted_interface a.limits a.interface2.now 3 c.in_ok-check-3.ensures)

pub returns : goal.returns
returns c =
    let a = c.args in
    passed_then (whole_settles 13 (short both_store a.store || short both_work a.work)) c.in_ok-refuse_if.ensures
    (passed_then (file_settles a.limits 1 interface a.interface1.now) c.in_ok-check.ensures
    (passed_then (file_settles a.limits 2 property a.property1.now) c.in_ok-check-2.ensures
    (passed_then (file_settles a.limits 3 interface a.interface2.now) c.in_ok-check-3.ensures
    (passed_then (file_settles a.limits 4 property a.property2.now) c.in_ok-check-4.ensures
    (passed_then (file_settles a.limits 5 rules a.rules.now) c.in_ok-check-5.ensures
    (passed_then (whole_settles 3 (no_start a.start)) c.in_ok-refuse_if-2.ensures
    (passed_then (whole_settles 9 (shares (decode_interface a.interface1.now) (decode_interface a.interface2.now))) c.in_ok-check_apart.ensures
    (settled_as (whole_settles 10 (unprovided (both_sides a.interface1.now a.interface2.now) a.start)) c.check_united.ensures))))))))
