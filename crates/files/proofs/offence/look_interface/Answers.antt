use mathlib.Core.Path.{refl, ap}
use native.Mathlib.Omega.{arith}
use Rattle.files.specs.Refusal.{interface}
use Rattle.files.specs.Record.Laws.{kind_read}
use Rattle.files.proofs.LookLaws.{interface_place, second_interface, two_found, unread_found, read_found, nothing_found}
use Rattle.files.proofs.Tags.{not_interface}
use Rattle.files.proofs.offence.look_interface.Goals as goal

pub returns-then-i-ge1 : goal.returns-then-i-ge1
returns-then-i-ge1 c =
    let a = c.args in
    two_found interface a.records.now a.first a.position a.i c.at.result (second_interface a.records.now a.i c.if-i-ge1.true) c.at.ensures

pub returns-in_default : goal.returns-in_default
returns-in_default c =
    let a = c.args in
    let p = c.parse_as-p in
    let place = interface_place a.records.now a.i c.if-i-ge1.false in
    unread_found interface a.records.now a.first a.position a.i 5 (omega arith) (omega arith) place p.result p.ensures (not_interface p.result c.in_default.not-Interface) c.unread.result c.unread.ensures

pub returns : goal.returns
returns c =
    let a = c.args in
    let p = c.parse_as-p in
    let place = interface_place a.records.now a.i c.if-i-ge1.false in
    nothing_found interface a.records.now a.first a.position a.i
    (read_found interface a.records.now a.first a.position a.i 5 (omega arith) (omega arith) place p.result p.ensures (ap kind_read c.in-Interface.is)) refl
