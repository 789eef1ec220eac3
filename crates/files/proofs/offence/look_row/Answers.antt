use mathlib.Core.Path.{refl, ap}
use native.Mathlib.Omega.{arith}
use Rattle.files.specs.Refusal.{property}
use Rattle.files.specs.Record.Laws.{kind_read}
use Rattle.files.proofs.LookLaws.{unread_found, read_found, nothing_found}
use Rattle.files.proofs.Tags.{not_row}
use Rattle.files.proofs.offence.look_row.Goals as goal

pub returns-in_default : goal.returns-in_default
returns-in_default c =
    let a = c.args in
    let p = c.parse_as-p in
    unread_found property a.records.now a.first a.position a.i 3 (omega arith) (omega arith) refl p.result p.ensures (not_row p.result c.in_default.not-Row) c.unread.result c.unread.ensures

pub returns : goal.returns
returns c =
    let a = c.args in
    let p = c.parse_as-p in
    nothing_found property a.records.now a.first a.position a.i
    (read_found property a.records.now a.first a.position a.i 3 (omega arith) (omega arith) refl p.result p.ensures (ap kind_read c.in-Row.is)) refl
