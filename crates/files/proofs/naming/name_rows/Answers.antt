use Rattle.files.proofs.LookLaws.{row_past, rows_there}
use Rattle.files.proofs.Tags.{not_row}
use Rattle.files.proofs.naming.name_rows.Goals as goal

pub returns-in_default : goal.returns-in_default
returns-in_default c =
    let a = c.args in
    let r = c.row_within in
    row_past a.records.now c.requires.0 a.first a.position a.i c.requires.1.1.0 a.rows c.requires.1.0 r.result r.ensures (not_row r.result c.in_default.not-Row) c.at.result c.at.ensures

pub returns : goal.returns
returns c =
    let a = c.args in
    let r = c.row_within in
    rows_there a.records.now c.requires.0 a.first a.position a.i c.requires.1.1.0 a.rows c.requires.1.0 r.result r.ensures _ _ _ c.in-Row.is
