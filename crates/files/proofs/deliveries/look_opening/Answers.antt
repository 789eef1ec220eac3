use mathlib.Core.Path.{sym, ap, ◌∙◌}
use Rattle.std.specs.Prelude.{not, is_some}
use Rattle.files.specs.Record.{record_at}
use Rattle.files.specs.Deliveries.Looks.{wrong_read, right_read, opening_refused, opening_right}
use Rattle.files.proofs.deliveries.look_opening.Goals as goal

pub returns-then-is_none : goal.returns-then-is_none
returns-then-is_none c =
    let a = c.args in
    let w = wrong_read (record_at a.file.now a.i) (ap is_some (sym c.read_opening.ensures) ∙ c.is_none.ensures ∙ ap not c.if-is_none.true) in
    opening_refused a.file.now a.position a.i c.requires.1 w c.at.result c.at.ensures

pub returns : goal.returns
returns c =
    let a = c.args in
    let w = right_read (record_at a.file.now a.i) (ap is_some (sym c.read_opening.ensures) ∙ c.is_none.ensures ∙ ap not c.if-is_none.false) in
    opening_right a.file.now a.position a.i c.requires.1 w
