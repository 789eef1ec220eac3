use mathlib.Core.Path.{refl, sym, ap, ◌∙◌}
use native.Mathlib.Omega.{arith}
use Rattle.files.specs.Refusal.{rules}
use Rattle.files.specs.Record.Laws.{kind_read}
use Rattle.files.proofs.LookLaws.{unread_found, read_found, four_found, nothing_found}
use Rattle.files.proofs.Tags.{not_rule}
use Rattle.files.proofs.offence.look_rule.Goals as goal

pub returns-in_default : goal.returns-in_default
returns-in_default c =
    let a = c.args in
    let p = c.parse_as-p in
    unread_found rules a.records.now a.first a.position a.i 4 (omega arith) (omega arith) refl p.result p.ensures (not_rule p.result c.in_default.not-Rule) c.unread.result c.unread.ensures

pub returns-then-disordered : goal.returns-then-disordered
returns-then-disordered c =
    let a = c.args in
    let p = c.parse_as-p in
    four_found rules a.records.now a.first a.position a.i c.at.result
    (read_found rules a.records.now a.first a.position a.i 4 (omega arith) (omega arith) refl p.result p.ensures (ap kind_read c.in-Rule.is))
    (sym c.disordered.ensures ∙ c.if-disordered.true) c.at.ensures

pub returns : goal.returns
returns c =
    let a = c.args in
    let p = c.parse_as-p in
    nothing_found rules a.records.now a.first a.position a.i
    (read_found rules a.records.now a.first a.position a.i 4 (omega arith) (omega arith) refl p.result p.ensures (ap kind_read c.in-Rule.is))
    (sym c.disordered.ensures ∙ c.if-disordered.false)
