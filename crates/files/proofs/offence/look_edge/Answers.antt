use mathlib.Core.Path.{sym, ap, ◌∙◌}
use native.Mathlib.Omega.{arith}
use Rattle.files.specs.Refusal.{graph}
use Rattle.files.specs.Record.Laws.{kind_read}
use Rattle.files.proofs.LookLaws.{edge_place, unread_found, read_found, four_found, nothing_found}
use Rattle.files.proofs.Tags.{not_edge}
use Rattle.files.proofs.offence.look_edge.Goals as goal

pub returns-in_default : goal.returns-in_default
returns-in_default c =
    let a = c.args in
    let p = c.parse_as-p in
    unread_found graph a.records.now a.first a.position a.i 2 (omega arith) (omega arith) (edge_place a.records.now a.i c.requires.1.1) p.result p.ensures (not_edge p.result c.in_default.not-Edge) c.unread.result
    c.unread.ensures

pub returns-then-disordered : goal.returns-then-disordered
returns-then-disordered c =
    let a = c.args in
    let p = c.parse_as-p in
    four_found graph a.records.now a.first a.position a.i c.at.result
    (read_found graph a.records.now a.first a.position a.i 2 (omega arith) (omega arith) (edge_place a.records.now a.i c.requires.1.1) p.result p.ensures (ap kind_read c.in-Edge.is))
    (sym c.disordered.ensures ∙ c.if-disordered.true) c.at.ensures

pub returns : goal.returns
returns c =
    let a = c.args in
    let p = c.parse_as-p in
    nothing_found graph a.records.now a.first a.position a.i
    (read_found graph a.records.now a.first a.position a.i 2 (omega arith) (omega arith) (edge_place a.records.now a.i c.requires.1.1) p.result p.ensures (ap kind_read c.in-Edge.is))
    (sym c.disordered.ensures ∙ c.if-disordered.false)
