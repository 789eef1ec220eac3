use mathlib.Core.Path.{sym, ap, ◌∙◌}
use native.Mathlib.Omega.{arith}
use Rattle.files.specs.Refusal.{graph}
use Rattle.files.specs.Record.Laws.{kind_read}
use Rattle.files.proofs.LookLaws.{after_edge, node_place, node_ordered, two_found, unread_found, read_found, nothing_found}
use Rattle.files.proofs.Tags.{not_node}
use Rattle.files.proofs.offence.look_node.Goals as goal

pub returns-then-edge_before : goal.returns-then-edge_before
returns-then-edge_before c =
    let a = c.args in
    two_found graph a.records.now a.first a.position a.i c.at.result (after_edge a.records.now a.i c.requires.1.1 (sym c.edge_before.ensures ∙ c.if-edge_before.true)) c.at.ensures

pub returns-in_default : goal.returns-in_default
returns-in_default c =
    let a = c.args in
    let p = c.parse_as-p in
    let place = node_place a.records.now a.i c.requires.1.1 (sym c.edge_before.ensures ∙ c.if-edge_before.false) in
    unread_found graph a.records.now a.first a.position a.i 1 (omega arith) (omega arith) place p.result p.ensures (not_node p.result c.in_default.not-Node) c.unread.result c.unread.ensures

pub returns : goal.returns
returns c =
    let a = c.args in
    let p = c.parse_as-p in
    let place = node_place a.records.now a.i c.requires.1.1 (sym c.edge_before.ensures ∙ c.if-edge_before.false) in
    nothing_found graph a.records.now a.first a.position a.i
    (read_found graph a.records.now a.first a.position a.i 1 (omega arith) (omega arith) place p.result p.ensures (ap kind_read c.in-Node.is)) (node_ordered a.records.now a.i c.requires.1.1)
