use mathlib.Core.Path.{refl, ◌∙◌}
use Rattle.files.specs.Refusal.{graph, rules, edge_key, rule_key}
use Rattle.files.proofs.LookLaws.{three_not_ascending, four_not_ascending, neighbours_disordered}
use Rattle.files.proofs.offence.disordered.Goals as goal

pub returns-in-Graph : goal.returns-in-Graph
returns-in-Graph c =
    let a = c.args in
    let r = c.read-r in
    let s = c.read-s in
    rw c.in-Graph.is (neighbours_disordered graph a.records.now 2 edge_key (λ j. refl) r.result s.result c.ge.result a.i c.if-i-eq0.false r.ensures s.ensures
    (c.ge.ensures ∙ three_not_ascending r.result.first r.result.second r.result.third s.result.first s.result.second s.result.third))

pub returns-in-Rules : goal.returns-in-Rules
returns-in-Rules c =
    let a = c.args in
    let r = c.read-r in
    let s = c.read-s in
    rw c.in-Rules.is (neighbours_disordered rules a.records.now 4 rule_key (λ j. refl) r.result s.result c.ge-in-Rules.result a.i c.if-i-eq0.false r.ensures s.ensures
    (c.ge-in-Rules.ensures ∙ four_not_ascending r.result.first r.result.second r.result.third r.result.fourth s.result.first s.result.second s.result.third s.result.fourth))
