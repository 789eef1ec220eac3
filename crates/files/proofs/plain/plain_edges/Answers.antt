use native.Mathlib.Omega.{arith}
use Rattle.files.proofs.PlainLaws.{edge_turn}
use Rattle.files.proofs.plain.plain_edges.Goals as goal

pub loop-i-preserved : goal.loop-i-preserved
loop-i-preserved c =
    let l = c.loop-i in
    let a = c.args in
    let x = c.read-r in
    let n = c.edge_number-number in
    let w = c.edge_wrong in
    let b = c.inside in
    let bytes = c.type_inv.records in
    let on = edge_turn a.records.now (λ p. omega (arith, bytes p)) a.nodes l.i l.least n.result x.result w.result b.result
    x.ensures n.ensures w.ensures b.ensures c.if-right-inside.false (omega arith) l.invariant.0 l.invariant.1 in
    (on.0, on.1)
