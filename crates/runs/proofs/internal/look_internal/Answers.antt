use native.Mathlib.Omega.{arith}
use Rattle.runs.proofs.SummaryLaws.{to_in}
use Rattle.runs.proofs.SearchLaws.{node_small, may_step, did_step}
use Rattle.runs.proofs.internal.look_internal.Goals as goal

pub overflow_cast-e : goal.overflow_cast-e
overflow_cast-e c =
    let a = c.args in
    let h = c.edge_at-e.ensures in
    omega (arith, node_small a.s a.graph.now a.rules.now c.requires.0 _ (to_in a.s a.graph.now a.rules.now c.requires.0 a.j c.requires.1.0 _ h))

pub push-requires : goal.push-requires
push-requires c =
    let a = c.args in
    let h = c.edge_at-e.ensures in
    may_step a.s a.graph.now a.rules.now c.requires.0 a.start a.head a.tail a.work.now a.g a.q c.requires.1.1.1.0 a.j c.requires.1.0 c.requires.1.1.0 _ h
    c.if-e-eq0.true c.requires.1.1.1.1

pub returns-then-e-eq0 : goal.returns-then-e-eq0
returns-then-e-eq0 c =
    let a = c.args in
    let h = c.edge_at-e.ensures in
    did_step a.s a.graph.now a.rules.now c.requires.0 a.start a.head a.tail a.work.now a.g a.q c.requires.1.1.1.0 a.j c.requires.1.0 c.requires.1.1.0 _ h
    c.if-e-eq0.true c.requires.1.1.1.1 c.push.result c.push.new.work c.push.ensures
