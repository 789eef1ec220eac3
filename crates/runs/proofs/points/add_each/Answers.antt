use lib.ListN.{get_or}
use Rattle.runs.proofs.SummaryLaws.{node_in, may_add, row_more}
use Rattle.runs.proofs.points.add_each.Goals as goal

pub add-end-requires : goal.add-end-requires
add-end-requires c =
    let a = c.args in
    let l = c.loop-p in
    may_add a.s a.graph.now a.rules.now c.requires.0 l.end l.work l.invariant.0.holding a.g l.p (get_or a.row.now l.p 0) (node_in a.s a.graph.now a.rules.now c.requires.0 a.g c.requires.1.0) c.loop-p-test.true (c.requires.1.1.1 l.p c.loop-p-test.true).0

pub loop-p-preserved : goal.loop-p-preserved
loop-p-preserved c =
    let a = c.args in
    let l = c.loop-p in
    let x = c.add-end in
    let h = c.loop-p-test.true in
    let n = row_more a.s a.graph.now a.rules.now c.requires.0 a.tail l.end a.work.now l.work l.invariant.0 a.g c.requires.1.0 a.row.now c.requires.1.1.1 l.p h l.invariant.1
    x.result x.new.work x.ensures in
    n
