use Rattle.runs.specs.Joining.Work.{large_refused, short_refused, join_written}
use Rattle.runs.proofs.joining.join_sizes.Goals as goal

pub returns-then-limits-nodes : goal.returns-then-limits-nodes
returns-then-limits-nodes c =
    let a = c.args in
    large_refused a.limits a.interface1.now a.graph1.now a.interface2.now a.graph2.now a.out.now
    a.s c.requires.1.1.0 c.if-limits-nodes.true c.whole.result c.whole.ensures

pub returns-then-out-nodes : goal.returns-then-out-nodes
returns-then-out-nodes c =
    let a = c.args in
    short_refused a.limits a.interface1.now a.graph1.now a.interface2.now a.graph2.now a.out.now
    a.s c.requires.1.1.0 c.if-limits-nodes.false c.if-out-nodes.true c.whole-then-out-nodes.result c.whole-then-out-nodes.ensures

pub returns : goal.returns
returns c =
    let a = c.args in
    let w = c.write_join in
    let p = c.provided_methods in
    let p2 = c.provided_methods-2 in
    let q = c.required_methods in
    let q2 = c.required_methods-2 in
    join_written a.limits a.interface1.now a.graph1.now a.interface2.now a.graph2.now a.out.now
    a.s c.requires.1.1.0 c.if-limits-nodes.false
    c.if-out-nodes.false w.new.out w.ensures
    p.result p2.result q.result q2.result p.ensures p2.ensures q.ensures q2.ensures
