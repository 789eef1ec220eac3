use native.Mathlib.Omega.{arith}
use Rattle.files.specs.Decode.{decode_graph, decode_rules}
use Rattle.files.specs.Rules.{watch}
use Rattle.runs.specs.Searching.{place}
use Rattle.runs.specs.Searching.Outgoing.{internals_out}
use Rattle.runs.proofs.SearchLaws.{series_here, series_end, one_may, one_looked, the_internals, internals_next, edge_owned, edges_past}
use Rattle.runs.proofs.internal.look_internals.Goals as goal

pub look_internal-end-requires : goal.look_internal-end-requires
look_internal-end-requires c =
    let a = c.args in
    let l = c.loop-j in
    let t = c.loop-j-test.true in
    let d = edge_owned a.s a.graph.now a.rules.now c.requires.0 a.g a.work.now c.requires.1.0.at_node _ l.j c.requires.1.1.searching.tables c.get-last.ensures l.invariant.0 t in
    let o = internals_next (decode_graph a.graph.now) (watch (decode_rules a.rules.now)) a.start (place a.g a.q) l.j d.2 in
    (c.requires.0, (d.0, (d.1, (series_here (decode_graph a.graph.now) (watch (decode_rules a.rules.now)) a.start a.head (the_internals (decode_graph a.graph.now) (watch (decode_rules a.rules.now)) a.start (place a.g a.q)) a.tail a.work.now l.j l.work l.end l.invariant.1 (place a.g a.q) c.requires.1.0, one_may (decode_graph a.graph.now) (watch (decode_rules a.rules.now)) a.start a.head (the_internals (decode_graph a.graph.now) (watch (decode_rules a.rules.now)) a.start (place a.g a.q)) a.tail a.work.now l.j l.work l.end l.invariant.1 o c.requires.1.1))))

pub loop-j-preserved : goal.loop-j-preserved
loop-j-preserved c =
    let a = c.args in
    let l = c.loop-j in
    let x = c.look_internal-end in
    let d = edge_owned a.s a.graph.now a.rules.now c.requires.0 a.g a.work.now c.requires.1.0.at_node _ l.j c.requires.1.1.searching.tables c.get-last.ensures l.invariant.0 c.loop-j-test.true in
    let o = internals_next (decode_graph a.graph.now) (watch (decode_rules a.rules.now)) a.start (place a.g a.q) l.j d.2 in
    (omega (arith, l.invariant.0), one_looked (decode_graph a.graph.now) (watch (decode_rules a.rules.now)) a.start a.head (the_internals (decode_graph a.graph.now) (watch (decode_rules a.rules.now)) a.start (place a.g a.q)) a.tail a.work.now l.j l.work l.end l.invariant.1 o x.result x.new.work x.auto.work x.ensures)

pub returns : goal.returns
returns c =
    let a = c.args in
    let l = c.loop-j in
    let past = edges_past a.s a.graph.now a.rules.now c.requires.0 a.g a.work.now c.requires.1.0.at_node _ l.j c.requires.1.1.searching.tables c.get-last.ensures (omega (arith, c.loop-j-test.false)) in
    series_end (decode_graph a.graph.now) (watch (decode_rules a.rules.now)) a.start a.head (the_internals (decode_graph a.graph.now) (watch (decode_rules a.rules.now)) a.start (place a.g a.q)) a.tail a.work.now l.j l.work l.end l.invariant.1 (internals_out (decode_graph a.graph.now) (watch (decode_rules a.rules.now)) a.start (place a.g a.q) l.j past)
