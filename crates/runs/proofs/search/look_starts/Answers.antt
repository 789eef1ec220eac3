use native.Mathlib.Omega.{arith}
use Rattle.files.specs.Decode.{decode_graph, decode_rules}
use Rattle.files.specs.Rules.{watch}
use Rattle.runs.specs.Prepared.Files.{size_is}
use Rattle.runs.specs.Searching.Outgoing.{starts_out}
use Rattle.runs.proofs.SearchLaws.{series_end, one_may, one_looked, the_starts, starts_next}
use Rattle.runs.proofs.SummaryLaws.{node_in}
use Rattle.runs.proofs.search.look_starts.Goals as goal

pub look_start-end-requires : goal.look_start-end-requires
look_start-end-requires c =
    let a = c.args in
    let l = c.loop-n in
    let h = c.loop-n-test.true in
    (c.requires.0, (h, (omega (arith, l.invariant.1.longer), one_may (decode_graph a.graph.now) (watch (decode_rules a.rules.now)) a.start 0 (the_starts (decode_graph a.graph.now) (watch (decode_rules a.rules.now)) a.start) 1 a.work.now l.n l.work l.end l.invariant (starts_next (decode_graph a.graph.now) (watch (decode_rules a.rules.now)) a.start l.n (node_in a.s a.graph.now a.rules.now c.requires.0 l.n h)) c.requires.1)))

pub loop-n-preserved : goal.loop-n-preserved
loop-n-preserved c =
    let a = c.args in
    let l = c.loop-n in
    let x = c.look_start-end in
    one_looked (decode_graph a.graph.now) (watch (decode_rules a.rules.now)) a.start 0 (the_starts (decode_graph a.graph.now) (watch (decode_rules a.rules.now)) a.start) 1 a.work.now l.n l.work l.end l.invariant (starts_next (decode_graph a.graph.now) (watch (decode_rules a.rules.now)) a.start l.n (node_in a.s a.graph.now a.rules.now c.requires.0 l.n c.loop-n-test.true)) x.result x.new.work x.auto.work x.ensures

pub returns : goal.returns
returns c =
    let a = c.args in
    let l = c.loop-n in
    series_end (decode_graph a.graph.now) (watch (decode_rules a.rules.now)) a.start 0 (the_starts (decode_graph a.graph.now) (watch (decode_rules a.rules.now)) a.start) 1 a.work.now l.n l.work l.end l.invariant (starts_out (decode_graph a.graph.now) (watch (decode_rules a.rules.now)) a.start l.n (omega (arith, c.loop-n-test.false, size_is a.s a.graph.now a.rules.now c.requires.0)))
