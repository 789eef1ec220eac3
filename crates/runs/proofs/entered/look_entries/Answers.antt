use native.Mathlib.Omega.{arith}
use Rattle.files.specs.Decode.{decode_graph, decode_rules}
use Rattle.files.specs.Rules.{watch}
use Rattle.runs.specs.Prepared.Files.{size_is}
use Rattle.runs.specs.Searching.{place}
use Rattle.runs.specs.Searching.Outgoing.{entries_out}
use Rattle.runs.proofs.SearchLaws.{series_here, series_end, one_may, one_looked, the_entries, entries_next}
use Rattle.runs.proofs.SummaryLaws.{node_in}
use Rattle.runs.proofs.entered.look_entries.Goals as goal

pub look_entry-end-requires : goal.look_entry-end-requires
look_entry-end-requires c =
    let a = c.args in
    let l = c.loop-n in
    let o = entries_next (decode_graph a.graph.now) (watch (decode_rules a.rules.now)) a.start (place a.g a.q) a.l l.n (node_in a.s a.graph.now a.rules.now c.requires.0 l.n c.loop-n-test.true) in
    let p = c.requires.1 in (
      c.requires.0,
      (
        c.loop-n-test.true,
        (
          p.0,
          (
            p.1.0,
            (
              p.1.1.0,
              (
                p.1.1.1.0,
                (series_here (decode_graph a.graph.now) (watch (decode_rules a.rules.now)) a.start a.head (the_entries (decode_graph a.graph.now) (watch (decode_rules a.rules.now)) a.start (place a.g a.q) a.l) a.tail a.work.now l.n l.work l.end l.invariant (place a.g a.q) p.1.1.1.1.0, one_may (decode_graph a.graph.now) (watch (decode_rules a.rules.now)) a.start a.head (the_entries (decode_graph a.graph.now) (watch (decode_rules a.rules.now)) a.start (place a.g a.q) a.l) a.tail a.work.now l.n l.work l.end l.invariant o p.1.1.1.1.1),
              ),
            ),
          ),
        ),
      ),
    )

pub loop-n-preserved : goal.loop-n-preserved
loop-n-preserved c =
    let a = c.args in
    let l = c.loop-n in
    let x = c.look_entry-end in
    let o = entries_next (decode_graph a.graph.now) (watch (decode_rules a.rules.now)) a.start (place a.g a.q) a.l l.n (node_in a.s a.graph.now a.rules.now c.requires.0 l.n c.loop-n-test.true) in
    one_looked (decode_graph a.graph.now) (watch (decode_rules a.rules.now)) a.start a.head (the_entries (decode_graph a.graph.now) (watch (decode_rules a.rules.now)) a.start (place a.g a.q) a.l) a.tail a.work.now l.n l.work l.end l.invariant o x.result x.new.work x.auto.work x.ensures

pub returns : goal.returns
returns c =
    let a = c.args in
    let l = c.loop-n in
    series_end (decode_graph a.graph.now) (watch (decode_rules a.rules.now)) a.start a.head (the_entries (decode_graph a.graph.now) (watch (decode_rules a.rules.now)) a.start (place a.g a.q) a.l) a.tail a.work.now l.n l.work l.end l.invariant
    (entries_out (decode_graph a.graph.now) (watch (decode_rules a.rules.now)) a.start (place a.g a.q) a.l l.n (omega (arith, c.loop-n-test.false, size_is a.s a.graph.now a.rules.now c.requires.0)))
