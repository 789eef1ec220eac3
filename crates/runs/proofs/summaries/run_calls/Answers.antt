use mathlib.Core.Path.{◌≡◌, ◌∙◌}
use Prim.Native.Nat.{◌-◌, ◌<◌}
use native.Mathlib.Omega.{arith}
use lib.Dec.{eqb→eq}
use lib.ListN.{length, get_or}
use Rattle.files.specs.Decode.{decode_graph, decode_rules}
use Rattle.files.specs.Graph.{no_edge}
use Rattle.files.specs.Rules.{watch}
use Rattle.judging.specs.Chains.Laws.{walk_start, walk_item, walk_turn, walk_less}
use Rattle.runs.specs.Prepared.{opens}
use Rattle.runs.specs.Prepared.Files.{edges_is, edges_fit}
use Rattle.runs.specs.Worklist.{GroupRan}
use Rattle.runs.specs.Worklist.Growth.{grew_none, grew_on}
use Rattle.runs.specs.Worklist.Loops.{calls_run}
use Rattle.runs.proofs.PrepareLaws.{opens_label, group_of}
use Rattle.runs.proofs.SummaryLaws.{links_of, group_kept, group_from}
use Rattle.runs.proofs.summaries.run_calls.Goals as goal

pub loop-at-init : goal.loop-at-init
loop-at-init c =
    let a = c.args in (
      grew_none (decode_graph a.graph.now) (watch (decode_rules a.rules.now)) a.tail a.work.now c.requires.1.1.1.1.0,
      walk_start (opens (decode_graph a.graph.now) a.m) (length (decode_graph a.graph.now).edges) c.get-at.result
          (GroupRan (decode_graph a.graph.now) (watch (decode_rules a.rules.now)) a.callers.now a.ends.now a.table.now a.work.now a.work.now) (c.get-at.ensures ∙ c.requires.1.1.1.1.0.tables.by_label.heads_are a.m c.requires.1.1.0),
    )

pub run_source-end-requires : goal.run_source-end-requires
run_source-end-requires c =
    let loop-test = c.loop-at-test in
    let a = c.args in
    let l = c.loop-at in
    let i = walk_item (opens (decode_graph a.graph.now) a.m) (length (decode_graph a.graph.now).edges) l.at
    (GroupRan (decode_graph a.graph.now) (watch (decode_rules a.rules.now)) a.callers.now a.ends.now a.table.now a.work.now l.work) l.invariant.1 loop-test.true in
    let hj : l.at - 1 < a.s.edges = omega (arith, i.1, edges_is a.s a.graph.now a.rules.now c.requires.0) in
    let d : (get_or (decode_graph a.graph.now).edges (l.at - 1) no_edge).label ≡ a.m = opens_label (decode_graph a.graph.now) a.m (l.at - 1) (omega (arith, c.requires.1.0)) i.0 in
    let z = c.requires.1.1.1.1.1 in (
      c.requires.0,
      (
        hj,
        (
          omega (arith, d, c.requires.1.0),
          (
            c.requires.1.1.1.0,
            (
              l.invariant.0.holding,
              (z.0, z.1, links_of a.s a.graph.now a.rules.now c.requires.0 (l.at - 1) hj a.m z.0 a.callers.now a.ends.now a.table.now d z.2 z.3),
            ),
          ),
        ),
      ),
    )

pub get-at-requires-in-loop-at : goal.get-at-requires-in-loop-at
get-at-requires-in-loop-at c =
    let loop-test = c.loop-at-test in
    let run-source = c.run_source-end in
    let a = c.args in
    let l = c.loop-at in
    let i = walk_item (opens (decode_graph a.graph.now) a.m) (length (decode_graph a.graph.now).edges) l.at
    (GroupRan (decode_graph a.graph.now) (watch (decode_rules a.rules.now)) a.callers.now a.ends.now a.table.now a.work.now l.work) l.invariant.1 loop-test.true in
    omega (arith, i.1, edges_fit a.s a.graph.now a.rules.now c.requires.0, run-source.ensures.0.holding.room)

pub loop-at-smaller : goal.loop-at-smaller
loop-at-smaller c =
    let loop-test = c.loop-at-test in
    let run-source = c.run_source-end in
    let a = c.args in
    let l = c.loop-at in
    let t = loop-test.true in
    let i = walk_item (opens (decode_graph a.graph.now) a.m) (length (decode_graph a.graph.now).edges) l.at
    (GroupRan (decode_graph a.graph.now) (watch (decode_rules a.rules.now)) a.callers.now a.ends.now a.table.now a.work.now l.work) l.invariant.1 loop-test.true in
    walk_less (opens (decode_graph a.graph.now) a.m) l.at c.get-at-in-loop-at.result t
    (c.get-at-in-loop-at.ensures ∙ run-source.ensures.0.holding.tables.by_label.nexts_are a.m (l.at - 1) c.requires.1.1.0 i.1 i.0)

pub loop-at-preserved : goal.loop-at-preserved
loop-at-preserved c =
    let loop-test = c.loop-at-test in
    let a = c.args in
    let l = c.loop-at in
    let x = c.run_source-end in
    let t = loop-test.true in
    let i = walk_item (opens (decode_graph a.graph.now) a.m) (length (decode_graph a.graph.now).edges) l.at
    (GroupRan (decode_graph a.graph.now) (watch (decode_rules a.rules.now)) a.callers.now a.ends.now a.table.now a.work.now l.work) l.invariant.1 loop-test.true in
    let n = c.get-at-in-loop-at.ensures ∙ x.ensures.0.holding.tables.by_label.nexts_are a.m (l.at - 1) c.requires.1.1.0 i.1 i.0 in (
      grew_on (decode_graph a.graph.now) (watch (decode_rules a.rules.now)) a.tail l.end x.result a.work.now l.work x.new.work l.invariant.0 x.ensures.0,
      walk_turn (opens (decode_graph a.graph.now) a.m) (length (decode_graph a.graph.now).edges) l.at c.get-at-in-loop-at.result
          (GroupRan (decode_graph a.graph.now) (watch (decode_rules a.rules.now)) a.callers.now a.ends.now a.table.now a.work.now l.work) (GroupRan (decode_graph a.graph.now) (watch (decode_rules a.rules.now)) a.callers.now a.ends.now a.table.now a.work.now x.new.work)
          l.invariant.1 t n
          (λ j h. group_kept a.s a.graph.now a.rules.now c.requires.0 l.end x.result l.work x.new.work x.ensures.0 a.table.now a.callers.now a.ends.now j a.work.now)
          (group_from a.s a.graph.now a.rules.now c.requires.0 a.tail l.end a.work.now l.work l.invariant.0 a.table.now a.callers.now a.ends.now (l.at - 1) x.new.work x.ensures.1),
    )

pub returns : goal.returns
returns c =
    let a = c.args in
    let l = c.loop-at in (
      l.invariant.0,
      λ i hi into back. calls_run (decode_graph a.graph.now) (watch (decode_rules a.rules.now)) i a.callers.now a.table.now a.work.now l.work a.m
          (λ j h t n p hp. let f = group_of (decode_graph a.graph.now) a.m j t in
          l.invariant.1.3 f.0 (omega (arith, f.1, h)) f.2 (omega (arith, c.loop-at-test.false)) j f.1 h f.3 n p hp i hi
          (links_of a.s a.graph.now a.rules.now c.requires.0 j (omega (arith, h, edges_is a.s a.graph.now a.rules.now c.requires.0)) a.m i a.callers.now a.ends.now a.table.now (eqb→eq _ a.m t) into back)),
    )
