-- The calls of a group have one source, so what depends on the source is found once for all of them.
use native.Mathlib.Omega.{arith}
use Rattle.files.specs.Decode.{decode_graph, decode_rules}
use Rattle.files.specs.Rules.{watch}
use Rattle.runs.specs.Worklist.Growth.{grew_none}
use Rattle.runs.proofs.SummaryLaws.{node_readable, from_in, from_fits, caller_in, group_unreached, group_ran}
use Rattle.runs.proofs.summaries.run_source.Goals as goal

pub node_at-v-requires : goal.node_at-v-requires
node_at-v-requires c =
    let a = c.args in
    let u = c.edge_at-e.ensures in
    (c.requires.0.held.views.graph_file, node_readable a.s a.graph.now a.rules.now c.requires.0 c.edge_at-e.result.from (from_in a.s a.graph.now a.rules.now c.requires.0 a.first c.requires.1.0 _ u))

pub overflow_sub-set : goal.overflow_sub-set
overflow_sub-set c =
    let a = c.args in
    let u = c.edge_at-e.ensures in
    let v = c.node_at-v.ensures in
    omega (arith, (caller_in a.s a.graph.now a.rules.now c.requires.0 a.first c.requires.1.0 _ u _ v).0)

pub bounds-callers-v : goal.bounds-callers-v
bounds-callers-v c =
    let a = c.args in
    let u = c.edge_at-e.ensures in
    let v = c.node_at-v.ensures in
    let m = caller_in a.s a.graph.now a.rules.now c.requires.0 a.first c.requires.1.0 _ u _ v in
    omega (arith, m.0, m.1)

pub overflow_sub-y : goal.overflow_sub-y
overflow_sub-y c =
    let a = c.args in
    let u = c.edge_at-e.ensures in
    let v = c.node_at-v.ensures in
    omega (arith, (caller_in a.s a.graph.now a.rules.now c.requires.0 a.first c.requires.1.0 _ u _ v).0)

pub bounds-ends-v : goal.bounds-ends-v
bounds-ends-v c =
    let a = c.args in
    let u = c.edge_at-e.ensures in
    let v = c.node_at-v.ensures in
    let m = caller_in a.s a.graph.now a.rules.now c.requires.0 a.first c.requires.1.0 _ u _ v in
    omega (arith, m.0, m.1)

pub reached_any-requires : goal.reached_any-requires
reached_any-requires c =
    let a = c.args in
    let u = c.edge_at-e.ensures in
    (from_fits a.s a.graph.now a.rules.now c.requires.0 a.first c.requires.1.0 _ u, c.requires.1.1.1.1.0.room)

pub row_of-row-requires : goal.row_of-row-requires
row_of-row-requires c =
    let a = c.args in
    let u = c.edge_at-e.ensures in
    (from_fits a.s a.graph.now a.rules.now c.requires.0 a.first c.requires.1.0 _ u, c.requires.1.1.1.1.0.room)

pub returns-then-reached_any-set-gt0 : goal.returns-then-reached_any-set-gt0
returns-then-reached_any-set-gt0 c =
    let a = c.args in
    let u = c.edge_at-e.ensures in
    let v = c.node_at-v.ensures in
    let x = c.run_group in
    (x.ensures.0, group_ran a.s a.graph.now a.rules.now c.requires.0 a.first c.requires.1.0 _ u _ v a.callers.now a.ends.now a.table.now a.work.now x.new.work x.ensures.1)

pub returns : goal.returns
returns c =
    let a = c.args in
    let u = c.edge_at-e.ensures in
    let v = c.node_at-v.ensures in
    let x = c.reached_any in
    (grew_none (decode_graph a.graph.now) (watch (decode_rules a.rules.now)) a.tail a.work.now c.requires.1.1.1.1.0, group_unreached a.s a.graph.now a.rules.now c.requires.0 a.first c.requires.1.0 _ u _ v a.callers.now a.ends.now a.table.now a.work.now a.work.now x.result x.ensures c.if-reached_any-set-gt0.false)
