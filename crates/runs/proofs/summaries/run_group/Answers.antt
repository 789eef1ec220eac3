use Prim.Native.Nat.{ℕ, ◌≤◌, ◌<◌}
use native.Mathlib.Omega.{arith}
use lib.ListN.{get_or}
use Rattle.files.specs.Basics.Below.{below_more}
use Rattle.files.specs.Decode.{decode_graph, decode_rules}
use Rattle.files.specs.Graph.{no_edge}
use Rattle.files.specs.Rules.{watch}
use Rattle.runs.specs.Worklist.{RanIn}
use Rattle.runs.specs.Worklist.Growth.{grew_on}
use Rattle.runs.proofs.SummaryLaws.{to_is, group_in, may_get, row_runs, ran_in_kept}
use Rattle.runs.proofs.summaries.run_group.Goals as goal

pub add_row-end-requires : goal.add_row-end-requires
add_row-end-requires c =
    let a = c.args in
    let l = c.loop-j in
    let u = c.edge_at-e.ensures in
    let d = group_in a.s a.graph.now a.rules.now c.requires.0 l.j c.loop-j-test.true _ u a.g a.m c.if-e-g.false in
    let n = may_get a.s a.graph.now a.rules.now c.requires.0 a.tail a.work.now c.requires.1.1.1.1.0 a.table.now c.requires.1.1.1.0 a.g a.m a.set a.y c.requires.1.0 c.requires.1.1.0 a.row.now c.requires.1.1.1.1.1.0 c.requires.1.1.1.1.1.1 l.j c.loop-j-test.true d.0 d.1 (omega arith) (omega arith) _ (to_is a.s a.graph.now a.rules.now c.requires.0 l.j c.loop-j-test.true _ u) in
    (c.requires.0, (n.0, (l.invariant.0.holding, n.1)))

pub loop-j-preserved : goal.loop-j-preserved
loop-j-preserved c =
    let a = c.args in
    let l = c.loop-j in
    let hj = c.loop-j-test.true in
    let x = c.add_row-end in
    let u = c.edge_at-e.ensures in
    let d = group_in a.s a.graph.now a.rules.now c.requires.0 l.j hj _ u a.g a.m c.if-e-g.false in
    let grew = grew_on (decode_graph a.graph.now) (watch (decode_rules a.rules.now)) a.tail l.end x.result a.work.now l.work x.new.work l.invariant.0 x.ensures.0 in (
      grew,
      below_more (λ (i : ℕ). a.first ≤ i → i < a.s.edges → (p : ℕ) → p < 8 → RanIn (decode_graph a.graph.now) (watch (decode_rules a.rules.now)) a.set a.y a.table.now a.work.now x.new.work (get_or (decode_graph a.graph.now).edges i no_edge) p) l.j
          (λ i h f e p hp. ran_in_kept a.s a.graph.now a.rules.now c.requires.0 l.end x.result l.work x.new.work x.ensures.0 a.table.now i e a.set a.y p a.work.now hp (l.invariant.1 i h f e p hp))
          (λ f e. row_runs a.s a.graph.now a.rules.now c.requires.0 a.tail a.work.now c.requires.1.1.1.1.0 a.table.now c.requires.1.1.1.0 a.g a.m a.set a.y c.requires.1.0 c.requires.1.1.0 a.row.now c.requires.1.1.1.1.1.0 c.requires.1.1.1.1.1.1 l.j hj d.0 d.1 _ (to_is a.s a.graph.now a.rules.now c.requires.0 l.j hj _ u) x.result x.new.work grew x.ensures.1),
    )
