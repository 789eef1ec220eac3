use mathlib.Core.Path.{refl, ap₂, ◌∙◌}
use mathlib.Core.Bool.{cond}
use Prim.Native.Nat.{ℕ, ◌+◌, ◌≤◌}
use native.Mathlib.Nat.{le_of_lt, lt_trans}
use native.Mathlib.Omega.{arith}
use lib.Dec.{eqb}
use Rattle.files.specs.Access.{first_edge}
use Rattle.files.specs.Basics.Below.{below_more}
use Rattle.files.specs.Decode.{decode_graph, decode_rules}
use Rattle.files.specs.Rules.{watch}
use Rattle.runs.specs.Worklist.{passed, sums}
use Rattle.runs.specs.Worklist.Growth.{grew_none, grew_on}
use Rattle.runs.proofs.SummaryLaws.{Ran, ran, ran_kept, first_held, edge_in_file, leaves_node, ran_edges, method_small, label_in, to_in, may_add}
use Rattle.runs.proofs.summaries.run_edges.Goals as goal

pub loop-j-init : goal.loop-j-init
loop-j-init c =
    let a = c.args in
    let f = first_held a.s a.graph.now a.rules.now c.requires.0 a.tail a.work.now c.requires.1.1.1.1.1.1 a.g _ (le_of_lt c.requires.1.0) c.get-first.ensures in
    (grew_none (decode_graph a.graph.now) (watch (decode_rules a.rules.now)) a.tail a.work.now c.requires.1.1.1.1.1.1, omega (arith, f), refl, λ i h l. absurd (omega (arith, f, h, l)))

pub edge_at-e-requires : goal.edge_at-e-requires
edge_at-e-requires c =
    let a = c.args in
    let l = c.loop-j in
    let f = first_held a.s a.graph.now a.rules.now c.requires.0 a.tail a.work.now c.requires.1.1.1.1.1.1 (a.g + 1) _ (omega (arith, c.requires.1.0)) c.get-last.ensures in
    let hj = edge_in_file a.s a.graph.now a.rules.now c.requires.0 (a.g + 1) l.j (omega (arith, c.loop-j-test.true, f)) in
    (c.requires.0.held.views.graph_file, c.requires.0.held.views.nodes_are, omega (arith, hj, c.requires.0.held.views.edges_are, c.requires.0.held.views.nodes_are))

pub after_edge-y-requires : goal.after_edge-y-requires
after_edge-y-requires c =
    let a = c.args in
    let l = c.loop-j in
    let f = first_held a.s a.graph.now a.rules.now c.requires.0 a.tail a.work.now c.requires.1.1.1.1.1.1 (a.g + 1) _ (omega (arith, c.requires.1.0)) c.get-last.ensures in
    let hj = edge_in_file a.s a.graph.now a.rules.now c.requires.0 (a.g + 1) l.j (omega (arith, c.loop-j-test.true, f)) in
    let m = method_small a.s a.graph.now a.rules.now c.requires.0 a.g a.caller c.requires.1.0 c.requires.1.1.1.0 in (
      c.requires.0,
      (
        l.invariant.0.holding.tables.steps,
        (
          l.invariant.0.holding.room,
          (
            m.0,
            (
              m.1,
              (
                label_in a.s a.graph.now a.rules.now c.requires.0 l.j hj _ c.edge_at-e.ensures,
                l.invariant.2,
              ),
            ),
          ),
        ),
      ),
    )

pub add-end-requires : goal.add-end-requires
add-end-requires c =
    let a = c.args in
    let l = c.loop-j in
    let f = first_held a.s a.graph.now a.rules.now c.requires.0 a.tail a.work.now c.requires.1.1.1.1.1.1 (a.g + 1) _ (omega (arith, c.requires.1.0)) c.get-last.ensures in
    let hj = edge_in_file a.s a.graph.now a.rules.now c.requires.0 (a.g + 1) l.j (omega (arith, c.loop-j-test.true, f)) in
    may_add a.s a.graph.now a.rules.now c.requires.0 l.end l.work l.invariant.0.holding _ a.p c.after_edge-y.result (to_in a.s a.graph.now a.rules.now c.requires.0 l.j hj _ c.edge_at-e.ensures) c.requires.1.1.0 (omega arith)

pub loop-j-preserved : goal.loop-j-preserved
loop-j-preserved c =
    let a = c.args in
    let l = c.loop-j in
    let f = first_held a.s a.graph.now a.rules.now c.requires.0 a.tail a.work.now c.requires.1.1.1.1.1.1 (a.g + 1) _ (omega (arith, c.requires.1.0)) c.get-last.ensures in
    let hj = edge_in_file a.s a.graph.now a.rules.now c.requires.0 (a.g + 1) l.j (omega (arith, c.loop-j-test.true, f)) in
    let z = c.add-end in
    let y = c.after_edge-y in
    let n = ran a.s a.graph.now a.rules.now c.requires.0 l.j hj _ c.edge_at-e.ensures a.g (leaves_node a.s a.graph.now a.rules.now c.requires.0 a.g l.j l.invariant.1 (omega (arith, c.loop-j-test.true, f))) c.requires.1.1.1.1.0 a.tail l.end a.work.now l.work
    c.requires.1.1.1.1.1.1 a.table.now c.requires.1.1.1.1.1.0 l.invariant.0 a.p y.result c.requires.1.1.0 (omega arith)
    (y.ensures ∙ ap₂ (λ (m x : ℕ). cond (eqb c.edge_at-e.result.label 0) x (passed (watch (decode_rules a.rules.now)) (sums a.table.now) m c.edge_at-e.result.label x)) c.requires.1.1.1.0 c.get-x.ensures) z.result z.new.work z.ensures in (
      grew_on (decode_graph a.graph.now) (watch (decode_rules a.rules.now)) a.tail l.end z.result a.work.now l.work z.new.work l.invariant.0 n.0,
      omega (arith, l.invariant.1),
      y.ensures,
      below_more (λ (i : ℕ). first_edge (decode_graph a.graph.now) a.g ≤ i → Ran (decode_graph a.graph.now) (watch (decode_rules a.rules.now)) a.table.now z.new.work i a.p) l.j
          (λ i h e. ran_kept a.s a.graph.now a.rules.now c.requires.0 l.end z.result l.work z.new.work n.0 a.table.now i (lt_trans h hj) a.p c.requires.1.1.0 (l.invariant.3 i h e)) (λ e. n.1),
    )

pub returns : goal.returns
returns c =
    let a = c.args in
    let l = c.loop-j in
    let f = first_held a.s a.graph.now a.rules.now c.requires.0 a.tail a.work.now c.requires.1.1.1.1.1.1 (a.g + 1) _ (omega (arith, c.requires.1.0)) c.get-last.ensures in
    (l.invariant.0, ran_edges a.s a.graph.now a.rules.now c.requires.0 a.table.now l.work a.g a.p (λ i h e. l.invariant.3 i (omega (arith, c.loop-j-test.false, f, h)) e))
