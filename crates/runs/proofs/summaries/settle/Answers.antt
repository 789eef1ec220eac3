use mathlib.Core.Path.{◌≡◌, refl, ap, ◌∙◌}
use mathlib.Core.Logic.{inl, inr}
use Prim.Native.Nat.{◌/◌}
use native.Mathlib.Omega.{arith}
use Rattle.files.specs.declared.graph.GraphNode.{GraphNode}
use Rattle.runs.specs.Worklist.{queue}
use Rattle.runs.proofs.SummaryLaws.{node_of, node_readable, method_small, queue_fits, node_there, at_fits, taken_holds, next_ready, point_ran, settled}
use Rattle.runs.proofs.summaries.settle.Goals as goal
use Rattle.runs.proofs.summaries.settle.Goals.{else-new-gt0, then-new-gt0}

pub take-at-requires : goal.take-at-requires
take-at-requires c =
    let a = c.args in
    let l = c.loop-head in
    let some = c.loop-head-test.true in (
      omega (arith, some, queue_fits a.s a.graph.now a.rules.now c.requires.0 l.end l.work l.invariant.1.holding),
      (l.invariant.1.holding.room, at_fits a.s a.graph.now a.rules.now c.requires.0 l.table l.head l.end l.work l.invariant.1 some (queue l.work l.head) refl),
    )

pub node_at-v-requires : goal.node_at-v-requires
node_at-v-requires c =
    let a = c.args in
    let l = c.loop-head in
    let some = c.loop-head-test.true in
    let x = c.take-at in
    (c.requires.0.held.views.graph_file, node_readable a.s a.graph.now a.rules.now c.requires.0 (x.result / 8) (node_there a.s a.graph.now a.rules.now c.requires.0 l.table l.head l.end l.work l.invariant.1 some x.result x.ensures.0))

pub new_summary-new-requires : goal.new_summary-new-requires
new_summary-new-requires c =
    let a = c.args in
    let l = c.loop-head in
    let some = c.loop-head-test.true in
    let x = c.take-at in
    let v = c.node_at-v.ensures in
    let n = node_there a.s a.graph.now a.rules.now c.requires.0 l.table l.head l.end l.work l.invariant.1 some x.result x.ensures.0 in
    let m = method_small a.s a.graph.now a.rules.now c.requires.0 (x.result / 8) _ (node_of a.s a.graph.now a.rules.now c.requires.0 (x.result / 8) n) (ap (λ (u : GraphNode). u.method) v) in
    (m.0, (m.1, (at_fits a.s a.graph.now a.rules.now c.requires.0 l.table l.head l.end l.work l.invariant.1 some x.result x.ensures.0, (taken_holds a.s a.graph.now a.rules.now c.requires.0 l.table l.head l.end l.work l.invariant.1 some x.result x.ensures.0 x.new.work x.ensures.1).room)))

pub grown-next-requires : goal.grown-next-requires
grown-next-requires c =
    let a = c.args in
    let l = c.loop-head in
    let some = c.loop-head-test.true in
    let x = c.take-at in
    let v = c.node_at-v.ensures in
    let n = node_there a.s a.graph.now a.rules.now c.requires.0 l.table l.head l.end l.work l.invariant.1 some x.result x.ensures.0 in
    let m = method_small a.s a.graph.now a.rules.now c.requires.0 (x.result / 8) _ (node_of a.s a.graph.now a.rules.now c.requires.0 (x.result / 8) n) (ap (λ (u : GraphNode). u.method) v) in
    (m.0, (m.1, omega arith))

pub run_point-end-requires : goal.run_point-end-requires
run_point-end-requires c =
    let a = c.args in
    let l = c.loop-head in
    let some = c.loop-head-test.true in
    let x = c.take-at in
    let v = c.node_at-v.ensures in
    let y = c.new_summary-new in
    let z = next_ready a.s a.graph.now a.rules.now c.requires.0 l.table l.head l.end l.work l.invariant.1 some x.result x.ensures.0 x.new.work x.ensures.1 _ v y.result y.ensures c.if-new-gt0.table
    (elim c.if-new-gt0.branch [ then-new-gt0 w ↦ inl (w.if-new-gt0.true, w.table-is ∙ w.grown-next.ensures) | else-new-gt0 w ↦ inr (omega (arith, w.if-new-gt0.false), w.table-is) ]) in (
      c.requires.0,
      (
        node_of a.s a.graph.now a.rules.now c.requires.0 (x.result / 8) (node_there a.s a.graph.now a.rules.now c.requires.0 l.table l.head l.end l.work l.invariant.1 some x.result x.ensures.0),
        (v, (z.0, (z.1, taken_holds a.s a.graph.now a.rules.now c.requires.0 l.table l.head l.end l.work l.invariant.1 some x.result x.ensures.0 x.new.work x.ensures.1))),
      ),
    )

pub loop-head-smaller : goal.loop-head-smaller
loop-head-smaller c =
    let a = c.args in
    let l = c.loop-head in
    let some = c.loop-head-test.true in
    omega (arith, some, queue_fits a.s a.graph.now a.rules.now c.requires.0 l.end l.work l.invariant.1.holding)

pub loop-head-preserved : goal.loop-head-preserved
loop-head-preserved c =
    let a = c.args in
    let l = c.loop-head in
    let some = c.loop-head-test.true in
    let x = c.take-at in
    let v = c.node_at-v.ensures in
    let y = c.new_summary-new in
    let r = c.run_point-end in
    let z = point_ran a.s a.graph.now a.rules.now c.requires.0 l.table l.head l.end l.work l.invariant.1 some x.result x.ensures.0 x.new.work x.ensures.1 _ v y.result y.ensures c.if-new-gt0.table
    (elim c.if-new-gt0.branch [ then-new-gt0 w ↦ inl (w.if-new-gt0.true, w.table-is ∙ w.grown-next.ensures) | else-new-gt0 w ↦ inr (omega (arith, w.if-new-gt0.false), w.table-is) ]) r.result r.new.work
    r.ensures.0 r.ensures.1 in (
      omega (arith, some, r.ensures.0.longer),
      z.0,
      λ q h. z.1 q h ∙ l.invariant.2 q h,
    )

pub returns : goal.returns
returns c =
    let a = c.args in
    let l = c.loop-head in
    let e : l.head ≡ l.end = omega (arith, l.invariant.0, c.loop-head-test.false) in
    let d = settled a.s a.graph.now a.rules.now c.requires.0 l.table l.head l.end l.work l.invariant.1 e in
    (d.0, (d.1, l.invariant.2))
