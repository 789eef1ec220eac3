use mathlib.Core.Path.{ap, ◌∙◌}
use Prim.Native.Nat.{ℕ}
use native.Mathlib.Omega.{arith}
use Rattle.files.specs.Decode.{decode_rules}
use Rattle.files.specs.Rules.{calls, watch}
use Rattle.files.specs.declared.graph.GraphNode.{GraphNode}
use Rattle.runs.proofs.SearchLaws.{method_fits, state_fits, entered_before, entered_now}
use Rattle.runs.proofs.SummaryLaws.{node_readable}
use Rattle.runs.proofs.entered.enter.Goals as goal

pub node_at-v-requires : goal.node_at-v-requires
node_at-v-requires c =
    let a = c.args in
    let at = c.requires.1.1.1.1.0 in
    (c.requires.0.held.views.graph_file, node_readable a.s a.graph.now a.rules.now c.requires.0 a.g at.at_node)

pub step-p-requires : goal.step-p-requires
step-p-requires c =
    let a = c.args in
    let at = c.requires.1.1.1.1.0 in
    let h = c.node_at-v.ensures in
    let v = ap (λ (u : GraphNode). u.method) h in
    let f = method_fits a.s a.graph.now a.rules.now c.requires.0 a.g _ at.at_node v in
    (c.requires.1.1.1.1.1.searching.tables.steps, (c.requires.1.1.1.1.1.searching.room, (at.now_small, (omega arith, (omega arith, (f.0, (f.1, (c.requires.1.0, c.requires.1.1.0))))))))

pub has_bit-requires : goal.has_bit-requires
has_bit-requires c =
    let a = c.args in
    let at = c.requires.1.1.1.1.0 in
    let h = c.node_at-v.ensures in
    let v = ap (λ (u : GraphNode). u.method) h in
    let d = c.step-p.ensures ∙ ap (λ (i : ℕ). watch (decode_rules a.rules.now) a.q (calls i a.l)) v in
    omega (
      arith,
      c.requires.1.1.0,
      state_fits a.s a.graph.now a.rules.now c.requires.0 a.start a.head a.tail a.work.now a.g a.q at a.l c.requires.1.0
          c.requires.1.1.1.0 c.step-p.result d,
      c.requires.1.1.1.1.1.searching.room,
    )

pub returns-then-has_bit : goal.returns-then-has_bit
returns-then-has_bit c =
    let a = c.args in
    let at = c.requires.1.1.1.1.0 in
    let h = c.node_at-v.ensures in
    let v = ap (λ (u : GraphNode). u.method) h in
    let d = c.step-p.ensures ∙ ap (λ (i : ℕ). watch (decode_rules a.rules.now) a.q (calls i a.l)) v in
    entered_before a.s a.graph.now a.rules.now c.requires.0 a.start a.head a.tail a.work.now a.g a.q at a.l c.requires.1.0 c.requires.1.1.1.0
    c.step-p.result d c.requires.1.1.0 c.requires.1.1.1.1.1 c.has_bit.result c.has_bit.ensures c.if-has_bit.true

pub put_bit-requires : goal.put_bit-requires
put_bit-requires c =
    let a = c.args in
    let at = c.requires.1.1.1.1.0 in
    let h = c.node_at-v.ensures in
    let v = ap (λ (u : GraphNode). u.method) h in
    let d = c.step-p.ensures ∙ ap (λ (i : ℕ). watch (decode_rules a.rules.now) a.q (calls i a.l)) v in
    omega (
      arith,
      c.requires.1.1.0,
      state_fits a.s a.graph.now a.rules.now c.requires.0 a.start a.head a.tail a.work.now a.g a.q at a.l c.requires.1.0
          c.requires.1.1.1.0 c.step-p.result d,
      c.requires.1.1.1.1.1.searching.room,
      c.look_entries-end.auto.work,
    )

pub returns : goal.returns
returns c =
    let a = c.args in
    let at = c.requires.1.1.1.1.0 in
    let h = c.node_at-v.ensures in
    let v = ap (λ (u : GraphNode). u.method) h in
    let d = c.step-p.ensures ∙ ap (λ (i : ℕ). watch (decode_rules a.rules.now) a.q (calls i a.l))
    v in
    entered_now a.s a.graph.now a.rules.now c.requires.0 a.start a.head a.tail a.work.now a.g a.q at a.l c.requires.1.0 c.requires.1.1.1.0
    c.step-p.result d c.requires.1.1.0 c.requires.1.1.1.1.1
    c.look_entries-end.result c.look_entries-end.new.work
    c.put_bit.new.work c.look_entries-end.ensures c.put_bit.ensures
