use mathlib.Core.Path.{refl, sym, ap, subst}
use Prim.Native.Nat.{ℕ, ◌+◌, ◌*◌, ◌<◌}
use native.Mathlib.Omega.{arith}
use lib.ListN.{get_or}
use Rattle.files.specs.Decode.{decode_graph}
use Rattle.files.specs.Graph.{size}
use Rattle.files.specs.Places.{record_len}
use Rattle.files.specs.declared.graph.GraphNode.{GraphNode}
use Rattle.runs.proofs.SearchLaws.{item_few, item_reads, node_there, turn_back, at_place, may_step_first, here_stepped, may_stepped, here_entered, may_entered, turn_on}
use Rattle.runs.proofs.SummaryLaws.{node_of, node_readable}
use Rattle.runs.proofs.search.expand.Goals as goal

pub overflow_mul-at : goal.overflow_mul-at
overflow_mul-at c =
    let a = c.args in
    omega (arith, item_few a.s a.graph.now a.rules.now c.requires.0 a.start a.head a.tail a.work.now c.requires.1.1.1.0 c.requires.1.1.0)

pub overflow_add-at : goal.overflow_add-at
overflow_add-at c =
    let a = c.args in
    omega (arith, item_few a.s a.graph.now a.rules.now c.requires.0 a.start a.head a.tail a.work.now c.requires.1.1.1.0 c.requires.1.1.0)

pub bounds-work-at : goal.bounds-work-at
bounds-work-at c =
    let a = c.args in
    omega (arith, item_reads a.s a.graph.now a.rules.now c.requires.0 a.start a.head a.tail a.work.now c.requires.1.1.1.0 c.requires.1.1.0)

pub overflow_add-q : goal.overflow_add-q
overflow_add-q c =
    let a = c.args in
    omega (arith, item_few a.s a.graph.now a.rules.now c.requires.0 a.start a.head a.tail a.work.now c.requires.1.1.1.0 c.requires.1.1.0)

pub bounds-work-at-2 : goal.bounds-work-at-2
bounds-work-at-2 c =
    let a = c.args in
    omega (arith, item_reads a.s a.graph.now a.rules.now c.requires.0 a.start a.head a.tail a.work.now c.requires.1.1.1.0 c.requires.1.1.0)

pub node_at-v-requires : goal.node_at-v-requires
node_at-v-requires c =
    let a = c.args in (
      c.requires.0.held.views.graph_file,
      node_readable a.s a.graph.now a.rules.now c.requires.0 c.wide-g.result
          (subst (λ (i : ℕ). i < size (decode_graph a.graph.now)) (sym c.wide-g.ensures.0)
          (node_there a.s a.graph.now a.rules.now c.requires.0 a.start a.head a.tail a.work.now c.requires.1.1.1.0 c.requires.1.1.0)),
    )

pub returns-then-v : goal.returns-then-v
returns-then-v c =
    let a = c.args in
    let h = c.node_at-v.ensures in
    turn_back a.s a.graph.now a.rules.now c.requires.0 a.start a.head a.tail a.work.now c.requires.1.1.1.0 c.requires.1.1.0 c.requires.1.1.1.1
    c.wide-g.result (get_or a.work.now (record_len * a.head + 5) 0) c.wide-g.ensures.0 refl _ h
    c.if-v.true

pub called_set-set-requires : goal.called_set-set-requires
called_set-set-requires c =
    let a = c.args in
    let h = c.node_at-v.ensures in (
      c.requires.0,
      (
        node_of a.s a.graph.now a.rules.now c.requires.0 c.wide-g.result
            (at_place a.s a.graph.now a.rules.now c.requires.0 a.start a.head a.tail a.work.now c.requires.1.1.1.0 c.requires.1.1.0 c.requires.1.1.1.1
            c.wide-g.result (get_or a.work.now (record_len * a.head + 5) 0)
            c.wide-g.ensures.0 refl _ h c.if-v.false).at_node,
        (c.requires.1.1.1.0.searching.room, c.requires.1.1.1.0.searching.tables),
      ),
    )

pub look_internals-stepped-requires : goal.look_internals-stepped-requires
look_internals-stepped-requires c =
    let a = c.args in
    let h = c.node_at-v.ensures in (
      c.requires.0,
      (
        at_place a.s a.graph.now a.rules.now c.requires.0 a.start a.head a.tail a.work.now c.requires.1.1.1.0 c.requires.1.1.0 c.requires.1.1.1.1
            c.wide-g.result (get_or a.work.now (record_len * a.head + 5) 0)
            c.wide-g.ensures.0 refl _ h c.if-v.false,
        may_step_first a.s a.graph.now
            a.rules.now c.requires.0 a.start a.head a.tail a.work.now c.requires.1.1.1.0 c.requires.1.1.0 c.requires.1.1.1.1
            c.wide-g.result (get_or a.work.now (record_len * a.head + 5) 0)
            c.wide-g.ensures.0 refl _ h c.if-v.false,
      ),
    )

pub look_entered-entered-requires : goal.look_entered-entered-requires
look_entered-entered-requires c =
    let a = c.args in
    let h = c.node_at-v.ensures in (
      c.requires.0,
      (
        c.called_set-set.ensures,
        (
          here_stepped a.s a.graph.now a.rules.now c.requires.0 a.start a.head a.tail a.work.now c.requires.1.1.1.0 c.requires.1.1.0 c.requires.1.1.1.1
              c.wide-g.result (get_or a.work.now (record_len * a.head + 5) 0)
              c.wide-g.ensures.0 refl _ h
              c.if-v.false c.look_internals-stepped.result c.look_internals-stepped.new.work
              c.look_internals-stepped.ensures,
          may_stepped a.s a.graph.now a.rules.now c.requires.0 a.start a.head a.tail a.work.now c.requires.1.1.1.0
              c.requires.1.1.0 c.requires.1.1.1.1 c.wide-g.result
              (get_or a.work.now (record_len * a.head + 5) 0) c.wide-g.ensures.0 refl _ h
              c.if-v.false c.look_internals-stepped.result c.look_internals-stepped.new.work
              c.look_internals-stepped.ensures,
        ),
      ),
    )

pub look_passeds-requires : goal.look_passeds-requires
look_passeds-requires c =
    let a = c.args in
    let h = c.node_at-v.ensures in (
      c.requires.0,
      (
        c.requires.1.0,
        (
          ap (λ (u : GraphNode). u.method) h,
          (
            here_entered a.s a.graph.now a.rules.now c.requires.0 a.start a.head a.tail a.work.now c.requires.1.1.1.0 c.requires.1.1.0 c.requires.1.1.1.1
                c.wide-g.result
                (get_or a.work.now (record_len * a.head + 5) 0) c.wide-g.ensures.0 refl _ h c.if-v.false
                c.look_internals-stepped.result c.look_internals-stepped.new.work
                c.look_internals-stepped.ensures c.look_entered-entered.result
                c.look_entered-entered.new.work c.look_entered-entered.ensures,
            may_entered a.s a.graph.now a.rules.now c.requires.0 a.start
                a.head a.tail a.work.now c.requires.1.1.1.0 c.requires.1.1.0 c.requires.1.1.1.1
                c.wide-g.result
                (get_or a.work.now (record_len * a.head + 5) 0) c.wide-g.ensures.0 refl _ h c.if-v.false
                c.look_internals-stepped.result c.look_internals-stepped.new.work
                c.look_internals-stepped.ensures c.look_entered-entered.result
                c.look_entered-entered.new.work c.look_entered-entered.ensures,
          ),
        ),
      ),
    )

pub returns : goal.returns
returns c =
    let a = c.args in
    let h = c.node_at-v.ensures in
    turn_on a.s a.graph.now a.rules.now c.requires.0 a.start a.head a.tail a.work.now c.requires.1.1.1.0 c.requires.1.1.0 c.requires.1.1.1.1
    c.wide-g.result
    (get_or a.work.now (record_len * a.head + 5) 0) c.wide-g.ensures.0 refl _ h c.if-v.false
    c.look_internals-stepped.result
    c.look_internals-stepped.new.work
    c.look_internals-stepped.ensures c.look_entered-entered.result
    c.look_entered-entered.new.work c.look_entered-entered.ensures
    c.look_passeds.result c.look_passeds.new.work c.look_passeds.ensures
