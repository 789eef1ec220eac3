use mathlib.Core.Path.{ap}
use Prim.Native.Nat.{◌<◌}
use native.Mathlib.Omega.{arith}
use Rattle.files.specs.declared.graph.GraphEdge.{GraphEdge}
use Rattle.judging.specs.Places.{cursors_base, met_base, neighbours_base, parents_base}
use Rattle.judging.specs.Refinement.Files.{first_edge_in}
use Rattle.judging.proofs.OrderLaws.{outside_on, byte_put, pair_put, bit_put}
use Rattle.judging.proofs.order.step.Goals as goal

pub has_bit-requires : goal.has_bit-requires
has_bit-requires c = omega (arith, (ap (λ (z : GraphEdge). z.to) c.edge_at-x.ensures), (first_edge_in c.args.s c.args.first.now c.args.second.now c.requires.0 c.get-e.result (omega (arith, c.if-s-e.false))).1, c.requires.0.first_held.few_nodes, c.put.auto.work, c.requires.1.1)

pub returns-then-has_bit : goal.returns-then-has_bit
returns-then-has_bit c = (c.requires.1.0, pair_put c.args.work.now c.put.new.work cursors_base c.args.w.node _ cursors_base neighbours_base c.put.ensures (omega arith) (omega (arith, c.requires.1.0, c.requires.0.first_held.few_nodes)))

pub put_bit-requires : goal.put_bit-requires
put_bit-requires c = omega (arith, (ap (λ (z : GraphEdge). z.to) c.edge_at-x.ensures), (first_edge_in c.args.s c.args.first.now c.args.second.now c.requires.0 c.get-e.result (omega (arith, c.if-s-e.false))).1, c.requires.0.first_held.few_nodes, c.put.auto.work, c.requires.1.1)

pub put-requires-2 : goal.put-requires-2
put-requires-2 c = omega (arith, (ap (λ (z : GraphEdge). z.to) c.edge_at-x.ensures), (first_edge_in c.args.s c.args.first.now c.args.second.now c.requires.0 c.get-e.result (omega (arith, c.if-s-e.false))).1, c.requires.0.first_held.few_nodes, c.put.auto.work, c.put_bit.auto.work, c.requires.1.1)

pub returns : goal.returns
returns c =
    let to_low : c.edge_at-x.result.to < c.args.s.first.nodes = omega (arith, (ap (λ (z : GraphEdge). z.to) c.edge_at-x.ensures), (first_edge_in c.args.s c.args.first.now c.args.second.now c.requires.0 c.get-e.result (omega (arith, c.if-s-e.false))).1) in (
      to_low,
      outside_on cursors_base neighbours_base c.args.work.now c.put.new.work c.put-2.new.work (pair_put c.args.work.now c.put.new.work cursors_base c.args.w.node _ cursors_base neighbours_base c.put.ensures (omega arith) (omega (arith, c.requires.1.0, c.requires.0.first_held.few_nodes)))
          (outside_on cursors_base neighbours_base c.put.new.work c.put_bit.new.work c.put-2.new.work (bit_put c.put.new.work c.put_bit.new.work met_base _ cursors_base neighbours_base c.put_bit.ensures (omega arith) (omega (arith, to_low, c.requires.0.first_held.few_nodes)))
          (byte_put c.put_bit.new.work c.put-2.new.work parents_base _ _ cursors_base neighbours_base c.put-2.ensures (omega arith) (omega (arith, to_low, c.requires.0.first_held.few_nodes)))),
    )
