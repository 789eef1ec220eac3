use native.Mathlib.Omega.{arith}
use Rattle.judging.proofs.OrderLaws.{outside_on, byte_put, bit_put}
use Rattle.judging.specs.Places.{cursors_base, met_base, neighbours_base, parents_base}
use Rattle.judging.proofs.order.visit.Goals as goal

pub returns : goal.returns
returns c =
    outside_on cursors_base neighbours_base c.args.work.now c.put_bit.new.work c.walk_from.new.work (bit_put c.args.work.now c.put_bit.new.work met_base c.args.root cursors_base neighbours_base c.put_bit.ensures (omega arith) (omega (arith, c.requires.1.0, c.requires.0.first_held.few_nodes)))
    (outside_on cursors_base neighbours_base c.put_bit.new.work c.put.new.work c.walk_from.new.work (byte_put c.put_bit.new.work c.put.new.work parents_base c.args.root _ cursors_base neighbours_base c.put.ensures (omega arith) (omega (arith, c.requires.1.0, c.requires.0.first_held.few_nodes))) c.walk_from.ensures)
