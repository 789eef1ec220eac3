use Rattle.judging.proofs.OrderLaws.{byte_put, none_reaches}
use native.Mathlib.Omega.{arith}
use Rattle.judging.specs.Places.{cursors_base, neighbours_base, order_base}
use Rattle.judging.proofs.order.leave.Goals as goal

pub returns : goal.returns
returns c = ((none_reaches c.args.s.first.nodes c.args.w.left c.get-up.result c.if-s-left.false).1, byte_put c.args.work.now c.put.new.work order_base c.args.w.left _ cursors_base neighbours_base c.put.ensures (omega arith) (omega (arith, (none_reaches c.args.s.first.nodes c.args.w.left c.get-up.result c.if-s-left.false).0, c.requires.0.first_held.few_nodes)))

pub returns-then-up-at : goal.returns-then-up-at
returns-then-up-at c = (tt, byte_put c.args.work.now c.put.new.work order_base c.args.w.left _ cursors_base neighbours_base c.put.ensures (omega arith) (omega (arith, (none_reaches c.args.s.first.nodes c.args.w.left c.get-up.result c.if-s-left.false).0, c.requires.0.first_held.few_nodes)))
