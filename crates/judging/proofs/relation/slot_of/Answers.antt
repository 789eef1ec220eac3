use native.Mathlib.Omega.{arith}
use Rattle.judging.proofs.RelationLaws.{slot_is}
use Rattle.judging.proofs.relation.slot_of.Goals as goal

pub overflow_mul-result : goal.overflow_mul-result
overflow_mul-result c = omega (arith, (slot_is c.args.s c.args.first.now c.args.second.now c.requires.0 c.args.e c.edge_at-x.result c.requires.1 c.edge_at-x.ensures).1)

pub overflow_add-result : goal.overflow_add-result
overflow_add-result c = omega (arith, (slot_is c.args.s c.args.first.now c.args.second.now c.requires.0 c.args.e c.edge_at-x.result c.requires.1 c.edge_at-x.ensures).1, (slot_is c.args.s c.args.first.now c.args.second.now c.requires.0 c.args.e c.edge_at-x.result c.requires.1 c.edge_at-x.ensures).2)
