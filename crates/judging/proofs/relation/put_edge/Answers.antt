use native.Mathlib.Omega.{arith}
use Rattle.judging.proofs.RelationLaws.{edge_fits}
use Rattle.judging.proofs.relation.put_edge.Goals as goal

pub overflow_mul-x : goal.overflow_mul-x
overflow_mul-x c = let b = edge_fits c.args.s c.args.first.now c.args.second.now c.requires.0 c.args.j c.edge_at-x.result c.requires.1.0 c.edge_at-x.ensures in omega (arith, b.0, b.1, b.2)

pub overflow_add-x : goal.overflow_add-x
overflow_add-x c = let b = edge_fits c.args.s c.args.first.now c.args.second.now c.requires.0 c.args.j c.edge_at-x.result c.requires.1.0 c.edge_at-x.ensures in omega (arith, b.0, b.1, b.2)

pub overflow_mul-x-2 : goal.overflow_mul-x-2
overflow_mul-x-2 c = let b = edge_fits c.args.s c.args.first.now c.args.second.now c.requires.0 c.args.j c.edge_at-x.result c.requires.1.0 c.edge_at-x.ensures in omega (arith, b.0, b.1, b.2)

pub overflow_add-x-2 : goal.overflow_add-x-2
overflow_add-x-2 c = let b = edge_fits c.args.s c.args.first.now c.args.second.now c.requires.0 c.args.j c.edge_at-x.result c.requires.1.0 c.edge_at-x.ensures in omega (arith, b.0, b.1, b.2)

pub put_bit-requires : goal.put_bit-requires
put_bit-requires c = let b = edge_fits c.args.s c.args.first.now c.args.second.now c.requires.0 c.args.j c.edge_at-x.result c.requires.1.0 c.edge_at-x.ensures in omega (arith, b.0, b.1, b.2, c.requires.1.1)

pub overflow_mul-x-3 : goal.overflow_mul-x-3
overflow_mul-x-3 c = let b = edge_fits c.args.s c.args.first.now c.args.second.now c.requires.0 c.args.j c.edge_at-x.result c.requires.1.0 c.edge_at-x.ensures in omega (arith, b.0, b.1, b.2)

pub overflow_add-x-3 : goal.overflow_add-x-3
overflow_add-x-3 c = let b = edge_fits c.args.s c.args.first.now c.args.second.now c.requires.0 c.args.j c.edge_at-x.result c.requires.1.0 c.edge_at-x.ensures in omega (arith, b.0, b.1, b.2)

pub overflow_mul-x-4 : goal.overflow_mul-x-4
overflow_mul-x-4 c = let b = edge_fits c.args.s c.args.first.now c.args.second.now c.requires.0 c.args.j c.edge_at-x.result c.requires.1.0 c.edge_at-x.ensures in omega (arith, b.0, b.1, b.2)

pub overflow_add-x-4 : goal.overflow_add-x-4
overflow_add-x-4 c = let b = edge_fits c.args.s c.args.first.now c.args.second.now c.requires.0 c.args.j c.edge_at-x.result c.requires.1.0 c.edge_at-x.ensures in omega (arith, b.0, b.1, b.2)

pub put_bit-requires-2 : goal.put_bit-requires-2
put_bit-requires-2 c = let b = edge_fits c.args.s c.args.first.now c.args.second.now c.requires.0 c.args.j c.edge_at-x.result c.requires.1.0 c.edge_at-x.ensures in omega (arith, b.0, b.1, b.2, c.requires.1.1, c.put_bit.auto.work)
