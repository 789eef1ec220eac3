use Prim.Native.Nat.{◌-◌}
use native.Mathlib.Omega.{arith}
use Rattle.judging.specs.Places.{cursors_base, neighbours_base}
use Rattle.judging.specs.Refinement.Files.{first_edge_in}
use Rattle.judging.proofs.OrderLaws.{outside_on, pair_put}
use Rattle.judging.proofs.order.put_cursors.Goals as goal

pub put-requires : goal.put-requires
put-requires c = let b = first_edge_in c.args.s c.args.first.now c.args.second.now c.requires.0 (c.loop-e.e - 1) (omega arith) in omega (arith, c.source_of-u.ensures, b.0, c.requires.0.first_held.few_nodes, c.requires.1)

pub loop-e-preserved : goal.loop-e-preserved
loop-e-preserved c =
    let l = c.loop-e in
    let p = c.put in
    let b = first_edge_in c.args.s c.args.first.now c.args.second.now c.requires.0 (l.e - 1) (omega arith) in
    (outside_on cursors_base neighbours_base c.args.work.now l.work p.new.work l.invariant (pair_put l.work p.new.work cursors_base c.source_of-u.result _ cursors_base neighbours_base p.ensures (omega arith) (omega (arith, c.source_of-u.ensures, b.0, c.requires.0.first_held.few_nodes))))
