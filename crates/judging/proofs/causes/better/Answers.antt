use native.Mathlib.Omega.{arith}
use Rattle.files.specs.Access.Boxes.{found_at}
use Rattle.judging.proofs.CauseLaws.{to_node}
use Rattle.judging.proofs.causes.better.Goals as goal

pub is_ahead-requires : goal.is_ahead-requires
is_ahead-requires c =
    let a = c.args in
    let f = found_at a.x c.edge_at-edge.result.label c.obliged.ensures c.in-Some.row c.in-Some.is in
    (c.requires.0, (omega (arith, f.1, c.requires.1.0), (c.if-best-s.true, (to_node a.s a.graph.now a.property.now c.requires.0 a.j _ c.requires.1.1.1.0 c.edge_at-edge.ensures, c.requires.1.1.1.1))))
