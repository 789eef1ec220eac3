use Prim.Native.Nat.{◌*◌, ◌-◌}
use native.Mathlib.Omega.{arith}
use Rattle.judging.proofs.DecideLaws.{first_finding}
use Rattle.judging.proofs.decide.find_ranks.Goals as goal

pub start-tail-requires : goal.start-tail-requires
start-tail-requires c =
    let a = c.args in
    let i = c.index in
    let x = c.clear in
    (c.requires.0, first_finding a.s a.graph.now a.property.now c.requires.0 (2 * 32 * a.s.graph.nodes - 0) (omega arith) i.new.work x.new.work (omega (arith, i.auto.work, c.requires.1)) x.ensures i.ensures)
