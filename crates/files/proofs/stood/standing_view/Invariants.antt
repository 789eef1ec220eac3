use Prim.Native.Nat.{◌-◌}
use Rattle.files.specs.Assemble.Stood.{Summed}
use Rattle.files.proofs.stood.standing_view.Given as goal

abbrev pub invariant-loop-method : goal.invariant-loop-method
invariant-loop-method l = Summed l.file (l.method - 1) l.nodes l.edges
