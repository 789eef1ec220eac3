use mathlib.Core.Path.{◌≡◌}
use mathlib.Core.Bool.{◌&&◌}
use Prim.Native.Nat.{ℕ, ◌<◌}
use lib.Dec.{ltb}
use Rattle.files.specs.Decode.{decode_graph}
use Rattle.files.specs.Graph.{node}
use Rattle.files.specs.Places.{max_nodes}
use Rattle.judging.specs.Chains.{Outside}
use Rattle.judging.specs.Places.{held_base}
use Rattle.judging.specs.Refinement.{rel}
use Rattle.judging.specs.Simulation.{alike}
use Rattle.judging.proofs.relation.relate.Given as goal

abbrev pub invariant-loop-g : goal.invariant-loop-g
invariant-loop-g l = ((u h : ℕ) → u < l.g → h < max_nodes → rel l.work u h ≡ (ltb h l.fn.s.second.nodes && alike (node (decode_graph l.first) u) (node (decode_graph l.second) h))) × Outside 0 held_base l.initial.work l.work
