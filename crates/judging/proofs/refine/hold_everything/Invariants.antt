use mathlib.Core.Path.{◌≡◌}
use Prim.Native.Nat.{ℕ, ◌<◌}
use lib.Dec.{ltb}
use Rattle.files.specs.Places.{max_nodes}
use Rattle.judging.specs.Chains.{Outside}
use Rattle.judging.specs.Places.{held_base, kinds_base}
use Rattle.judging.specs.Refinement.{held}
use Rattle.judging.proofs.refine.hold_everything.Given as goal

abbrev pub invariant-loop-v : goal.invariant-loop-v
invariant-loop-v l = ((u h : ℕ) → u < l.v → h < max_nodes → held l.work u h ≡ ltb h l.fn.s.second.nodes) × Outside held_base kinds_base l.initial.work l.work
