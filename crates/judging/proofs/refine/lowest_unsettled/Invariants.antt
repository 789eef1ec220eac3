use Prim.Native.Nat.{ℕ, ◌<◌}
use lib.Dec.{T}
use Rattle.files.specs.Places.{max_nodes}
use Rattle.judging.specs.Refinement.{rel, held}
use Rattle.judging.proofs.refine.lowest_unsettled.Given as goal

abbrev pub invariant-loop-v : goal.invariant-loop-v
invariant-loop-v l = (u h : ℕ) → u < l.v → h < max_nodes → T (held l.work u h) → T (rel l.work u h)
