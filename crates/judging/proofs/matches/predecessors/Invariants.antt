use mathlib.Core.Path.{◌≡◌}
use Prim.Native.Nat.{◌*◌}
use lib.ListN.{length, replicate}
use Rattle.files.specs.Places.{line_bytes}
use Rattle.judging.specs.Refinement.{Preceded}
use Rattle.judging.proofs.matches.predecessors.Given as goal

abbrev pub invariant-loop-k : goal.invariant-loop-k
invariant-loop-k l = (length l.met ≡ line_bytes) × Preceded l.work l.nodes (replicate line_bytes 0) l.met 0 (32 * l.k)
