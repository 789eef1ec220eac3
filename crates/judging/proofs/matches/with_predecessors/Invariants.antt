use mathlib.Core.Path.{◌≡◌}
use Prim.Native.Nat.{ℕ, ◌<◌}
use lib.ListN.{length}
use Rattle.files.specs.Places.{line_bytes, max_nodes}
use Rattle.judging.specs.Refinement.{In}
use Rattle.judging.specs.Words.{Left}
use Rattle.judging.proofs.MatchLaws.{Before}
use Rattle.judging.proofs.matches.with_predecessors.Given as goal

abbrev pub invariant-loop-rest : goal.invariant-loop-rest
invariant-loop-rest l = (length l.met ≡ line_bytes) × Left l.nodes l.k (Before l.work l.nodes l.k l.met) l.rest × ((y : ℕ) → y < max_nodes → In l.row y → In l.met y)

abbrev pub decreases-loop-rest : goal.decreases-loop-rest
decreases-loop-rest l = l.rest
