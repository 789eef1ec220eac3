use mathlib.Core.Path.{◌≡◌}
use Prim.Native.Nat.{ℕ, ◌*◌, ◌/◌}
use lib.ListN.{length}
use Rattle.files.specs.Decode.{decode_graph, decode_property}
use Rattle.judging.specs.Chains.Laws.{Walk}
use Rattle.judging.specs.Ranking.{Grew, RowDone}
use Rattle.judging.specs.Chains.{uses}
use Rattle.judging.proofs.levels.pop.Given as goal

abbrev pub invariant-loop-at : goal.invariant-loop-at
invariant-loop-at l = (length l.work ≡ length l.initial.work) × (Grew (decode_graph l.graph) (decode_property l.property) l.k l.tail l.end l.initial.work l.work) × (Walk (uses (decode_property l.property) l.r) (2 * length (decode_property l.property)) l.at (λ (j : ℕ). RowDone (decode_graph l.graph) (decode_property l.property) l.k l.work l.v l.r (j / 2)))

abbrev pub decreases-loop-at : goal.decreases-loop-at
decreases-loop-at l = l.at
