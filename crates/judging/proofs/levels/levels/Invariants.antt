use mathlib.Core.Path.{◌≡◌}
use Prim.Native.Nat.{◌-◌, ◌≤◌}
use lib.ListN.{length}
use Rattle.files.specs.Decode.{decode_graph, decode_property}
use Rattle.judging.specs.Places.{max_pairs}
use Rattle.judging.specs.Ranking.{Found}
use Rattle.judging.proofs.levels.levels.Given as goal

abbrev pub invariant-loop-head : goal.invariant-loop-head
invariant-loop-head l = (length l.work ≡ length l.initial.work) × (1 ≤ l.k) × (Found (decode_graph l.graph) (decode_property l.property) l.k l.head l.tail l.work)

abbrev pub decreases-loop-head : goal.decreases-loop-head
decreases-loop-head l = max_pairs - l.head
