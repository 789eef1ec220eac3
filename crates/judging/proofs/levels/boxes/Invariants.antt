use mathlib.Core.Path.{◌≡◌}
use Prim.Native.Nat.{ℕ}
use lib.Dec.{T}
use lib.ListN.{length, get_or}
use Rattle.files.specs.Access.{aims_along}
use Rattle.files.specs.Decode.{decode_graph, decode_property}
use Rattle.files.specs.Graph.{no_edge}
use Rattle.judging.specs.Chains.Laws.{Walk}
use Rattle.judging.specs.Ranking.{Given, Grew}
use Rattle.judging.specs.Chains.{into}
use Rattle.judging.proofs.levels.boxes.Given as goal

abbrev pub invariant-loop-at : goal.invariant-loop-at
invariant-loop-at l = (length l.work ≡ length l.initial.work) × (Grew (decode_graph l.graph) (decode_property l.property) l.k l.tail l.end l.initial.work l.work) × (Walk (into (decode_graph l.graph) l.v) (length (decode_graph l.graph).edges) l.at (λ (e : ℕ). T (aims_along l.x (get_or (decode_graph l.graph).edges e no_edge).label) → Given l.work (get_or (decode_graph l.graph).edges e no_edge).from l.q))

abbrev pub decreases-loop-at : goal.decreases-loop-at
decreases-loop-at l = l.at
