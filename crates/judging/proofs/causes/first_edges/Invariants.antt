use mathlib.Core.Path.{◌≡◌}
use Rattle.files.specs.Decode.{decode_graph, decode_property}
use Prim.Native.Nat.{ℕ, ◌+◌, ◌<◌}
use Rattle.files.specs.Access.{first_edge}
use Rattle.files.specs.Cells.{cell}
use Rattle.judging.specs.Places.{firsts_base}
use Rattle.judging.specs.Ranking.{Ranked}
use Rattle.judging.proofs.causes.first_edges.Given as goal

abbrev pub invariant-loop-g : goal.invariant-loop-g
invariant-loop-g l = (l.first ≡ first_edge (decode_graph l.graph) l.g)
    × ((u : ℕ) → u < l.g + 1 → cell l.work firsts_base 2 u ≡ first_edge (decode_graph l.graph) u)
    × (Ranked (decode_graph l.graph) (decode_property l.property) l.work)
