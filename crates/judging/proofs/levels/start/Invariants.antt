use Prim.Native.Nat.{ℕ, ◌<◌}
use mathlib.Core.Bool.{not}
use lib.Dec.{T}
use Rattle.files.specs.Decode.{decode_graph, decode_property}
use Rattle.judging.specs.Levels.{level}
use Rattle.judging.specs.Ranking.{Given, Grew}
use Rattle.judging.proofs.levels.start.Given as goal

abbrev pub invariant-loop-r : goal.invariant-loop-r
invariant-loop-r l = (Grew (decode_graph l.graph) (decode_property l.property) 0 0 l.end l.initial.work l.work) × ((j : ℕ) → j < l.r → (v : ℕ) → v < l.s.graph.nodes → T (not (level (decode_graph l.graph) (decode_property l.property) 1 v j)) → Given l.work v j)
