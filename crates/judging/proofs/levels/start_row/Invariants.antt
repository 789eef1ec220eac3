use Prim.Native.Nat.{ℕ, ◌<◌}
use mathlib.Core.Bool.{not}
use lib.Dec.{T}
use Rattle.files.specs.Decode.{decode_graph, decode_property}
use Rattle.judging.specs.Levels.{level}
use Rattle.judging.specs.Ranking.{Given, Grew}
use Rattle.judging.proofs.levels.start_row.Given as goal

abbrev pub invariant-loop-g : goal.invariant-loop-g
invariant-loop-g l = (Grew (decode_graph l.graph) (decode_property l.property) 0 l.tail l.end l.initial.work l.work) × ((v : ℕ) → v < l.g → T (not (level (decode_graph l.graph) (decode_property l.property) 1 v l.r)) → Given l.work v l.r)
