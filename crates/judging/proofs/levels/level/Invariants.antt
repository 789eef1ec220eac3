use mathlib.Core.Path.{◌≡◌}
use Prim.Native.Nat.{ℕ, ◌≤◌, ◌<◌}
use lib.ListN.{length}
use Rattle.files.specs.Decode.{decode_graph, decode_property}
use Rattle.judging.specs.Ranking.{Grew, pair, queue_at, Done}
use Rattle.files.specs.Graph.{size}
use Rattle.judging.proofs.levels.level.Given as goal

abbrev pub invariant-loop-i : goal.invariant-loop-i
invariant-loop-i l = (Grew (decode_graph l.graph) (decode_property l.property) l.k l.tail l.end l.initial.work l.work) × ((j : ℕ) → j < l.i → l.head ≤ j → (v r : ℕ) → v < size (decode_graph l.graph) → r < length (decode_property l.property) → queue_at l.initial.work j ≡ pair v r → Done (decode_graph l.graph) (decode_property l.property) l.k l.work v r)
