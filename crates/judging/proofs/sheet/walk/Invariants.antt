use mathlib.Core.Path.{◌≡◌}
use Rattle.files.specs.Decode.{decode_graph, decode_property}
use Rattle.judging.specs.Places.{max_pairs}
use Rattle.judging.specs.Sheets.{Listed}
use Rattle.judging.specs.Sheets.Walk.{Onward}
use Prim.Native.Nat.{◌≤◌, ◌-◌}
use lib.ListN.{length}
use Rattle.judging.proofs.sheet.walk.Given as goal

abbrev pub invariant-loop-head : goal.invariant-loop-head
invariant-loop-head l = (Listed (decode_graph l.graph) (decode_property l.property) l.tail l.work) × (l.head ≤ l.tail) × (Onward (decode_graph l.graph) (decode_property l.property) l.head l.tail l.work) × (length l.work ≡ length l.initial.work)

abbrev pub decreases-loop-head : goal.decreases-loop-head
decreases-loop-head l = max_pairs - l.head
