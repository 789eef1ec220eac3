use mathlib.Core.Path.{◌≡◌}
use Rattle.files.specs.Decode.{decode_graph, decode_property}
use lib.ListN.{length}
use Rattle.files.specs.Cells.{put_at}
use Rattle.judging.specs.Sheets.Walk.{bytes_of}
use Rattle.judging.proofs.sheet.write_sheet.Given as goal

abbrev pub invariant-loop-i : goal.invariant-loop-i
invariant-loop-i l = (l.out ≡ put_at l.initial.out 0 (bytes_of (decode_graph l.graph) (decode_property l.property) l.work l.i)) × (length l.out ≡ length l.initial.out)
