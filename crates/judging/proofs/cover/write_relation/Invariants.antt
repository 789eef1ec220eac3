use mathlib.Core.Path.{◌≡◌}
use Rattle.files.specs.Decode.{decode_graph}
use lib.ListN.{length}
use Rattle.files.specs.Cells.{put_at}
use Rattle.judging.specs.Refinement.Cover.{lines_of}
use Rattle.judging.proofs.cover.write_relation.Given as goal

abbrev pub invariant-loop-g : goal.invariant-loop-g
invariant-loop-g l = (l.out ≡ put_at l.initial.out 0 (lines_of (decode_graph l.first) (decode_graph l.second) l.g)) × (length l.out ≡ length l.initial.out)
