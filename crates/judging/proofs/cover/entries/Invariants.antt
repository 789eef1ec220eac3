use mathlib.Core.Path.{◌≡◌}
use lib.ListN.{length}
use Rattle.files.specs.Decode.{decode_graph}
use Rattle.files.specs.Graph.{node}
use Rattle.files.specs.Places.{line_bytes}
use Rattle.judging.specs.Refinement.{Chosen}
use Rattle.judging.proofs.cover.entries.Given as goal

abbrev pub invariant-loop-h : goal.invariant-loop-h
invariant-loop-h l = (length l.row ≡ line_bytes) × Chosen (λ x. (node (decode_graph l.second) x).entry) l.h l.row
