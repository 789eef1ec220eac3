use mathlib.Core.Path.{◌≡◌}
use lib.ListN.{length}
use Rattle.files.specs.Decode.{decode_graph}
use Rattle.judging.specs.Refinement.{load, Matching}
use Rattle.judging.proofs.refine.settle.Given as goal

abbrev pub invariant-loop-v : goal.invariant-loop-v
invariant-loop-v l = (length l.work ≡ length l.initial.work) × Matching (decode_graph l.first) (decode_graph l.second) l.s.first.nodes l.work

abbrev pub decreases-loop-v : goal.decreases-loop-v
decreases-loop-v l = load l.s.first.nodes l.work
