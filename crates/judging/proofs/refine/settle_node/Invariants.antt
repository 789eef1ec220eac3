use mathlib.Core.Path.{◌≡◌}
use Prim.Native.Nat.{◌≤◌}
use lib.ListN.{length}
use Rattle.files.specs.Decode.{decode_graph}
use Rattle.judging.specs.Refinement.{load, Matching}
use Rattle.judging.proofs.refine.settle_node.Given as goal

abbrev pub invariant-loop-s : goal.invariant-loop-s
invariant-loop-s l = (length l.work ≡ length l.initial.work) × Matching (decode_graph l.first) (decode_graph l.second) l.s.first.nodes l.work × (load l.s.first.nodes l.work ≤ load l.s.first.nodes l.initial.work)

abbrev pub decreases-loop-s : goal.decreases-loop-s
decreases-loop-s l = load l.s.first.nodes l.work
