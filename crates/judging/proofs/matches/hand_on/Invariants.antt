use Prim.Native.Nat.{ℕ, ◌<◌}
use Rattle.files.specs.Decode.{decode_graph}
use Rattle.judging.specs.Refinement.{Shrank, LabelMatched}
use Rattle.judging.proofs.matches.hand_on.Given as goal

abbrev pub invariant-loop-label : goal.invariant-loop-label
invariant-loop-label loop = Shrank (decode_graph loop.first) (decode_graph loop.second) loop.initial.work loop.work × ((l : ℕ) → l < loop.label → LabelMatched (decode_graph loop.first) (decode_graph loop.second) loop.work loop.v l loop.row)
