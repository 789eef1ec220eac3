use Prim.Native.Nat.{ℕ, ◌<◌}
use Rattle.files.specs.Decode.{decode_graph}
use Rattle.judging.specs.Refinement.{Shrank, Leading}
use Rattle.judging.proofs.refine.drop_lacking.Given as goal

abbrev pub invariant-loop-label : goal.invariant-loop-label
invariant-loop-label l = Shrank (decode_graph l.first) (decode_graph l.second) l.initial.work l.work × ((k : ℕ) → k < l.label → Leading (decode_graph l.first) (decode_graph l.second) l.work k)
