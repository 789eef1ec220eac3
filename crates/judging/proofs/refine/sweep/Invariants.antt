use Prim.Native.Nat.{◌≤◌}
use Rattle.files.specs.Decode.{decode_graph}
use Rattle.judging.specs.Refinement.{load, Matching}
use Rattle.judging.proofs.refine.sweep.Given as goal

abbrev pub invariant-loop-i : goal.invariant-loop-i
invariant-loop-i l = Matching (decode_graph l.first) (decode_graph l.second) l.s.first.nodes l.work × (load l.s.first.nodes l.work ≤ load l.s.first.nodes l.initial.work)
