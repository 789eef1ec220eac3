use Rattle.files.specs.Decode.{decode_graph}
use Rattle.judging.specs.Chains.{Outside}
use Rattle.judging.specs.Places.{neighbours_base, neighbours_end}
use Rattle.judging.specs.Refinement.Preparing.{Putting}
use Rattle.judging.proofs.relation.put_edges.Given as goal

abbrev pub invariant-loop-j : goal.invariant-loop-j
invariant-loop-j l = Putting (decode_graph l.second) l.s.second.nodes l.j l.work × Outside neighbours_base neighbours_end l.initial.work l.work
