use Rattle.files.specs.Decode.{decode_graph}
use Rattle.judging.specs.Chains.{Outside}
use Rattle.judging.specs.Places.{heads_base, kinds_base}
use Rattle.judging.specs.Refinement.{KindRows}
use Rattle.judging.proofs.relation.put_kinds.Given as goal

abbrev pub invariant-loop-h : goal.invariant-loop-h
invariant-loop-h l = KindRows (decode_graph l.second) l.h l.work × Outside kinds_base heads_base l.initial.work l.work
