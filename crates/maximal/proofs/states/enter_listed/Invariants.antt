use Rattle.files.specs.Decode.{decode_interface, decode_property}
use Rattle.maximal.proofs.AdmitLaws.{Entering}
use Rattle.maximal.proofs.states.enter_listed.Given as goal

abbrev pub invariant-loop-k : goal.invariant-loop-k
invariant-loop-k l = Entering l.s (decode_interface l.interface) (decode_property l.property) l.c l.kind l.q l.initial.work l.k l.total l.work
