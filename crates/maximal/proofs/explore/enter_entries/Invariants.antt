use lib.ListN.{length}
use Rattle.files.specs.Decode.{decode_interface, decode_property}
use Rattle.maximal.proofs.EntryLaws.{KindsEntered}
use Rattle.maximal.proofs.explore.enter_entries.Given as goal

abbrev pub invariant-loop-kind : goal.invariant-loop-kind
invariant-loop-kind l = KindsEntered l.s (decode_interface l.interface) (decode_property l.property) (length l.initial.work) l.kind l.c l.work
