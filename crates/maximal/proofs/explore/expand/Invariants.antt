-- The slots of state i are worked label by label; each turn leaves at least as many states, and stops where there are too many.
use Prim.Native.Nat.{◌+◌, ◌*◌}
use lib.ListN.{length}
use Rattle.files.specs.Decode.{decode_interface, decode_property}
use Rattle.maximal.proofs.ExploreLaws.{Working}
use Rattle.maximal.proofs.explore.expand.Given as goal

abbrev pub invariant-loop-label : goal.invariant-loop-label
invariant-loop-label l = Working l.s (decode_interface l.interface) (decode_property l.property) l.c (length l.initial.work) (9 * l.i + l.label) l.total l.work
