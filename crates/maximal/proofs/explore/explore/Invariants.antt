-- State by state all slots are worked, those of states found on the way too, unless there come to be too many; the boxes of each label are found once.
use Prim.Native.Nat.{◌*◌, ◌-◌}
use lib.ListN.{length}
use Rattle.files.specs.Decode.{decode_interface, decode_property}
use Rattle.maximal.proofs.ExploreLaws.{Working}
use Rattle.maximal.proofs.explore.explore.Given as goal

abbrev pub invariant-loop-i : goal.invariant-loop-i
invariant-loop-i l = Working l.s (decode_interface l.interface) (decode_property l.property) l.i (length l.initial.work) (9 * l.i) l.c l.work

abbrev pub decreases-loop-i : goal.decreases-loop-i
decreases-loop-i l = l.s.states - l.i
