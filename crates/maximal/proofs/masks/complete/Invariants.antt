-- Each turn works one row more, of those that were found, and finds what it asks for; so there is an end, where every row found is worked.
use Prim.Native.Nat.{◌-◌}
use lib.ListN.{length}
use Rattle.files.specs.Basics.Tables.{tally}
use Rattle.files.specs.Decode.{decode_property}
use Rattle.maximal.specs.Masks.{member}
use Rattle.maximal.proofs.CompleteLaws.{Completing}
use Rattle.maximal.proofs.masks.complete.Given as goal

abbrev pub invariant-loop-all : goal.invariant-loop-all
invariant-loop-all l = Completing (decode_property l.property) l.set l.all l.done

abbrev pub decreases-loop-all : goal.decreases-loop-all
decreases-loop-all l = length (decode_property l.property) - tally (member l.done) (length (decode_property l.property))
