-- What is taken so far leads where the definition does, and the bound stays the set's completion. Each turn works one row more.
use Prim.Native.Nat.{◌-◌}
use lib.ListN.{length}
use Rattle.files.specs.Basics.Tables.{tally}
use Rattle.files.specs.Decode.{decode_property}
use Rattle.maximal.specs.Masks.{member}
use Rattle.maximal.proofs.OpenLaws.{Opening}
use Rattle.maximal.proofs.supports.next_open.Given as goal

abbrev pub invariant-loop-all : goal.invariant-loop-all
invariant-loop-all l = Opening (decode_property l.property) l.set l.worked l.bound l.all l.done

abbrev pub decreases-loop-all : goal.decreases-loop-all
decreases-loop-all l = length (decode_property l.property) - tally (member l.done) (length (decode_property l.property))
