-- The rows gathered so far are those that the worked rows of the set ask for. Each turn works one row more, until all are worked.
use mathlib.Core.Path.{◌≡◌}
use Prim.Native.Nat.{◌-◌}
use Rattle.files.specs.Basics.Tables.{tally}
use Rattle.files.specs.Decode.{decode_property}
use Rattle.maximal.specs.Masks.{member, Partly, asked_of}
use Rattle.maximal.proofs.masks.asked.Given as goal

abbrev pub invariant-loop-done : goal.invariant-loop-done
invariant-loop-done l = Partly l.n l.set l.done × (l.rows ≡ asked_of (decode_property l.property) l.done l.label)

abbrev pub decreases-loop-done : goal.decreases-loop-done
decreases-loop-done l = l.n - tally (member l.done) l.n
