-- What was found so far is the completion of the worked rows of the set, by the tables. Each turn works one row more, until all are worked.
use mathlib.Core.Path.{◌≡◌}
use mathlib.Core.List.{List}
use Prim.Native.Nat.{◌-◌, ◌^◌, ◌<◌}
use lib.ListN.{length}
use Rattle.files.specs.Basics.Tables.{tally}
use Rattle.files.specs.Property.{Row}
use Rattle.maximal.specs.Collected.{Tables}
use Rattle.maximal.specs.Masks.{member, Partly, completion}
use Rattle.maximal.proofs.supports.closed_rows.Given as goal

abbrev pub invariant-loop-done : goal.invariant-loop-done
invariant-loop-done l = Partly 32 l.set l.done × ((P : List Row) → Tables P l.work → l.set < 2 ^ length P → l.all ≡ completion P l.done)

abbrev pub decreases-loop-done : goal.decreases-loop-done
decreases-loop-done l = 32 - tally (member l.done) 32
