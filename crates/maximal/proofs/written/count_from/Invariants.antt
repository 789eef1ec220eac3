use mathlib.Core.Path.{◌≡◌}
use Rattle.maximal.specs.Listing.{tally_from}
use Rattle.maximal.proofs.written.count_from.Given as goal

abbrev pub invariant-loop-label : goal.invariant-loop-label
invariant-loop-label l = l.n ≡ tally_from l.work l.c l.i l.label
