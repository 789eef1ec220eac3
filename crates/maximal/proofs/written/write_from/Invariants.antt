use Rattle.maximal.specs.Listing.{from_bytes}
use Rattle.files.specs.Cells.Wrote.{Wrote}
use Rattle.maximal.proofs.written.write_from.Given as goal

abbrev pub invariant-loop-label : goal.invariant-loop-label
invariant-loop-label l = Wrote l.initial.out l.out l.at l.end (from_bytes l.work l.c l.i l.label)
