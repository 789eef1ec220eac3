use Rattle.maximal.specs.Listing.Laws.{edges_bytes}
use Rattle.files.specs.Cells.Wrote.{Wrote}
use Rattle.maximal.proofs.written.write_model.Given as goal

abbrev pub invariant-loop-i : goal.invariant-loop-i
invariant-loop-i l = Wrote l.initial.out l.out l.c l.end (edges_bytes l.work l.c l.i)
