use Rattle.maximal.specs.Listing.Laws.{nodes_bytes}
use Rattle.files.specs.Cells.Wrote.{Wrote}
use Rattle.maximal.proofs.written.write_nodes.Given as goal

abbrev pub invariant-loop-i : goal.invariant-loop-i
invariant-loop-i l = Wrote l.initial.out l.out 0 l.i (nodes_bytes l.work l.i)
