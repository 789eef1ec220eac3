-- Method by method, the edges stand one behind the other, each counted on from the nodes of the methods before.
use mathlib.Core.Path.{◌≡◌}
use Prim.Native.Nat.{◌-◌}
use Rattle.files.specs.Assemble.Bytes.{edge_recs, run}
use Rattle.files.specs.Cells.Wrote.{Wrote}
use Rattle.files.specs.Deliveries.{decode_deliveries}
use Rattle.files.specs.Deliveries.Layout.{nodes_among}
use Rattle.files.proofs.assembled.write_all_edges.Given as goal

abbrev pub invariant-loop-method : goal.invariant-loop-method
invariant-loop-method l =
    (l.before ≡ nodes_among (decode_deliveries l.file) 1 (l.method - 1)) × (Wrote l.initial.out l.out l.first l.at (run (edge_recs (decode_deliveries l.file)) (l.method - 1)))
