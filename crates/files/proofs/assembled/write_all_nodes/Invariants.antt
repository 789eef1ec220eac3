-- Method by method, the nodes stand one behind the other.
use Prim.Native.Nat.{◌-◌}
use Rattle.files.specs.Assemble.Bytes.{node_recs, run}
use Rattle.files.specs.Cells.Wrote.{Wrote}
use Rattle.files.specs.Deliveries.{decode_deliveries}
use Rattle.files.proofs.assembled.write_all_nodes.Given as goal

abbrev pub invariant-loop-method : goal.invariant-loop-method
invariant-loop-method l = Wrote l.initial.out l.out 0 l.at (run (node_recs (decode_deliveries l.file)) (l.method - 1))
