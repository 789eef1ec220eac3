-- Edge by edge, record by record; all of them together are the moved edges in bytes.
use Prim.Native.Nat.{◌+◌}
use Rattle.files.specs.Basics.Lists.{each, span}
use Rattle.files.specs.Cells.Wrote.{Wrote}
use Rattle.files.specs.Decode.{decode_graph}
use Rattle.files.specs.Join.Bytes.{moved_bytes}
use Rattle.files.proofs.moved.write_all_moved.Given as goal

abbrev pub invariant-loop-j : goal.invariant-loop-j
invariant-loop-j l = Wrote l.initial.out l.out l.first (l.first + l.j) (each (moved_bytes l.before (decode_graph l.graph)) (span 0 l.j))
