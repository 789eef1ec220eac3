use Prim.Native.Nat.{◌+◌, ◌≤◌}
use Rattle.files.specs.Decode.{decode_graph}
use Rattle.files.specs.Access.{first_edge}
use Rattle.files.proofs.graph.next_first.Given as goal

abbrev pub invariant-loop-j : goal.invariant-loop-j
invariant-loop-j l = l.j ≤ first_edge (decode_graph l.graph) (l.g + 1)
