use Rattle.files.specs.Decode.{decode_graph}
use Prim.Native.Nat.{◌+◌, ◌*◌}
use Rattle.files.specs.Graph.{size}
use Rattle.judging.specs.Chains.{Chained, Outside, into}
use Rattle.judging.proofs.chains.link_graph.Given as goal

abbrev pub invariant-loop-e : goal.invariant-loop-e
invariant-loop-e l = (Chained l.work l.heads l.nexts (into (decode_graph l.graph)) (size (decode_graph l.graph)) l.e) × (Outside l.heads (l.nexts + 2 * l.edges) l.initial.work l.work)
