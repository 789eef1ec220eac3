use mathlib.Core.Path.{◌≡◌}
use Rattle.files.specs.Decode.{decode_graph, decode_property}
use Prim.Native.Nat.{◌+◌, ◌≤◌}
use Rattle.files.specs.Access.{first_edge, looked_at, aims_along}
use Rattle.files.specs.Basics.First.{first_or}
use Rattle.judging.specs.Sheets.{best_target}
use Rattle.judging.proofs.causes.foremost.Given as goal

abbrev pub invariant-loop-j : goal.invariant-loop-j
invariant-loop-j l = (first_edge (decode_graph l.graph) l.g ≤ l.j)
    × (l.end ≡ first_edge (decode_graph l.graph) (l.g + 1))
    × (l.best ≡ first_or (best_target (decode_graph l.graph) (decode_property l.property) l.g (aims_along l.x) (looked_at l.x) l.j) l.s.graph.nodes)
