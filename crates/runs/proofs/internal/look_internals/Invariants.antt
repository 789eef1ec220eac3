-- One edge after the other: what is left is that of the edges of the node from j on.
use Prim.Native.Nat.{◌≤◌}
use Rattle.files.specs.Access.{first_edge}
use Rattle.files.specs.Decode.{decode_graph, decode_rules}
use Rattle.files.specs.Rules.{watch}
use Rattle.runs.specs.Searching.{place}
use Rattle.runs.proofs.SearchLaws.{Upto, the_internals}
use Rattle.runs.proofs.internal.look_internals.Given as goal

abbrev pub invariant-loop-j : goal.invariant-loop-j
invariant-loop-j l = (first_edge (decode_graph l.graph) l.g ≤ l.j) × Upto (decode_graph l.graph) (watch (decode_rules l.rules)) l.start l.head (the_internals (decode_graph l.graph) (watch (decode_rules l.rules)) l.start (place l.g l.q)) l.j l.tail l.initial.work l.work l.end
