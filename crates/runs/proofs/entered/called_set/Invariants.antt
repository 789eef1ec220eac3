use Prim.Native.Nat.{◌≤◌}
use Rattle.files.specs.Access.{first_edge}
use Rattle.files.specs.Decode.{decode_graph, decode_rules}
use Rattle.files.specs.Rules.{watch}
use Rattle.runs.proofs.SearchLaws.{CalledTo}
use Rattle.runs.proofs.entered.called_set.Given as goal

abbrev pub invariant-loop-j : goal.invariant-loop-j
invariant-loop-j l = (first_edge (decode_graph l.graph) l.g ≤ l.j) × (CalledTo (decode_graph l.graph) (watch (decode_rules l.rules)) l.g l.j l.set)
