-- What an edge adds was made from the states that the node had at the start. If it has more since, it waits again, and its edges are covered by that.
use mathlib.Core.Path.{◌≡◌}
use mathlib.Core.Bool.{cond}
use Prim.Native.Nat.{ℕ, ◌≤◌, ◌<◌}
use lib.Dec.{eqb}
use Rattle.files.specs.Access.{first_edge}
use Rattle.files.specs.Decode.{decode_graph, decode_rules}
use Rattle.files.specs.Rules.{watch}
use Rattle.runs.specs.Worklist.{passed, sums, Grew}
use Rattle.runs.proofs.SummaryLaws.{Ran}
use Rattle.runs.proofs.summaries.run_edges.Given as goal

abbrev pub invariant-loop-j : goal.invariant-loop-j
invariant-loop-j l =
    (Grew (decode_graph l.graph) (watch (decode_rules l.rules)) l.tail l.end l.initial.work l.work) × (first_edge (decode_graph l.graph) l.g ≤ l.j)
    × (l.y ≡ cond (eqb l.label 0) l.x (passed (watch (decode_rules l.rules)) (sums l.table) l.caller l.label l.x))
    × ((i : ℕ) → i < l.j → first_edge (decode_graph l.graph) l.g ≤ i → Ran (decode_graph l.graph) (watch (decode_rules l.rules)) l.table l.work i l.p)
