-- Each edge gets the row, up to the first one that leaves another node or has another label: the group ends there.
use Prim.Native.Nat.{ℕ, ◌≤◌, ◌<◌}
use lib.ListN.{get_or}
use Rattle.files.specs.Decode.{decode_graph, decode_rules}
use Rattle.files.specs.Graph.{no_edge}
use Rattle.files.specs.Rules.{watch}
use Rattle.runs.specs.Worklist.{Grew, RanIn}
use Rattle.runs.proofs.summaries.run_group.Given as goal

abbrev pub invariant-loop-j : goal.invariant-loop-j
invariant-loop-j l =
    (Grew (decode_graph l.graph) (watch (decode_rules l.rules)) l.tail l.end l.initial.work l.work)
    × ((i : ℕ) → i < l.j → l.first ≤ i → i < l.s.edges → (p : ℕ) → p < 8 → RanIn (decode_graph l.graph) (watch (decode_rules l.rules)) l.set l.y l.table l.initial.work l.work (get_or (decode_graph l.graph).edges i no_edge) p)
