-- The chain meets the first edge of every group with this label, and each call of the method stands in such a group.
use lib.ListN.{length}
use Rattle.files.specs.Decode.{decode_graph, decode_rules}
use Rattle.files.specs.Rules.{watch}
use Rattle.judging.specs.Chains.Laws.{Walk}
use Rattle.runs.specs.Prepared.{opens}
use Rattle.runs.specs.Worklist.{Grew, GroupRan}
use Rattle.runs.proofs.summaries.run_calls.Given as goal

abbrev pub invariant-loop-at : goal.invariant-loop-at
invariant-loop-at l =
    (Grew (decode_graph l.graph) (watch (decode_rules l.rules)) l.tail l.end l.initial.work l.work)
    × (Walk (opens (decode_graph l.graph) l.m) (length (decode_graph l.graph).edges) l.at (GroupRan (decode_graph l.graph) (watch (decode_rules l.rules)) l.callers l.ends l.table l.initial.work l.work))

abbrev pub decreases-loop-at : goal.decreases-loop-at
decreases-loop-at l = l.at
