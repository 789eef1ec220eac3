-- What waits is in the queue from `head` on, and all else is done by the table as it is. A turn takes one point, and hands on the table with its grown summary or the same
-- one. The queue has no more places than there are states in all.
use Prim.Native.Nat.{◌-◌, ◌≤◌}
use Rattle.files.specs.Decode.{decode_graph, decode_rules}
use Rattle.files.specs.Rules.{watch}
use Rattle.runs.specs.Regions.{queue_cells}
use Rattle.runs.specs.Worklist.{Past, Spread}
use Rattle.runs.proofs.summaries.settle.Given as goal

abbrev pub invariant-loop-head : goal.invariant-loop-head
invariant-loop-head l =
    (l.head ≤ l.end) × (Spread (decode_graph l.graph) (watch (decode_rules l.rules)) l.table l.head l.end l.work) × (Past l.initial.work l.work)

abbrev pub decreases-loop-head : goal.decreases-loop-head
decreases-loop-head l = queue_cells - l.head
