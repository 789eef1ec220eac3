use Rattle.files.specs.Decode.{decode_graph, decode_rules}
use Rattle.files.specs.Rules.{watch}
use Rattle.runs.specs.Searching.Trace.{Counting}
use Rattle.runs.proofs.trail.count_records.Given as goal

abbrev pub invariant-loop-at : goal.invariant-loop-at
invariant-loop-at l = Counting (decode_graph l.graph) (watch (decode_rules l.rules)) l.start l.i l.work l.at l.n

abbrev pub decreases-loop-at : goal.decreases-loop-at
decreases-loop-at l = l.at
