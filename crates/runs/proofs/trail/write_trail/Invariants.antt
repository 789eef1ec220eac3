use Rattle.files.specs.Decode.{decode_graph, decode_rules}
use Rattle.files.specs.Rules.{watch}
use Rattle.runs.specs.Searching.Trace.{Writing}
use Rattle.runs.proofs.trail.write_trail.Given as goal

abbrev pub invariant-loop-at : goal.invariant-loop-at
invariant-loop-at l = Writing (decode_graph l.graph) (watch (decode_rules l.rules)) l.start l.i l.work l.initial.out l.out l.at l.k

abbrev pub decreases-loop-at : goal.decreases-loop-at
decreases-loop-at l = l.at
