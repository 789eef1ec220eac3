use Rattle.files.specs.Decode.{decode_graph, decode_rules}
use Rattle.files.specs.Rules.{watch}
use Rattle.runs.specs.Worklist.{Grew, EntriesIn}
use Rattle.runs.proofs.summaries.seed.Given as goal

abbrev pub invariant-loop-g : goal.invariant-loop-g
invariant-loop-g l =
    (Grew (decode_graph l.graph) (watch (decode_rules l.rules)) 0 l.end l.initial.work l.work) × (EntriesIn (decode_graph l.graph) (watch (decode_rules l.rules)) l.g l.work)
