use Rattle.files.specs.Decode.{decode_graph}
use Rattle.judging.specs.Chains.{Chained, Outside}
use Rattle.runs.specs.Prepared.{opens}
use Rattle.runs.specs.Regions.{label_heads_base, label_nexts_base, reached_base}
use Rattle.runs.proofs.prepare.link_groups.Given as goal

abbrev pub invariant-loop-e : goal.invariant-loop-e
invariant-loop-e l =
    (Chained l.work label_heads_base label_nexts_base (opens (decode_graph l.graph)) 9 l.e)
    × (Outside label_heads_base reached_base l.initial.work l.work)
