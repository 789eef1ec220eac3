-- One entry state at a time: what was added for those before it stays.
use Rattle.files.specs.Decode.{decode_graph, decode_rules}
use Rattle.files.specs.Rules.{watch}
use Rattle.runs.specs.Worklist.{Grew, HasRow}
use Rattle.runs.proofs.points.add_each.Given as goal

abbrev pub invariant-loop-p : goal.invariant-loop-p
invariant-loop-p l = (Grew (decode_graph l.graph) (watch (decode_rules l.rules)) l.tail l.end l.initial.work l.work) × HasRow l.work l.g l.row l.p
