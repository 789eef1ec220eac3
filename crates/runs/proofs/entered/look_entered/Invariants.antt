-- One method after the other: it is called and entered, or there is none of its records.
use Rattle.files.specs.Decode.{decode_graph, decode_rules}
use Rattle.files.specs.Rules.{watch}
use Rattle.runs.specs.Searching.{place}
use Rattle.runs.proofs.SearchLaws.{Upto, the_entereds}
use Rattle.runs.proofs.entered.look_entered.Given as goal

abbrev pub invariant-loop-l : goal.invariant-loop-l
invariant-loop-l l = Upto (decode_graph l.graph) (watch (decode_rules l.rules)) l.start l.head (the_entereds (decode_graph l.graph) (watch (decode_rules l.rules)) l.start (place l.g l.q)) l.l l.tail l.initial.work l.work l.end
