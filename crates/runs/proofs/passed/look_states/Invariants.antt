-- One state after the other: the call returns in it and its record is pushed, or there is none.
use Rattle.files.specs.Decode.{decode_graph, decode_rules}
use Rattle.files.specs.Rules.{watch}
use Rattle.runs.specs.Searching.{place}
use Rattle.runs.proofs.SearchLaws.{Upto, the_states}
use Rattle.runs.proofs.passed.look_states.Given as goal

abbrev pub invariant-loop-r : goal.invariant-loop-r
invariant-loop-r l = Upto (decode_graph l.graph) (watch (decode_rules l.rules)) l.start l.head (the_states (decode_graph l.graph) (watch (decode_rules l.rules)) l.start (place l.g l.q) l.j) l.r l.tail l.initial.work l.work l.end
