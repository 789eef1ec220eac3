-- One node after the other: what is left is that of the nodes from n on.
use Rattle.files.specs.Decode.{decode_graph, decode_rules}
use Rattle.files.specs.Rules.{watch}
use Rattle.runs.proofs.SearchLaws.{Upto, the_starts}
use Rattle.runs.proofs.search.look_starts.Given as goal

abbrev pub invariant-loop-n : goal.invariant-loop-n
invariant-loop-n l = Upto (decode_graph l.graph) (watch (decode_rules l.rules)) l.start 0 (the_starts (decode_graph l.graph) (watch (decode_rules l.rules)) l.start) l.n 1 l.initial.work l.work l.end
