-- One entry after the other: what is left is that of the nodes from n on.
use Rattle.files.specs.Decode.{decode_graph, decode_rules}
use Rattle.files.specs.Rules.{watch}
use Rattle.runs.specs.Searching.{place}
use Rattle.runs.proofs.SearchLaws.{Upto, the_entries}
use Rattle.runs.proofs.entered.look_entries.Given as goal

abbrev pub invariant-loop-n : goal.invariant-loop-n
invariant-loop-n l = Upto (decode_graph l.graph) (watch (decode_rules l.rules)) l.start l.head (the_entries (decode_graph l.graph) (watch (decode_rules l.rules)) l.start (place l.g l.q) l.l) l.n l.tail l.initial.work l.work l.end
