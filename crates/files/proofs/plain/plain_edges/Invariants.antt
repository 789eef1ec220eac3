-- All records looked at so far are edges in order, and the next one's number must be past the last one's.
use Rattle.files.specs.Plain.{PlainEdges}
use Rattle.files.proofs.PlainLaws.{Below}
use Rattle.files.proofs.plain.plain_edges.Given as goal

abbrev pub invariant-loop-i : goal.invariant-loop-i
invariant-loop-i l = PlainEdges l.records l.nodes l.i × Below l.records l.nodes l.i l.least
