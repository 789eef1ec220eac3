-- Node by node; where all are looked at, none is an entry of the method.
use Rattle.files.specs.Decode.{decode_graph}
use Rattle.files.specs.Sides.Entries.{NoneSoFar}
use Rattle.files.proofs.sides.has_entry.Given as goal

abbrev pub invariant-loop-n : goal.invariant-loop-n
invariant-loop-n l = NoneSoFar (decode_graph l.graph) l.m l.n
