-- The rows below r stand in both tables, and nothing else was written.
use Rattle.files.specs.Decode.{decode_property}
use Rattle.maximal.proofs.SupportLaws.{Tabled}
use Rattle.maximal.proofs.supports.tabulate.Given as goal

abbrev pub invariant-loop-r : goal.invariant-loop-r
invariant-loop-r l = Tabled (decode_property l.property) l.initial.work l.work l.r
