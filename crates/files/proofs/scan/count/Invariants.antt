use mathlib.Core.Path.{◌≡◌}
use Rattle.files.specs.Basics.Tables.{tally}
use Rattle.files.specs.FileKind.{kind_of}
use Rattle.files.specs.Checking.{counts}
use Rattle.files.proofs.scan.count.Given as goal

abbrev pub invariant-loop-i : goal.invariant-loop-i
invariant-loop-i l = l.apart ≡ tally (counts (kind_of l.kind) l.records) l.i
