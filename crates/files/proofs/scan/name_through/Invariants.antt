use mathlib.Core.Path.{◌≡◌}
use Rattle.files.specs.FileKind.{kind_of}
use Rattle.files.specs.Checking.{test, lowest}
use Rattle.files.proofs.scan.name_through.Given as goal

abbrev pub invariant-loop-i : goal.invariant-loop-i
invariant-loop-i l = l.found ≡ lowest 2 7 (test (kind_of l.kind) l.records) l.first l.position l.i
