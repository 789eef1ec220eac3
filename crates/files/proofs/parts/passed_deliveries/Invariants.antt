use mathlib.Core.Path.{◌≡◌}
use Rattle.files.specs.Basics.Tests.{any, upto}
use Rattle.files.specs.Deliveries.Names.{opening_passed}
use Rattle.files.proofs.parts.passed_deliveries.Given as goal

abbrev pub invariant-loop-o : goal.invariant-loop-o
invariant-loop-o l = l.some ≡ any (opening_passed l.limits l.file) (upto l.o)
