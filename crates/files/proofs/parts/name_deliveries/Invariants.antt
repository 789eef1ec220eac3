use mathlib.Core.Path.{◌≡◌}
use Rattle.files.specs.Checking.{lowest}
use Rattle.files.specs.Deliveries.Names.{Held}
use Rattle.files.specs.Deliveries.Steps.{delivery_test}
use Rattle.files.proofs.parts.name_deliveries.Given as goal

abbrev pub invariant-loop-i : goal.invariant-loop-i
invariant-loop-i l = (Held l.file l.i l.part) × (l.found ≡ lowest 2 7 (delivery_test l.file) 0 l.position l.i)
