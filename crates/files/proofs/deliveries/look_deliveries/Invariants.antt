use mathlib.Core.Path.{◌≡◌}
use Rattle.files.specs.Checking.{lowest}
use Rattle.files.specs.Deliveries.{own_start}
use Rattle.files.specs.Deliveries.Steps.{delivery_test}
use Rattle.files.proofs.deliveries.look_deliveries.Given as goal

abbrev pub invariant-loop-i : goal.invariant-loop-i
invariant-loop-i l = (l.start ≡ own_start l.file l.i) × (l.found ≡ lowest 3 2 (delivery_test l.file) 0 l.position l.i)
