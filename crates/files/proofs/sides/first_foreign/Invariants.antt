use mathlib.Core.Path.{◌≡◌}
use mathlib.Core.Option.{none}
use Rattle.files.specs.Basics.First.{first_where}
use Rattle.files.specs.Record.{parsed_at}
use Rattle.files.specs.Sides.{foreign_of}
use Rattle.files.proofs.sides.first_foreign.Given as goal

abbrev pub invariant-loop-i : goal.invariant-loop-i
invariant-loop-i l = first_where (λ j. foreign_of (record { provided = l.provided; required = l.required }) (parsed_at l.graph j)) l.i ≡ none
