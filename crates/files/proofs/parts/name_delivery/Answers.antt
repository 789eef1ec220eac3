use mathlib.Core.Path.{sym, ◌∙◌}
use Rattle.files.specs.Deliveries.Names.{opening_names_none}
use Rattle.files.proofs.parts.name_delivery.Goals as goal

pub returns-then-kind-eq-OPENING : goal.returns-then-kind-eq-OPENING
returns-then-kind-eq-OPENING c = let a = c.args in opening_names_none a.file.now a.position a.i (sym c.kind_at-kind.ensures ∙ c.if-kind-eq-OPENING.true)
