use mathlib.Core.Path.{sym, ap₂, ◌∙◌}
use mathlib.Core.Bool.{Bool, not, ◌||◌}
use Rattle.files.specs.Sides.Looks.{unprovided_is}
use Rattle.files.proofs.sides.unprovided.Goals as goal

pub returns : goal.returns
returns c =
    let a = c.args in
    ap₂ (λ (x y : Bool). not x || y) c.in_set.ensures c.lacks.ensures ∙ sym (unprovided_is (record { provided = a.provided; required = a.required }) a.start)
