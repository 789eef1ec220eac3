use Rattle.std.proofs.Common.{ℕ, not, ◌&&◌, rules, tests, sym, refl, ◌∙◌}
use Rattle.std.proofs.lemmas.Iterator.{YieldsList-from_range}
use Rattle.std.proofs.lemmas.Iterator.Search.{any_from_yields_List}
use Rattle.files.specs.Interface.{in_set}
use Rattle.files.specs.Sides.Looks.{lacks_looks}
use Rattle.files.proofs.sides.lacks.Goals as goal

pub returns : goal.returns
returns c =
    let a = c.args in
    any_from_yields_List (λ (m : ℕ). in_set a.required m && not (in_set a.provided m)) _ _ _ c.any.ensures.ran (YieldsList-from_range 1 9 8 refl refl) (λ x b q k. search (rules, tests))
    ∙ sym (lacks_looks (record { provided = a.provided; required = a.required }))
