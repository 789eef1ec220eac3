use Rattle.std.proofs.Common.{ℕ, ◌&&◌, rules, tests, sym, refl, ◌∙◌}
use Rattle.std.proofs.lemmas.Iterator.{YieldsList-from_range}
use Rattle.std.proofs.lemmas.Iterator.Search.{any_from_yields_List}
use Rattle.files.specs.Decode.{decode_interface}
use Rattle.files.specs.Interface.{provides}
use Rattle.files.specs.Sides.Looks.{shares_looks}
use Rattle.files.proofs.sides.shares.Goals as goal

pub returns : goal.returns
returns c =
    let I = decode_interface c.args.first.now in
    let J = decode_interface c.args.second.now in
    any_from_yields_List (λ (m : ℕ). provides I m && provides J m) _ _ _ c.any.ensures.ran (YieldsList-from_range 1 9 8 refl refl) (λ x b q k. search (rules, tests)) ∙ sym (shares_looks I J)
