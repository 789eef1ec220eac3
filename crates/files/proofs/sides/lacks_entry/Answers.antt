use Rattle.std.proofs.Common.{ℕ, not, ◌&&◌, rules, tests, sym, refl, ◌∙◌}
use Rattle.std.proofs.lemmas.Iterator.{YieldsList-from_range}
use Rattle.std.proofs.lemmas.Iterator.Search.{any_from_yields_List}
use Rattle.files.specs.Decode.{decode_graph, decode_interface}
use Rattle.files.specs.Interface.{provides}
use Rattle.files.specs.Sides.{has_entry}
use Rattle.files.specs.Sides.Entries.{lacks_entry_looks}
use Rattle.files.proofs.sides.lacks_entry.Goals as goal

pub returns : goal.returns
returns c =
    let I = decode_interface c.args.interface.now in
    let G = decode_graph c.args.graph.now in
    any_from_yields_List (λ (m : ℕ). provides I m && not (has_entry G m)) _ _ _ c.any.ensures.ran (YieldsList-from_range 1 9 8 refl refl) (λ x b q k. search (rules, tests)) ∙ sym (lacks_entry_looks I G)
