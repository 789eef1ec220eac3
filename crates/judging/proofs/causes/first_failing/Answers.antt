use borrow.Author.Tests.{tests}
use Rattle.std.specs.Prelude.{not, T}
use Rattle.std.proofs.Common.{rules}
use Rattle.std.proofs.lemmas.Iterator.{first_from_Range}
use Rattle.files.specs.Decode.{decode_graph, decode_property}
use Rattle.judging.specs.Sheets.{fails_at}
use Rattle.judging.proofs.CauseLaws.{lowest_failing}
use Rattle.judging.proofs.causes.first_failing.Goals as goal

pub returns : goal.returns
returns c =
    let a = c.args in
    let fails = fails_at (decode_graph a.graph.now) (decode_property a.property.now) in
    let found = first_from_Range _ _ _ _ (λ g. T (fails g)) (λ g. T (not (fails g))) c.find.ensures.ran (λ g q k. search (rules, tests)) (λ g q k. search (rules, tests)) in
    lowest_failing a.s a.graph.now a.property.now c.requires.0 c.find.result found
