use borrow.Author.Tests.{tests}
use Rattle.std.specs.Prelude.{not, T}
use Rattle.std.proofs.Common.{rules}
use Rattle.std.proofs.lemmas.Iterator.{first_from_Range}
use Rattle.files.specs.Decode.{decode_graph}
use Rattle.judging.specs.Simulation.Laws.{misses}
use Rattle.judging.proofs.CoverLaws.{lowest_uncovered}
use Rattle.judging.proofs.cover.first_uncovered.Goals as goal

pub returns : goal.returns
returns c =
    let a = c.args in
    let lacks = misses (decode_graph a.first.now) (decode_graph a.second.now) in
    let found = first_from_Range _ _ _ _ (λ g. T (lacks g)) (λ g. T (not (lacks g))) c.find.ensures.ran (λ g q k. search (rules, tests)) (λ g q k. search (rules, tests)) in
    lowest_uncovered a.s a.first.now a.second.now c.requires.0 c.find.result found
