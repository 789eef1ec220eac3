-- The answer at the place found is that of the outcome.
use Rattle.files.specs.Settling.Laws.{handed_on}
use Rattle.runs.specs.Showing.Work.{found_answer}
use Rattle.runs.proofs.showing.show_refusal_within.Goals as goal

pub returns-in_err-find_place : goal.returns-in_err-find_place
returns-in_err-find_place c =
    let a = c.args in
    rw (handed_on c.from_residual.result c.from_residual.ensures.1) (found_answer a.limits a.graph1.now a.graph2.now a.number _ c.in_err-find_place.ensures)

pub returns : goal.returns
returns c = let a = c.args in found_answer a.limits a.graph1.now a.graph2.now a.number _ c.in_ok-find_place.ensures
