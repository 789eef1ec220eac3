-- A file is refused, or both are accepted, and the counts of their views give the place.
use mathlib.Core.Path.{◌∙◌}
use Rattle.runs.specs.Showing.Work.{passed_place}
use Rattle.runs.proofs.showing.find_place.Goals as goal

pub returns : goal.returns
returns c =
    let a = c.args in
    let views = c.in_ok-s.ensures.views in
    c.place_of.ensures ∙ passed_place a.limits a.graph1.now a.graph2.now a.number c.check_show.ensures.settles c.in_ok-s.was views.0 views.1
