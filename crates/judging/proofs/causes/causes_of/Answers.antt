-- The row is read once; its variant tells the causes.
use mathlib.Core.Path.{refl, sym, ◌∙◌}
use Rattle.std.proofs.Common.{rules}
use Rattle.judging.proofs.CauseLaws.{both_rows, box_row_in, both_causes, either_causes, box_causes_of, no_causes}
use Rattle.judging.proofs.causes.causes_of.Goals as goal

pub lower-c-requires : goal.lower-c-requires
lower-c-requires c =
    let a = c.args in
    let m = both_rows a.s a.graph.now a.property.now c.requires.0 a.g a.r c.requires.1.1.0 _ (sym c.in-And.is ∙ c.row_at-x.ensures) refl in
    (c.requires.0, (c.requires.1.0, (m.0, (m.1, c.requires.1.1.1))))

pub returns-in-And : goal.returns-in-And
returns-in-And c =
    let a = c.args in
    both_causes a.s a.graph.now a.property.now c.requires.0 a.g a.r c.requires.1.1.0 _ (sym c.in-And.is ∙ c.row_at-x.ensures) c.lower-c.result refl c.lower-c.ensures

pub returns-in-Or : goal.returns-in-Or
returns-in-Or c =
    let a = c.args in
    either_causes a.s a.graph.now a.property.now c.requires.0 a.g a.r c.requires.1.1.0 _ (sym c.in-Or.is ∙ c.row_at-x.ensures) refl

pub box_cause-requires : goal.box_cause-requires
box_cause-requires c =
    let a = c.args in
    (c.requires.0, (c.requires.1.0, (box_row_in a.s a.graph.now a.property.now c.requires.0 a.g a.r c.requires.1.1.0 _ c.row_at-x.ensures (search rules), c.requires.1.1.1)))

pub returns-in-Box : goal.returns-in-Box
returns-in-Box c =
    let a = c.args in
    box_causes_of a.s a.graph.now a.property.now c.requires.0 a.g a.r c.requires.1.1.0 _ c.row_at-x.ensures c.box_cause.result (search rules) c.box_cause.ensures

pub returns-in-True : goal.returns-in-True
returns-in-True c =
    let a = c.args in
    no_causes a.s a.graph.now a.property.now c.requires.0 a.g a.r c.requires.1.1.0 _ c.row_at-x.ensures (search rules) (search rules) (search rules)
