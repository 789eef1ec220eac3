use mathlib.Core.Path.{sym, subst, ◌∙◌}
use lib.Dec.{T}
use Rattle.judging.proofs.LevelLaws.{may_give, gave}
use Rattle.judging.proofs.levels.start_pair.Goals as goal

pub give-requires : goal.give-requires
give-requires c =
    let a = c.args in
    may_give a.s a.graph.now a.property.now c.requires.0 0 a.tail a.work.now c.requires.1.1.1 a.g a.r c.requires.1.0 c.requires.1.1.0 (subst T (sym (sym c.falls_alone.ensures ∙ c.if-falls_alone.true)) tt)

pub returns-then-falls_alone : goal.returns-then-falls_alone
returns-then-falls_alone c =
    let a = c.args in
    let x = gave a.s a.graph.now a.property.now c.requires.0 0 a.tail a.work.now c.requires.1.1.1 a.g a.r c.requires.1.0 c.requires.1.1.0 (subst T (sym (sym c.falls_alone.ensures ∙ c.if-falls_alone.true)) tt) _ _ c.give.ensures in
    (x.0, λ t. x.1)
