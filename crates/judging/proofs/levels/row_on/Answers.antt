use mathlib.Core.Path.{refl, sym, ◌∙◌}
use native.Mathlib.Omega.{arith}
use Rattle.std.proofs.Common.{rules}
use Rattle.files.specs.Decode.{decode_graph, decode_property}
use Rattle.judging.specs.Ranking.Stores.{grew_none}
use Rattle.judging.proofs.LevelLaws.{may_give, gave, is_boxed, aims_obliges, obliges_aims, a_fits, b_fits, given_done, row_turns, row_stays}
use Rattle.judging.specs.Ranking.Files.{edges_is, box_level}
use Rattle.judging.specs.Ranking.Laws.{box_done}
use Rattle.judging.proofs.levels.row_on.Goals as goal

pub boxes-requires : goal.boxes-requires
boxes-requires c =
    let a = c.args in
    (c.requires.0, (c.requires.1.0, (c.requires.1.1.1.0, (c.requires.1.1.1.1.0, λ e he i d. box_level (decode_graph a.graph.now) (decode_property a.property.now) a.k a.v a.q a.r e (omega (arith, he, edges_is a.s a.graph.now a.property.now c.requires.0)) i (aims_obliges a.s a.graph.now a.property.now c.requires.0 a.k a.tail a.work.now c.requires.1.1.1.1.0 a.v a.r a.q c.requires.1.0 c.requires.1.1.1.0 c.requires.1.1.1.1.1.0 c.requires.1.1.1.1.1.1 _ c.row_at-x.ensures (search rules) _ d) c.requires.1.1.1.1.1.0))))

pub returns-in-Box : goal.returns-in-Box
returns-in-Box c =
    let a = c.args in
    let x = c.boxes in
    (x.ensures.0, box_done (decode_graph a.graph.now) (decode_property a.property.now) a.k x.new.work a.v a.r a.q (is_boxed a.s a.graph.now a.property.now c.requires.0 a.k a.tail a.work.now c.requires.1.1.1.1.0 a.v a.r a.q c.requires.1.0 c.requires.1.1.1.0 c.requires.1.1.1.1.1.0 c.requires.1.1.1.1.1.1 _ c.row_at-x.ensures (search rules)) (λ j hj i d. x.ensures.1 j (omega (arith, hj, edges_is a.s a.graph.now a.property.now c.requires.0)) i (obliges_aims a.s a.graph.now a.property.now c.requires.0 a.k a.tail a.work.now c.requires.1.1.1.1.0 a.v a.r a.q c.requires.1.0 c.requires.1.1.1.0 c.requires.1.1.1.1.1.0 c.requires.1.1.1.1.1.1 _ c.row_at-x.ensures (search rules) _ d)))

pub give-requires : goal.give-requires
give-requires c =
    let a = c.args in
    let h = sym c.in-And.is ∙ c.row_at-x.ensures in
    may_give a.s a.graph.now a.property.now c.requires.0 a.k a.tail a.work.now c.requires.1.1.1.1.0 a.v a.q c.requires.1.0 c.requires.1.1.1.0 (row_turns a.s a.graph.now a.property.now c.requires.0 a.k a.tail a.work.now c.requires.1.1.1.1.0 a.v a.r a.q c.requires.1.0 c.requires.1.1.1.0 c.requires.1.1.1.1.1.0 c.requires.1.1.1.1.1.1 _ h refl _ _ refl refl refl)

pub returns-in-And : goal.returns-in-And
returns-in-And c =
    let a = c.args in
    let h = sym c.in-And.is ∙ c.row_at-x.ensures in
    let x = gave a.s a.graph.now a.property.now c.requires.0 a.k a.tail a.work.now c.requires.1.1.1.1.0 a.v a.q c.requires.1.0 c.requires.1.1.1.0 (row_turns a.s a.graph.now a.property.now c.requires.0 a.k a.tail a.work.now c.requires.1.1.1.1.0 a.v a.r a.q c.requires.1.0 c.requires.1.1.1.0 c.requires.1.1.1.1.1.0 c.requires.1.1.1.1.1.1 _ h refl _ _ refl refl refl) c.give.result c.give.new.work c.give.ensures in
    (x.0, given_done a.s a.graph.now a.property.now c.requires.0 a.k a.tail a.work.now c.requires.1.1.1.1.0 a.v a.r a.q c.requires.1.0 c.requires.1.1.1.0 c.requires.1.1.1.1.1.0 c.requires.1.1.1.1.1.1 _ h refl c.give.new.work x.1)

pub is_false-requires : goal.is_false-requires
is_false-requires c =
    let a = c.args in
    a_fits a.s a.graph.now a.property.now c.requires.0 a.k a.tail a.work.now c.requires.1.1.1.1.0 a.v a.r a.q c.requires.1.0 c.requires.1.1.1.0 c.requires.1.1.1.1.1.0 c.requires.1.1.1.1.1.1 _ (sym c.in-Or.is ∙ c.row_at-x.ensures) refl

pub is_false-requires-in-Or-1 : goal.is_false-requires-in-Or-1
is_false-requires-in-Or-1 c =
    let a = c.args in
    b_fits a.s a.graph.now a.property.now c.requires.0 a.k a.tail a.work.now c.requires.1.1.1.1.0 a.v a.r a.q c.requires.1.0 c.requires.1.1.1.0 c.requires.1.1.1.1.1.0 c.requires.1.1.1.1.1.1 _ (sym c.in-Or.is ∙ c.row_at-x.ensures) refl

pub give-requires-in-Or : goal.give-requires-in-Or
give-requires-in-Or c =
    let a = c.args in
    let h = sym c.in-Or.is ∙ c.row_at-x.ensures in
    may_give a.s a.graph.now a.property.now c.requires.0 a.k a.tail a.work.now c.requires.1.1.1.1.0 a.v a.q c.requires.1.0 c.requires.1.1.1.0 (row_turns a.s a.graph.now a.property.now c.requires.0 a.k a.tail a.work.now c.requires.1.1.1.1.0 a.v a.r a.q c.requires.1.0 c.requires.1.1.1.0 c.requires.1.1.1.1.1.0 c.requires.1.1.1.1.1.1 _ h refl _ _ c.is_false.ensures c.is_false-in-Or-1.ensures c.if-is_false.true)

pub returns-in-Or : goal.returns-in-Or
returns-in-Or c =
    let a = c.args in
    let h = sym c.in-Or.is ∙ c.row_at-x.ensures in
    let x = gave a.s a.graph.now a.property.now c.requires.0 a.k a.tail a.work.now c.requires.1.1.1.1.0 a.v a.q c.requires.1.0 c.requires.1.1.1.0 (row_turns a.s a.graph.now a.property.now c.requires.0 a.k a.tail a.work.now c.requires.1.1.1.1.0 a.v a.r a.q c.requires.1.0 c.requires.1.1.1.0 c.requires.1.1.1.1.1.0 c.requires.1.1.1.1.1.1 _ h refl _ _ c.is_false.ensures c.is_false-in-Or-1.ensures c.if-is_false.true) c.give-in-Or.result c.give-in-Or.new.work c.give-in-Or.ensures in
    (x.0, given_done a.s a.graph.now a.property.now c.requires.0 a.k a.tail a.work.now c.requires.1.1.1.1.0 a.v a.r a.q c.requires.1.0 c.requires.1.1.1.0 c.requires.1.1.1.1.1.0 c.requires.1.1.1.1.1.1 _ h refl c.give-in-Or.new.work x.1)

pub returns-in_default : goal.returns-in_default
returns-in_default c =
    let a = c.args in
    (grew_none (decode_graph a.graph.now) (decode_property a.property.now) a.k a.tail a.work.now c.requires.1.1.1.1.0, row_stays a.s a.graph.now a.property.now c.requires.0 a.k a.tail a.work.now c.requires.1.1.1.1.0 a.v a.r a.q c.requires.1.0 c.requires.1.1.1.0 c.requires.1.1.1.1.1.0 c.requires.1.1.1.1.1.1 _ (sym c.in-Or.is ∙ c.row_at-x.ensures) refl _ _ c.is_false.ensures c.is_false-in-Or-1.ensures c.if-is_false.false)
