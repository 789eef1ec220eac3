use mathlib.Core.Path.{refl, ◌∙◌}
use Prim.Native.Nat.{ℕ, ◌*◌, ◌-◌, ◌/◌, ◌%◌}
use native.Mathlib.Omega.{arith}
use lib.ListN.{length}
use Rattle.files.specs.Decode.{decode_graph, decode_property}
use Rattle.judging.specs.Chains.Laws.{walk_start, walk_item, walk_turn, walk_less}
use Rattle.judging.specs.Ranking.{RowDone}
use Rattle.judging.specs.Ranking.Stores.{grew_none, grew_on}
use Rattle.judging.proofs.LevelLaws.{row_in}
use Rattle.judging.specs.Chains.{uses}
use Rattle.judging.specs.Ranking.Files.{rows_is}
use Rattle.judging.specs.Ranking.Laws.{row_done_kept, done_places}
use Rattle.judging.proofs.levels.pop.Goals as goal

pub loop-at-init : goal.loop-at-init
loop-at-init c =
    let a = c.args in
    (refl, grew_none (decode_graph a.graph.now) (decode_property a.property.now) a.k a.tail a.work.now c.requires.1.1.1.0, walk_start (uses (decode_property a.property.now) a.r) (2 * length (decode_property a.property.now)) c.get-at.result (λ (j : ℕ). RowDone (decode_graph a.graph.now) (decode_property a.property.now) a.k a.work.now a.v a.r (j / 2)) (c.get-at.ensures ∙ c.requires.1.1.1.0.index.by_row.heads_are a.r (row_in a.s a.graph.now a.property.now c.requires.0 a.r c.requires.1.1.0)))

pub row_on-end-requires : goal.row_on-end-requires
row_on-end-requires c =
    let a = c.args in
    let l = c.loop-at in
    let i = walk_item (uses (decode_property a.property.now) a.r) (2 * length (decode_property a.property.now)) l.at (λ (j : ℕ). RowDone (decode_graph a.graph.now) (decode_property a.property.now) a.k l.work a.v a.r (j / 2)) l.invariant.2 c.loop-at-test.true in
    (c.requires.0, (c.requires.1.0, (c.requires.1.1.0, (omega (arith, i.1, rows_is a.s a.graph.now a.property.now c.requires.0), (l.invariant.1.finding, (c.requires.1.1.1.1, ((l.at - 1) % 2, i.0)))))))

pub get-at-requires-in-loop-at : goal.get-at-requires-in-loop-at
get-at-requires-in-loop-at c =
    let a = c.args in
    let l = c.loop-at in
    let x = c.row_on-end in
    let i = walk_item (uses (decode_property a.property.now) a.r) (2 * length (decode_property a.property.now)) l.at (λ (j : ℕ). RowDone (decode_graph a.graph.now) (decode_property a.property.now) a.k l.work a.v a.r (j / 2)) l.invariant.2 c.loop-at-test.true in
    omega (arith, i.1, rows_is a.s a.graph.now a.property.now c.requires.0, c.requires.0.few_rows, x.ensures.0.finding.room)

pub loop-at-smaller : goal.loop-at-smaller
loop-at-smaller c =
    let a = c.args in
    let l = c.loop-at in
    let x = c.row_on-end in
    let i = walk_item (uses (decode_property a.property.now) a.r) (2 * length (decode_property a.property.now)) l.at (λ (j : ℕ). RowDone (decode_graph a.graph.now) (decode_property a.property.now) a.k l.work a.v a.r (j / 2)) l.invariant.2 c.loop-at-test.true in
    let n = c.get-at-in-loop-at.ensures ∙ x.ensures.0.finding.index.by_row.nexts_are a.r (l.at - 1) (row_in a.s a.graph.now a.property.now c.requires.0 a.r c.requires.1.1.0) i.1 i.0 in
    walk_less (uses (decode_property a.property.now) a.r) l.at c.get-at-in-loop-at.result c.loop-at-test.true n

pub loop-at-preserved : goal.loop-at-preserved
loop-at-preserved c =
    let a = c.args in
    let l = c.loop-at in
    let x = c.row_on-end in
    let i = walk_item (uses (decode_property a.property.now) a.r) (2 * length (decode_property a.property.now)) l.at (λ (j : ℕ). RowDone (decode_graph a.graph.now) (decode_property a.property.now) a.k l.work a.v a.r (j / 2)) l.invariant.2 c.loop-at-test.true in
    let n = c.get-at-in-loop-at.ensures ∙ x.ensures.0.finding.index.by_row.nexts_are a.r (l.at - 1) (row_in a.s a.graph.now a.property.now c.requires.0 a.r c.requires.1.1.0) i.1 i.0 in (
      x.auto.work ∙ l.invariant.0,
      grew_on (decode_graph a.graph.now) (decode_property a.property.now) a.k a.tail l.end x.result a.work.now l.work x.new.work l.invariant.1 x.ensures.0,
      walk_turn (uses (decode_property a.property.now) a.r) (2 * length (decode_property a.property.now)) l.at c.get-at-in-loop-at.result (λ (j : ℕ). RowDone (decode_graph a.graph.now) (decode_property a.property.now) a.k l.work a.v a.r (j / 2)) (λ (j : ℕ). RowDone (decode_graph a.graph.now) (decode_property a.property.now) a.k x.new.work a.v a.r (j / 2)) l.invariant.2 c.loop-at-test.true n
          (λ j h d. row_done_kept (decode_graph a.graph.now) (decode_property a.property.now) a.k l.end x.result l.work x.new.work a.v a.r (j / 2) (omega (arith, h)) x.ensures.0 d)
          x.ensures.1,
    )

pub returns : goal.returns
returns c =
    let a = c.args in
    let l = c.loop-at in
    (l.invariant.1, done_places (decode_graph a.graph.now) (decode_property a.property.now) a.k l.work a.v a.r (λ j h t. l.invariant.2.3 j h t (omega (arith, c.loop-at-test.false))))
