use mathlib.Core.Path.{refl, ◌∙◌}
use native.Mathlib.Omega.{arith}
use Rattle.files.specs.Decode.{decode_graph}
use Rattle.judging.specs.Refinement.Handing.{shrank_none}
use Rattle.judging.proofs.MatchLaws.{slot_start, slot_item, slot_less, source_dropped, all_dropped}
use Rattle.judging.proofs.matches.drop_from.Goals as goal

pub loop-at-init : goal.loop-at-init
loop-at-init c = (refl, shrank_none (decode_graph c.args.first.now) (decode_graph c.args.second.now) c.args.work.now c.requires.1.1.1.0, slot_start c.args.s c.args.first.now c.args.second.now c.requires.1.0 c.args.slot c.requires.1.1.0 c.args.work.now c.get-at.result _ c.requires.1.1.1.0 c.get-at.ensures)

pub source_of-u-requires : goal.source_of-u-requires
source_of-u-requires c = let i = slot_item c.args.s c.args.first.now c.args.second.now c.requires.1.0 c.args.slot c.requires.1.1.0 c.loop-at.at _ c.loop-at.invariant.2 c.loop-at-test.true in (c.requires.1.0.first_held.views.graph_file, (c.requires.1.0.first_held.views.nodes_are, omega (arith, i.0, c.requires.1.0.first_held.views.edges_are, c.requires.1.0.first_held.views.nodes_are)))

pub overflow_mul-u : goal.overflow_mul-u
overflow_mul-u c = let i = slot_item c.args.s c.args.first.now c.args.second.now c.requires.1.0 c.args.slot c.requires.1.1.0 c.loop-at.at _ c.loop-at.invariant.2 c.loop-at-test.true in omega (arith, c.source_of-u.ensures, i.1, c.requires.1.0.first_held.few_nodes)

pub drop_row-requires : goal.drop_row-requires
drop_row-requires c = let i = slot_item c.args.s c.args.first.now c.args.second.now c.requires.1.0 c.args.slot c.requires.1.1.0 c.loop-at.at _ c.loop-at.invariant.2 c.loop-at-test.true in (omega (arith, c.source_of-u.ensures, i.1, c.requires.1.0.first_held.few_nodes, c.loop-at.invariant.1.refining.room), c.requires.0)

pub get-at-requires-in-loop-at : goal.get-at-requires-in-loop-at
get-at-requires-in-loop-at c = let i = slot_item c.args.s c.args.first.now c.args.second.now c.requires.1.0 c.args.slot c.requires.1.1.0 c.loop-at.at _ c.loop-at.invariant.2 c.loop-at-test.true in omega (arith, i.0, c.requires.1.0.first_held.few_edges, c.drop_row.auto.work, c.loop-at.invariant.1.refining.room)

pub loop-at-smaller : goal.loop-at-smaller
loop-at-smaller c =
    let l = c.loop-at in
    let r = source_dropped c.args.s c.args.first.now c.args.second.now c.requires.1.0 c.args.slot c.requires.1.1.0 c.args.work.now l.work c.drop_row.new.work c.args.gone.now l.at c.get-at-in-loop-at.result c.source_of-u.result l.invariant.1 l.invariant.2 c.loop-at-test.true c.get-at-in-loop-at.ensures c.source_of-u.ensures c.drop_row.ensures.0 c.drop_row.ensures.1 c.drop_row.auto.work c.requires.1.1.1.1 in
    slot_less c.args.s c.args.first.now c.args.second.now c.requires.1.0 c.args.slot c.requires.1.1.0 c.drop_row.new.work l.at c.get-at-in-loop-at.result _ r.0.refining l.invariant.2 c.loop-at-test.true c.get-at-in-loop-at.ensures

pub loop-at-preserved : goal.loop-at-preserved
loop-at-preserved c =
    let l = c.loop-at in
    let r = source_dropped c.args.s c.args.first.now c.args.second.now c.requires.1.0 c.args.slot c.requires.1.1.0 c.args.work.now l.work c.drop_row.new.work c.args.gone.now l.at c.get-at-in-loop-at.result c.source_of-u.result l.invariant.1 l.invariant.2 c.loop-at-test.true c.get-at-in-loop-at.ensures c.source_of-u.ensures c.drop_row.ensures.0 c.drop_row.ensures.1 c.drop_row.auto.work c.requires.1.1.1.1 in
    (c.drop_row.auto.work ∙ l.invariant.0, r.0, r.1)

pub returns : goal.returns
returns c = (c.loop-at.invariant.1, all_dropped c.args.s c.args.first.now c.args.second.now c.requires.1.0 c.args.slot c.requires.1.1.0 c.loop-at.work c.args.gone.now c.loop-at.at (omega (arith, c.loop-at-test.false)) c.loop-at.invariant.2)
