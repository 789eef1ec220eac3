use mathlib.Core.Path.{refl}
use native.Mathlib.Omega.{arith}
use Rattle.judging.proofs.MatchLaws.{none_within, slot_start, slot_item, slot_less, source_added, all_added}
use Rattle.judging.proofs.matches.related_to_sources.Goals as goal

pub loop-at-init : goal.loop-at-init
loop-at-init c = (refl, none_within c.args.s.second.nodes, slot_start c.args.s c.args.first.now c.args.second.now c.requires.0 c.args.slot c.requires.1.0 c.args.work.now c.get-at.result _ c.requires.1.1 c.get-at.ensures)

pub source_of-u-requires : goal.source_of-u-requires
source_of-u-requires c = let i = slot_item c.args.s c.args.first.now c.args.second.now c.requires.0 c.args.slot c.requires.1.0 c.loop-at.at _ c.loop-at.invariant.2 c.loop-at-test.true in (c.requires.0.first_held.views.graph_file, (c.requires.0.first_held.views.nodes_are, omega (arith, i.0, c.requires.0.first_held.views.edges_are, c.requires.0.first_held.views.nodes_are)))

pub overflow_mul-u : goal.overflow_mul-u
overflow_mul-u c = let i = slot_item c.args.s c.args.first.now c.args.second.now c.requires.0 c.args.slot c.requires.1.0 c.loop-at.at _ c.loop-at.invariant.2 c.loop-at-test.true in omega (arith, c.source_of-u.ensures, i.1, c.requires.0.first_held.few_nodes)

pub row_with-found-requires : goal.row_with-found-requires
row_with-found-requires c = let i = slot_item c.args.s c.args.first.now c.args.second.now c.requires.0 c.args.slot c.requires.1.0 c.loop-at.at _ c.loop-at.invariant.2 c.loop-at-test.true in (omega (arith, c.source_of-u.ensures, i.1, c.requires.0.first_held.few_nodes, c.requires.1.1.room), omega (arith, c.loop-at.invariant.0))

pub get-at-requires-in-loop-at : goal.get-at-requires-in-loop-at
get-at-requires-in-loop-at c = let i = slot_item c.args.s c.args.first.now c.args.second.now c.requires.0 c.args.slot c.requires.1.0 c.loop-at.at _ c.loop-at.invariant.2 c.loop-at-test.true in omega (arith, i.0, c.requires.0.first_held.few_edges, c.requires.1.1.room)

pub loop-at-smaller : goal.loop-at-smaller
loop-at-smaller c = let l = c.loop-at in slot_less c.args.s c.args.first.now c.args.second.now c.requires.0 c.args.slot c.requires.1.0 c.args.work.now l.at c.get-at-in-loop-at.result _ c.requires.1.1 l.invariant.2 c.loop-at-test.true c.get-at-in-loop-at.ensures

pub loop-at-preserved : goal.loop-at-preserved
loop-at-preserved c =
    let l = c.loop-at in
    let u = c.source_of-u in
    let p = c.row_with-found in
    let r = source_added c.args.s c.args.first.now c.args.second.now c.requires.0 c.args.slot c.requires.1.0 c.args.work.now l.found p.result l.at c.get-at-in-loop-at.result u.result c.requires.1.1 l.invariant.2 c.loop-at-test.true c.get-at-in-loop-at.ensures u.ensures p.ensures.1 l.invariant.1 in
    (p.ensures.0, r.0, r.1)

pub returns : goal.returns
returns c = let l = c.loop-at in (l.invariant.0, (l.invariant.1, all_added c.args.s c.args.first.now c.args.second.now c.requires.0 c.args.slot c.requires.1.0 c.args.work.now l.found l.at (omega (arith, c.loop-at-test.false)) l.invariant.2))
