use mathlib.Core.Path.{◌≡◌, refl, ◌∙◌}
use native.Mathlib.Omega.{arith}
use Rattle.files.specs.Decode.{decode_graph, decode_property}
use Rattle.judging.proofs.SheetLaws.{nothing_listed, start_in, first_turn, next_turn, listed_few, place_in}
use Rattle.judging.specs.Sheets.Walk.{walk_all}
use mathlib.Core.Logic.{inr}
use Rattle.judging.proofs.sheet.walk.Goals as goal

pub visit-tail-requires : goal.visit-tail-requires
visit-tail-requires c = (c.requires.0, (nothing_listed c.args.s c.args.graph.now c.args.property.now c.requires.0 c.args.work.now c.requires.1.0 c.requires.1.1.0, inr (start_in c.args.s c.args.graph.now c.args.property.now c.requires.0 c.args.g c.requires.1.1.1.0 c.requires.1.1.1.1)))

pub loop-head-init : goal.loop-head-init
loop-head-init c = (c.visit-tail.ensures.0, omega arith, first_turn c.args.s c.args.graph.now c.args.property.now c.requires.0 c.args.work.now c.visit-tail.new.work c.args.g c.visit-tail.result c.requires.1.1.1.0 c.requires.1.1.1.1 c.visit-tail.ensures.1, refl)

pub get-p-requires : goal.get-p-requires
get-p-requires c = let l = c.loop-head in omega (arith, c.loop-head-test.true, listed_few c.args.s c.args.graph.now c.args.property.now c.requires.0 l.tail l.work l.invariant.0, l.invariant.0.settled.room)

pub visit_causes-tail-requires : goal.visit_causes-tail-requires
visit_causes-tail-requires c = let l = c.loop-head in let x = place_in c.args.s c.args.graph.now c.args.property.now c.requires.0 l.tail l.work l.invariant.0 l.head c.get-p.result c.loop-head-test.true c.get-p.ensures in (c.requires.0, (x.0, (x.1, l.invariant.0)))

pub overflow_add-head : goal.overflow_add-head
overflow_add-head c = let l = c.loop-head in omega (arith, c.loop-head-test.true, listed_few c.args.s c.args.graph.now c.args.property.now c.requires.0 l.tail l.work l.invariant.0)

pub loop-head-smaller : goal.loop-head-smaller
loop-head-smaller c = let l = c.loop-head in omega (arith, c.loop-head-test.true, listed_few c.args.s c.args.graph.now c.args.property.now c.requires.0 l.tail l.work l.invariant.0)

pub loop-head-preserved : goal.loop-head-preserved
loop-head-preserved c = let l = c.loop-head in let x = c.visit_causes-tail in let t = next_turn c.args.s c.args.graph.now c.args.property.now c.requires.0 l.head l.tail x.result l.work x.new.work c.get-p.result l.invariant.0 c.loop-head-test.true c.get-p.ensures l.invariant.2 x.ensures.1 in (x.ensures.0, t.0, t.1, x.auto.work ∙ l.invariant.3)

pub returns : goal.returns
returns c = let l = c.loop-head in let a = c.args in let e : l.head ≡ l.tail = omega (arith, c.loop-head-test.false, l.invariant.1) in (l.invariant.0, walk_all (decode_graph a.graph.now) (decode_property a.property.now) l.head l.tail l.work e l.invariant.2)
