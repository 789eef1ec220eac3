use mathlib.Core.Path.{sym, ◌∙◌}
use native.Mathlib.Omega.{arith}
use Rattle.judging.proofs.SheetLaws.{visit_seen, visit_room, visit_added}
use Rattle.judging.proofs.sheet.visit.Goals as goal

pub returns-then-has_bit : goal.returns-then-has_bit
returns-then-has_bit c = (c.requires.1.0, visit_seen c.args.s c.args.graph.now c.args.property.now c.requires.0 c.args.c.node c.args.c.row c.requires.1.1 c.if-c-eq-NONE.false c.args.work.now c.args.tail c.requires.1.0 (sym c.has_bit.ensures ∙ c.if-has_bit.true))

pub put-requires : goal.put-requires
put-requires c = omega (arith, visit_room c.args.s c.args.graph.now c.args.property.now c.requires.0 c.args.c.node c.args.c.row c.requires.1.1 c.if-c-eq-NONE.false c.args.work.now c.args.tail c.requires.1.0 (sym c.has_bit.ensures ∙ c.if-has_bit.false), c.requires.1.0.settled.room, c.put_bit.auto.work)

pub overflow_add-result : goal.overflow_add-result
overflow_add-result c = omega (arith, visit_room c.args.s c.args.graph.now c.args.property.now c.requires.0 c.args.c.node c.args.c.row c.requires.1.1 c.if-c-eq-NONE.false c.args.work.now c.args.tail c.requires.1.0 (sym c.has_bit.ensures ∙ c.if-has_bit.false))

pub returns : goal.returns
returns c = visit_added c.args.s c.args.graph.now c.args.property.now c.requires.0 c.args.c.node c.args.c.row c.requires.1.1 c.if-c-eq-NONE.false c.args.work.now c.args.tail c.requires.1.0 (sym c.has_bit.ensures ∙ c.if-has_bit.false) c.put_bit.new.work c.put.new.work c.put_bit.ensures c.put.ensures
