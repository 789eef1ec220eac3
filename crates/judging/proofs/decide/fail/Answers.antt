use native.Mathlib.Omega.{arith}
use Rattle.judging.proofs.DecideLaws.{no_marks, still_settled, not_satisfied, answers_full, answers_written}
use Rattle.judging.proofs.SheetLaws.{listed_few}
use Rattle.judging.proofs.decide.fail.Goals as goal

pub walk-n-requires : goal.walk-n-requires
walk-n-requires c =
    (c.requires.0, (still_settled c.first_edges.new.work c.clear.new.work c.first_edges.ensures.room c.clear.ensures c.args.s c.args.graph.now c.args.property.now c.requires.0 c.first_edges.ensures, (no_marks c.first_edges.new.work c.clear.new.work c.first_edges.ensures.room c.clear.ensures, (c.requires.1.1.1.0, not_satisfied c.args.s c.args.graph.now c.args.property.now c.requires.0 c.args.g c.requires.1.1.1.0 c.requires.1.1.1.1))))

pub overflow_mul-n : goal.overflow_mul-n
overflow_mul-n c = omega (arith, listed_few c.args.s c.args.graph.now c.args.property.now c.requires.0 c.walk-n.result c.walk-n.new.work c.walk-n.ensures.0)

pub returns-then-out-n : goal.returns-then-out-n
returns-then-out-n c = answers_full c.args.s c.args.graph.now c.args.property.now c.requires.0 c.args.g c.requires.1.1.1.0 c.requires.1.1.1.1 c.walk-n.new.work c.walk-n.result c.walk-n.ensures.1 c.args.out.now c.whole.result c.if-out-n.true c.whole.ensures

pub returns : goal.returns
returns c = answers_written c.args.s c.args.graph.now c.args.property.now c.requires.0 c.args.g c.requires.1.1.1.0 c.requires.1.1.1.1 c.walk-n.new.work c.walk-n.result c.walk-n.ensures.1 c.args.out.now c.write_sheet.new.out c.if-out-n.false c.write_sheet.ensures
