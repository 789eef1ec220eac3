use Rattle.maximal.proofs.BuildLaws.{answers_crowded}
use Rattle.maximal.proofs.build.build.Goals as goal

pub returns-then-s-c : goal.returns-then-s-c
returns-then-s-c c = answers_crowded c.args.limits c.args.interface.now c.args.property.now c.requires.1.0.file c.args.s c.requires.1.1.0 c.args.out.now c.whole.result (c.explore-c.ensures.1.1 c.if-s-c.true) c.whole.ensures
