use Rattle.judging.proofs.CoverLaws.{covered_by}
use Rattle.judging.proofs.cover.is_covered.Goals as goal

pub returns : goal.returns
returns c = covered_by c.args.s c.args.first.now c.args.second.now c.requires.1.0 c.args.work.now c.requires.1.1.1.1.0 c.args.entries.now c.requires.1.1.1.1.1 c.args.g c.requires.1.1.0 c.meets.result c.meets.ensures.0 c.meets.ensures.1
