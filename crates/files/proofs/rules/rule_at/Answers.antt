use Rattle.files.specs.Access.Laws.{reads_rule}
use Rattle.files.proofs.rules.rule_at.Goals as goal

pub returns : goal.returns
returns c = reads_rule c.args.rules.now c.requires.0 c.args.j c.requires.1 c.read-r.result c.read-r.ensures
