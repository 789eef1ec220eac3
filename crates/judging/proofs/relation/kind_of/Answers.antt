use Rattle.judging.proofs.RelationLaws.{kind_returns, kind_goes_on}
use Rattle.judging.proofs.relation.kind_of.Goals as goal

pub returns-then-v : goal.returns-then-v
returns-then-v c = kind_returns c.args.graph.now c.requires.0 c.args.g c.requires.1 c.node_at-v.result c.node_at-v.ensures c.if-v.true

pub returns : goal.returns
returns c = kind_goes_on c.args.graph.now c.requires.0 c.args.g c.requires.1 c.node_at-v.result c.node_at-v.ensures c.if-v.false
