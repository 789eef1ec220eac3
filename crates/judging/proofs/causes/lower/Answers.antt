use Rattle.files.specs.Decode.{decode_graph, decode_property}
use Rattle.judging.proofs.CauseLaws.{lower_a, lower_b}
use Rattle.judging.proofs.causes.lower.Goals as goal

pub returns-then-rank_a-rank_b : goal.returns-then-rank_a-rank_b
returns-then-rank_a-rank_b c = let a = c.args in lower_a (decode_graph a.graph.now) (decode_property a.property.now) a.g a.a a.b c.rank_of-rank_a.result c.rank_of-rank_b.result c.rank_of-rank_a.ensures c.rank_of-rank_b.ensures c.if-rank_a-rank_b.true

pub returns : goal.returns
returns c = let a = c.args in lower_b (decode_graph a.graph.now) (decode_property a.property.now) a.g a.a a.b c.rank_of-rank_a.result c.rank_of-rank_b.result c.rank_of-rank_a.ensures c.rank_of-rank_b.ensures c.if-rank_a-rank_b.false
