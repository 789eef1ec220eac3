use Rattle.files.specs.Decode.{decode_graph, decode_property}
use Rattle.judging.proofs.CauseLaws.{ahead_by}
use Rattle.judging.proofs.causes.is_ahead.Goals as goal

pub returns : goal.returns
returns c = let a = c.args in ahead_by (decode_graph a.graph.now) (decode_property a.property.now) a.x a.t a.b c.rank_of-rank_x.result c.rank_of-rank_t.result c.rank_of-rank_x.ensures c.rank_of-rank_t.ensures
