use Rattle.files.specs.Decode.{decode_graph, decode_property}
use Rattle.judging.proofs.Theorems.Ranking.Files.{leaf_level}
use Rattle.judging.proofs.levels.falls_alone.Goals as goal

pub returns : goal.returns
returns c = let a = c.args in rw (c.leaf_false.ensures, c.row_at.ensures, c.node_at-v.ensures) (leaf_level (decode_graph a.graph.now) (decode_property a.property.now) a.g a.r)
