-- The ends of an edge, by its number, are nodes of the graph.
use Rattle.std.specs.Prelude.{ℕ, ◌<◌, length, get_or}
use Rattle.files.specs.Basics.Lists.{index_e}
use Rattle.files.specs.Graph.{Graph, Flow, size, no_edge}

pub from_in : (G : Graph) → Flow G → (e : ℕ) → e < length G.edges → (get_or G.edges e no_edge).from < size G
from_in G fl e h = fl.from_node (get_or G.edges e no_edge) (index_e no_edge G.edges e h)

pub to_in : (G : Graph) → Flow G → (e : ℕ) → e < length G.edges → (get_or G.edges e no_edge).to < size G
to_in G fl e h = fl.to_node (get_or G.edges e no_edge) (index_e no_edge G.edges e h)
