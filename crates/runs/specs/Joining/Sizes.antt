-- How much two accepted graphs hold together: the size of the joined graph, and whether it is within the limits.
use Rattle.std.specs.Prelude.{◌≡◌, Bool, false, List, ℕ, ◌+◌, ◌≤◌, length}
use Rattle.std.proofs.Common.{arith}
use Rattle.files.specs.Decode.{decode_graph}
use Rattle.files.specs.Graph.{Graph, size}
use Rattle.files.specs.Join.{join}
use Rattle.files.specs.Join.Laws.{join_size, join_edges}
use Rattle.files.specs.Outcome.Counted.{over_limits, counted_few}
use Rattle.files.specs.declared.record.Limits.{Limits}
use Rattle.judging.specs.Refinement.{Both}
use Rattle.judging.specs.Refinement.Files.{first_size, second_size, first_edges, second_edges}
use Rattle.judging.specs.declared.sizes.Sizes.{Sizes}

-- the counts of both together are past a limit
abbrev pub passes_limits : Limits → Sizes → Bool
passes_limits L s = over_limits L (s.first.nodes + s.second.nodes) (s.first.edges + s.second.edges)

module _ (s : Sizes) (f g : List ℕ) (both : Both s f g) where
  abbrev whole : Graph
  whole = join (decode_graph f) (decode_graph g)

  pub nodes_joined : s.first.nodes + s.second.nodes ≡ size whole
  nodes_joined = omega (arith, join_size (decode_graph f) (decode_graph g), first_size s f g both, second_size s f g both)

  pub edges_joined : s.first.edges + s.second.edges ≡ length whole.edges
  edges_joined = omega (arith, join_edges (decode_graph f) (decode_graph g), first_edges s f g both, second_edges s f g both)

module _ (L : Limits) (s : Sizes) (f g : List ℕ) (both : Both s f g) (within : passes_limits L s ≡ false) where
  few : (s.first.nodes + s.second.nodes ≤ L.nodes) × (s.first.edges + s.second.edges ≤ L.edges)
  few = counted_few L (whole s f g both) (nodes_joined s f g both) (edges_joined s f g both) within

  pub nodes_few : s.first.nodes + s.second.nodes ≤ L.nodes
  nodes_few = few.0

  pub edges_few : s.first.edges + s.second.edges ≤ L.edges
  edges_few = few.1
