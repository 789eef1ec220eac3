-- What two accepted graph files say to the code of comparing: the counts and the flow graphs that they hold, the bounds, and where each edge stands.
use Rattle.std.specs.Prelude.{◌≡◌, List, ℕ, ◌≤◌, ◌<◌, length}
use Rattle.std.proofs.Common.{arith}
use Rattle.files.specs.Basics.Lists.{index_e}
use Rattle.files.specs.Decode.{decode_graph}
use Rattle.files.specs.Graph.{Graph, size, no_edge, Flow}
use Rattle.files.specs.Places.{max_edges, max_nodes}
use Rattle.files.specs.View.{view_size, view_edges, view_flow, view_filed, Views, view_held}
use Rattle.files.specs.declared.record.Limits.{Limits}
use Rattle.files.specs.declared.view.GraphView.{GraphView}
use Rattle.judging.specs.Judge.{GraphWithin, Strides}
use Rattle.judging.specs.declared.sizes.Sizes.{Sizes}
use Rattle.judging.specs.Refinement.{Both, edge}

module _ (s : Sizes) (f g : List ℕ) (x : Both s f g) where
  abbrev G : Graph
  G = decode_graph f

  abbrev H : Graph
  H = decode_graph g

  pub first_size : size G ≡ s.first.nodes
  first_size = view_size x.first_held.views

  pub second_size : size H ≡ s.second.nodes
  second_size = view_size x.second_held.views

  pub first_edges : length G.edges ≡ s.first.edges
  first_edges = view_edges x.first_held.views

  pub second_edges : length H.edges ≡ s.second.edges
  second_edges = view_edges x.second_held.views

  pub first_flow : Flow G
  first_flow = view_flow x.first_held.views

  pub second_flow : Flow H
  second_flow = view_flow x.second_held.views

  pub first_fits : size G ≤ max_nodes
  first_fits = omega (arith, first_size, x.first_held.few_nodes)

  pub second_fits : size H ≤ max_nodes
  second_fits = omega (arith, second_size, x.second_held.few_nodes)

  pub first_edges_fit : length G.edges ≤ max_edges
  first_edges_fit = omega (arith, first_edges, x.first_held.few_edges)

  -- an edge of the first graph leads from node to node, and its label has a row of bits
  pub first_edge_in : (e : ℕ) → e < s.first.edges → ((edge G e).from < s.first.nodes) × ((edge G e).to < s.first.nodes) × ((edge G e).label < 9)
  first_edge_in e h =
      let m = index_e no_edge G.edges e (omega (arith, first_edges)) in
      let l = (view_filed x.first_held.views).labels (edge G e) m in
      (omega (arith, first_size, first_flow.from_node (edge G e) m), omega (arith, first_size, first_flow.to_node (edge G e) m), omega (arith, l))

  pub second_edge_in : (e : ℕ) → e < s.second.edges → ((edge H e).from < s.second.nodes) × ((edge H e).to < s.second.nodes) × ((edge H e).label < 9)
  second_edge_in e h =
      let m = index_e no_edge H.edges e (omega (arith, second_edges)) in
      let l = (view_filed x.second_held.views).labels (edge H e) m in
      (omega (arith, second_size, second_flow.from_node (edge H e) m), omega (arith, second_size, second_flow.to_node (edge H e) m), omega (arith, l))

-- ---- the files, accepted

-- two accepted graphs, in limits that the buffer's strides allow
pub both_sizes : (L : Limits) → Strides L → (f g : List ℕ) → GraphWithin L f → GraphWithin L g → (v w : GraphView) → Views v f → Views w g
    → Both (record { first = v; second = w }) f g
both_sizes L strides f g a b v w x y =
    record { first_held = view_held L strides.nodes_fit strides.edges_fit x a; second_held = view_held L strides.nodes_fit strides.edges_fit y b }
