use Prim.Native.Nat.{◌≤◌}
use native.Mathlib.Omega.{arith}
use lib.ListN.{length}
use Rattle.judging.proofs.ChainLaws.{edges_none, places_none, beside_places, indexed}
use Rattle.judging.proofs.ClearedLaws.{cleared_length}
use Rattle.judging.specs.Places.{judge_room, node_heads_base, row_heads_base, node_heads_bytes}
use Rattle.judging.proofs.chains.index.Goals as goal

pub link_graph-requires : goal.link_graph-requires
link_graph-requires c =
    let a = c.args in
    let r = c.requires.0 in
    let x = c.clear in
    (r.held.views.graph_file, (r.held.views.nodes_are, (r.held.views.edges_are, (r.held.few_edges, (omega (arith, r.held.few_nodes), (omega (arith, r.held.few_edges, c.requires.1, cleared_length node_heads_base node_heads_bytes a.work.now x.new.work x.ensures), edges_none a.s a.graph.now a.property.now r a.work.now x.new.work c.requires.1 x.ensures))))))

pub link_places-requires : goal.link_places-requires
link_places-requires c =
    let a = c.args in
    let x = c.clear in
    let e = c.link_graph in
    let y = c.clear-2 in
    let w = e.new.work in
    let room : judge_room ≤ length w = omega (arith, e.auto.work, cleared_length node_heads_base node_heads_bytes a.work.now x.new.work x.ensures, c.requires.1) in
    (c.requires.0, (omega (arith, room, cleared_length row_heads_base 64 w y.new.work y.ensures), places_none a.s a.graph.now a.property.now c.requires.0 w y.new.work room y.ensures))

pub returns : goal.returns
returns c =
    let a = c.args in
    let x = c.clear in
    let e = c.link_graph in
    let y = c.clear-2 in
    let p = c.link_places in
    let w = e.new.work in
    let room : judge_room ≤ length w = omega (arith, e.auto.work, cleared_length node_heads_base node_heads_bytes a.work.now x.new.work x.ensures, c.requires.1) in
    indexed a.s a.graph.now a.property.now c.requires.0 w p.new.work e.ensures.0 (beside_places a.s a.graph.now a.property.now c.requires.0 w y.new.work room y.ensures p.new.work p.ensures.1) p.ensures.0
