use mathlib.Core.Path.{refl, ◌∙◌}
use Prim.Native.Nat.{ℕ, ◌-◌, ◌<◌}
use native.Mathlib.Omega.{arith}
use lib.Dec.{T}
use lib.ListN.{length, get_or}
use Rattle.files.specs.Access.{aims_along}
use Rattle.files.specs.Decode.{decode_graph, decode_property}
use Rattle.files.specs.Graph.{no_edge}
use Rattle.judging.specs.Chains.Laws.{walk_start, walk_item, walk_turn, walk_less}
use Rattle.judging.specs.Ranking.{Given}
use Rattle.judging.specs.Ranking.Stores.{grew_none, grew_on}
use Rattle.judging.proofs.LevelLaws.{node_in, row_in, from_in}
use Rattle.judging.specs.Chains.{into}
use Rattle.judging.specs.Ranking.Files.{edges_is}
use Rattle.judging.proofs.levels.boxes.Goals as goal

pub loop-at-init : goal.loop-at-init
loop-at-init c =
    let a = c.args in
    (refl, grew_none (decode_graph a.graph.now) (decode_property a.property.now) a.k a.tail a.work.now c.requires.1.1.1.0, walk_start (into (decode_graph a.graph.now) a.v) (length (decode_graph a.graph.now).edges) c.get-at.result (λ (e : ℕ). T (aims_along a.x (get_or (decode_graph a.graph.now).edges e no_edge).label) → Given a.work.now (get_or (decode_graph a.graph.now).edges e no_edge).from a.q) (c.get-at.ensures ∙ c.requires.1.1.1.0.index.by_node.heads_are a.v (node_in a.s a.graph.now a.property.now c.requires.0 a.v c.requires.1.0)))

pub arrive-end-requires : goal.arrive-end-requires
arrive-end-requires c =
    let a = c.args in
    let l = c.loop-at in
    let i = walk_item (into (decode_graph a.graph.now) a.v) (length (decode_graph a.graph.now).edges) l.at (λ (e : ℕ). T (aims_along a.x (get_or (decode_graph a.graph.now).edges e no_edge).label) → Given l.work (get_or (decode_graph a.graph.now).edges e no_edge).from a.q) l.invariant.2 c.loop-at-test.true in
    let h : l.at - 1 < a.s.graph.edges = omega (arith, i.1, edges_is a.s a.graph.now a.property.now c.requires.0) in
    (c.requires.0, (h, (c.requires.1.1.0, (l.invariant.1.finding, c.requires.1.1.1.1 (l.at - 1) h i.0))))

pub get-at-requires-in-loop-at : goal.get-at-requires-in-loop-at
get-at-requires-in-loop-at c =
    let a = c.args in
    let l = c.loop-at in
    let x = c.arrive-end in
    let i = walk_item (into (decode_graph a.graph.now) a.v) (length (decode_graph a.graph.now).edges) l.at (λ (e : ℕ). T (aims_along a.x (get_or (decode_graph a.graph.now).edges e no_edge).label) → Given l.work (get_or (decode_graph a.graph.now).edges e no_edge).from a.q) l.invariant.2 c.loop-at-test.true in
    omega (arith, i.1, edges_is a.s a.graph.now a.property.now c.requires.0, c.requires.0.held.few_edges, x.ensures.0.finding.room)

pub loop-at-smaller : goal.loop-at-smaller
loop-at-smaller c =
    let a = c.args in
    let l = c.loop-at in
    let x = c.arrive-end in
    let i = walk_item (into (decode_graph a.graph.now) a.v) (length (decode_graph a.graph.now).edges) l.at (λ (e : ℕ). T (aims_along a.x (get_or (decode_graph a.graph.now).edges e no_edge).label) → Given l.work (get_or (decode_graph a.graph.now).edges e no_edge).from a.q) l.invariant.2 c.loop-at-test.true in
    let n = c.get-at-in-loop-at.ensures ∙ x.ensures.0.finding.index.by_node.nexts_are a.v (l.at - 1) (node_in a.s a.graph.now a.property.now c.requires.0 a.v c.requires.1.0) i.1 i.0 in
    walk_less (into (decode_graph a.graph.now) a.v) l.at c.get-at-in-loop-at.result c.loop-at-test.true n

pub loop-at-preserved : goal.loop-at-preserved
loop-at-preserved c =
    let a = c.args in
    let l = c.loop-at in
    let x = c.arrive-end in
    let i = walk_item (into (decode_graph a.graph.now) a.v) (length (decode_graph a.graph.now).edges) l.at (λ (e : ℕ). T (aims_along a.x (get_or (decode_graph a.graph.now).edges e no_edge).label) → Given l.work (get_or (decode_graph a.graph.now).edges e no_edge).from a.q) l.invariant.2 c.loop-at-test.true in
    let n = c.get-at-in-loop-at.ensures ∙ x.ensures.0.finding.index.by_node.nexts_are a.v (l.at - 1) (node_in a.s a.graph.now a.property.now c.requires.0 a.v c.requires.1.0) i.1 i.0 in (
      x.auto.work ∙ l.invariant.0,
      grew_on (decode_graph a.graph.now) (decode_property a.property.now) a.k a.tail l.end x.result a.work.now l.work x.new.work l.invariant.1 x.ensures.0,
      walk_turn (into (decode_graph a.graph.now) a.v) (length (decode_graph a.graph.now).edges) l.at c.get-at-in-loop-at.result (λ (e : ℕ). T (aims_along a.x (get_or (decode_graph a.graph.now).edges e no_edge).label) → Given l.work (get_or (decode_graph a.graph.now).edges e no_edge).from a.q) (λ (e : ℕ). T (aims_along a.x (get_or (decode_graph a.graph.now).edges e no_edge).label) → Given x.new.work (get_or (decode_graph a.graph.now).edges e no_edge).from a.q) l.invariant.2 c.loop-at-test.true n
          (λ e h d t. x.ensures.0.given_kept (get_or (decode_graph a.graph.now).edges e no_edge).from a.q (node_in a.s a.graph.now a.property.now c.requires.0 (get_or (decode_graph a.graph.now).edges e no_edge).from (from_in a.s a.graph.now a.property.now c.requires.0 e (omega (arith, h, edges_is a.s a.graph.now a.property.now c.requires.0)))) (row_in a.s a.graph.now a.property.now c.requires.0 a.q c.requires.1.1.0) (d t))
          x.ensures.1,
    )

pub returns : goal.returns
returns c =
    let a = c.args in
    let l = c.loop-at in
    (l.invariant.1, λ e h t d. l.invariant.2.3 e (omega (arith, h, edges_is a.s a.graph.now a.property.now c.requires.0)) t (omega (arith, c.loop-at-test.false)) d)
