use mathlib.Core.Path.{◌≡◌, subst}
use native.Mathlib.Omega.{arith}
use Rattle.files.specs.Decode.{decode_graph}
use lib.ListN.{length}
use Rattle.files.specs.Graph.{size}
use Rattle.judging.specs.Chains.{Chained, into}
use Rattle.judging.proofs.ChainLaws.{edge_count, may_link, edge_on}
use Rattle.judging.proofs.chains.link_graph.Goals as goal

pub link-requires : goal.link-requires
link-requires c = let a = c.args in let l = c.loop-e in may_link a.graph.now c.requires.0 a.nodes a.edges c.requires.1.0 c.requires.1.1.0 a.heads a.nexts c.requires.1.1.1.1.0 c.requires.1.1.1.0 l.work (omega (arith, c.requires.1.1.1.1.1.0)) l.e c.edge_target-to.result c.edge_target-to.ensures (omega arith)

pub loop-e-preserved : goal.loop-e-preserved
loop-e-preserved c =
    let a = c.args in
    let l = c.loop-e in
    let r = edge_on a.graph.now c.requires.0 a.nodes a.edges c.requires.1.0 c.requires.1.1.0 a.heads a.nexts c.requires.1.1.1.1.0 c.requires.1.1.1.0 l.work (omega (arith, c.requires.1.1.1.1.1.0)) l.e c.edge_target-to.result c.edge_target-to.ensures (omega arith) a.work.now _ l.invariant.0 l.invariant.1 c.link.ensures in
    (r.0, r.1)

pub returns : goal.returns
returns c =
    let a = c.args in
    let l = c.loop-e in
    let n : l.e ≡ length (decode_graph a.graph.now).edges = omega (arith, edge_count a.graph.now c.requires.0 a.nodes a.edges c.requires.1.0 c.requires.1.1.0) in
    (subst (Chained l.work a.heads a.nexts (into (decode_graph a.graph.now)) (size (decode_graph a.graph.now))) n l.invariant.0, l.invariant.1)
