use mathlib.Core.Path.{sym}
use native.Mathlib.Omega.{arith}
use Rattle.files.specs.Decode.{decode_graph}
use Rattle.judging.proofs.CauseLaws.{few_first, firsts_on, ranked_kept}
use Prim.Native.Nat.{◌+◌}
use Rattle.files.specs.Access.Laws.{first_edge_zero}
use Rattle.judging.specs.Ranking.Files.{size_is}
use Rattle.judging.proofs.causes.first_edges.Goals as goal

pub loop-g-init : goal.loop-g-init
loop-g-init c =
    let a = c.args in
    let n = c.put in
    let z = sym (first_edge_zero (decode_graph a.graph.now)) in
    (z, firsts_on a.s a.graph.now a.property.now c.requires.0 a.work.now _ 0 0 n.ensures c.requires.1.0 (omega arith) z (λ u h. absurd (omega arith)), ranked_kept a.s a.graph.now a.property.now c.requires.0 a.work.now _ 0 0 n.ensures c.requires.1.1)

pub overflow_cast-first : goal.overflow_cast-first
overflow_cast-first c =
    let a = c.args in
    omega (arith, c.next_first-first.ensures, few_first a.s a.graph.now a.property.now c.requires.0 (c.loop-g.g + 1))

pub loop-g-preserved : goal.loop-g-preserved
loop-g-preserved c =
    let a = c.args in
    let l = c.loop-g in
    let n = c.put-in-loop-g in
    let f = c.next_first-first in
    (f.ensures, firsts_on a.s a.graph.now a.property.now c.requires.0 l.work _ (l.g + 1) f.result n.ensures (omega (arith, c.requires.1.0)) (omega (arith, c.requires.0.held.few_nodes)) f.ensures l.invariant.1, ranked_kept a.s a.graph.now a.property.now c.requires.0 l.work _ (l.g + 1) f.result n.ensures l.invariant.2)

pub returns : goal.returns
returns c =
    let a = c.args in
    let l = c.loop-g in
    record { room = omega (arith, c.requires.1.0); ranks = l.invariant.2; firsts = λ u h. l.invariant.1 u (omega (arith, h, size_is a.s a.graph.now a.property.now c.requires.0)) }
