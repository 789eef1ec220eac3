use mathlib.Core.Path.{refl, sym, ◌∙◌}
use Prim.Native.Nat.{◌+◌}
use native.Mathlib.Omega.{arith}
use Rattle.files.specs.Access.{first_edge}
use Rattle.files.specs.Access.Laws.{first_edge_zero}
use Rattle.files.specs.Cells.Laws.{cells_on}
use Rattle.files.specs.Decode.{decode_graph}
use Rattle.runs.specs.Prepared.Files.{size_is}
use Rattle.runs.proofs.PrepareLaws.{put_outside, few_first}
use Rattle.runs.specs.Regions.{firsts_base, label_heads_base}
use Rattle.runs.proofs.prepare.put_firsts.Goals as goal

pub loop-g-init : goal.loop-g-init
loop-g-init c =
    let a = c.args in
    let p = c.put in
    let z = sym (first_edge_zero (decode_graph a.graph.now)) in (
      z,
      cells_on (first_edge (decode_graph a.graph.now)) a.work.now _ firsts_base 2 0 0 p.ensures (omega (arith, c.requires.1)) (omega arith) z (λ u h. absurd (omega arith)),
      λ q d. refl,
    )

pub overflow_cast-first : goal.overflow_cast-first
overflow_cast-first c =
    let a = c.args in
    omega (arith, c.next_first-first.ensures, few_first a.s a.graph.now a.rules.now c.requires.0 (c.loop-g.g + 1))

pub loop-g-preserved : goal.loop-g-preserved
loop-g-preserved c =
    let a = c.args in
    let z = c.put in
    let l = c.loop-g in
    let t = c.loop-g-test.true in
    let f = c.next_first-first in
    let p = c.put-in-loop-g in
    let few = few_first a.s a.graph.now a.rules.now c.requires.0 (l.g + 1) in (
      f.ensures,
      cells_on (first_edge (decode_graph a.graph.now)) l.work _ firsts_base 2 (l.g + 1) f.result p.ensures
          (omega (arith, t, c.requires.0.held.few_nodes, c.requires.1, z.auto.work)) (omega (arith, f.ensures, few)) f.ensures l.invariant.1,
      put_outside z.new.work l.work _ firsts_base 2 (l.g + 1) f.result firsts_base label_heads_base p.ensures (omega arith) (omega (arith, t, c.requires.0.held.few_nodes)) l.invariant.2,
    )

pub returns : goal.returns
returns c =
    let a = c.args in
    let l = c.loop-g in
    let p = c.put in (
      λ u h. l.invariant.1 u (omega (arith, h, c.loop-g-test.false, size_is a.s a.graph.now a.rules.now c.requires.0)),
      λ q d. l.invariant.2 q d ∙ put_outside a.work.now a.work.now _ firsts_base 2 0 0 firsts_base label_heads_base p.ensures (omega arith) (omega arith) (λ i x. refl) q d,
    )
