use mathlib.Core.Path.{◌≡◌, subst}
use native.Mathlib.Omega.{arith}
use lib.ListN.{length}
use Rattle.files.specs.Decode.{decode_graph}
use Rattle.judging.specs.Chains.{Chained}
use Rattle.runs.specs.Prepared.{opens}
use Rattle.runs.specs.Prepared.Files.{edges_is}
use Rattle.runs.proofs.PrepareLaws.{opened_below, opened_on}
use Rattle.runs.specs.Regions.{label_heads_base, label_nexts_base}
use Rattle.runs.proofs.prepare.link_groups.Goals as goal

pub link-requires : goal.link-requires
link-requires c =
    let a = c.args in
    let t = c.loop-e-test.true in
    let l = c.loop-e in
    let x = c.opened_label-label in
    let b = opened_below a.s a.graph.now a.rules.now c.requires.0 l.e x.result t x.ensures in (
      omega (arith, b, c.requires.1.0),
      (omega (arith, t, c.requires.1.0, c.requires.0.held.few_edges), omega (arith, t, c.requires.0.held.few_edges)),
    )

pub loop-e-preserved : goal.loop-e-preserved
loop-e-preserved c =
    let a = c.args in
    let l = c.loop-e in
    let t = c.loop-e-test.true in
    let x = c.opened_label-label in
    let p = c.link in
    let n =
    opened_on a.s a.graph.now a.rules.now c.requires.0 l.e x.result t x.ensures a.work.now l.work _
    (omega (arith, c.requires.1.0)) l.invariant.0 l.invariant.1 p.ensures in
    n

pub returns : goal.returns
returns c =
    let a = c.args in
    let l = c.loop-e in
    let n : l.e ≡ length (decode_graph a.graph.now).edges = omega (arith, c.loop-e-test.false, edges_is a.s a.graph.now a.rules.now c.requires.0) in
    (subst (Chained l.work label_heads_base label_nexts_base (opens (decode_graph a.graph.now)) 9) n l.invariant.0, l.invariant.1)
