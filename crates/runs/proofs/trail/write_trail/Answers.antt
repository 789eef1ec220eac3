use mathlib.Core.Path.{ap, ◌∙◌}
use native.Mathlib.Omega.{arith}
use Prim.Native.Nat.{◌*◌, ◌-◌}
use Rattle.files.specs.Cells.{put_at}
use Rattle.files.specs.Decode.{decode_graph, decode_rules}
use Rattle.files.specs.Places.{record_len}
use Rattle.files.specs.Rules.{watch}
use Rattle.runs.specs.Searching.Trace.{writing_first, writing_more, writing_next, writing_done, item_part}
use Rattle.runs.proofs.trail.write_trail.Goals as goal

pub loop-at-init : goal.loop-at-init
loop-at-init c =
    let a = c.args in
    writing_first (decode_graph a.graph.now) (watch (decode_rules a.rules.now)) a.start a.i a.work.now a.out.now a.n c.requires.0 c.requires.1.1.0 c.requires.1.1.1

pub loop-at-preserved : goal.loop-at-preserved
loop-at-preserved c =
    let a = c.args in
    let l = c.loop-at in
    let z = c.loop-at-test.true in
    let x = c.copy_at in
    writing_next (decode_graph a.graph.now) (watch (decode_rules a.rules.now)) a.start a.i a.work.now a.out.now l.out x.new.dst l.at l.k c.get-at.result (l.k - 1) l.invariant (omega (arith, z))
    c.get-at.ensures (omega (arith, writing_more (decode_graph a.graph.now) (watch (decode_rules a.rules.now)) a.start a.i a.work.now a.out.now l.out l.at l.k l.invariant (omega (arith, z))))
    (x.ensures ∙ ap (put_at l.out (record_len * (l.k - 1))) (item_part a.work.now l.at (omega (arith, l.invariant.below, l.invariant.traced.few, c.requires.1.0)))) x.auto.dst

pub returns : goal.returns
returns c =
    let a = c.args in
    let l = c.loop-at in
    writing_done (decode_graph a.graph.now) (watch (decode_rules a.rules.now)) a.start a.i a.work.now a.out.now l.out l.at l.k l.invariant (omega (arith, c.loop-at-test.false))
