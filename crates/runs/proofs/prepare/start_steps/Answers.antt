use mathlib.Core.Path.{refl}
use Prim.Native.Nat.{◌%◌}
use native.Mathlib.Omega.{arith}
use Rattle.files.specs.Cells.Laws.{cells_on}
use Rattle.runs.proofs.PrepareLaws.{put_outside, steps_none}
use Rattle.runs.specs.Regions.{firsts_base, monitor_base}
use Rattle.runs.proofs.prepare.start_steps.Goals as goal

pub loop-i-preserved : goal.loop-i-preserved
loop-i-preserved c =
    let l = c.loop-i in
    let t = c.loop-i-test.true in
    let p = c.put in (
      cells_on (λ n. n % 8) l.work _ monitor_base 1 l.i (l.i % 8) p.ensures (omega (arith, t, c.requires.1)) (omega arith) refl l.invariant.0,
      put_outside c.args.work.now l.work _ monitor_base 1 l.i (l.i % 8) monitor_base firsts_base p.ensures (omega arith) (omega (arith, t)) l.invariant.1,
    )

pub returns : goal.returns
returns c =
    let l = c.loop-i in
    (steps_none c.args.rules.now c.requires.0 l.work (λ i h. l.invariant.0 i (omega (arith, c.loop-i-test.false))), l.invariant.1)
