use mathlib.Core.Path.{◌≡◌, subst, ◌∙◌}
use Prim.Native.Nat.{ℕ}
use native.Mathlib.Omega.{arith}
use Rattle.runs.specs.Prepared.{SteppedFrom}
use Rattle.runs.proofs.PrepareLaws.{steps_all}
use Rattle.runs.proofs.prepare.put_steps.Goals as goal

pub returns : goal.returns
returns c =
    let l = c.loop-j in
    let e : l.j ≡ 0 = omega (arith, c.loop-j-test.false) in (
      steps_all c.args.rules.now c.requires.0 l.work (subst (λ (n : ℕ). SteppedFrom c.args.rules.now n l.work) e l.invariant.0),
      λ q d. l.invariant.1 q d ∙ c.start_steps.ensures.1 q d,
    )
