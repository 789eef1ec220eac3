use mathlib.Core.Path.{refl, sym, ap, subst, ◌∙◌}
use Prim.Native.Nat.{◌+◌}
use native.Mathlib.Omega.{arith}
use lib.ListN.{length}
use Rattle.judging.specs.Refinement.{Lacking}
use Rattle.judging.proofs.MatchLaws.{lacking_none, lacking_put, lacking_over}
use Rattle.judging.proofs.refine.lacking.Goals as goal
use Rattle.judging.proofs.refine.lacking.Goals.{else-not-any_at, then-not-any_at}

pub loop-x-init : goal.loop-x-init
loop-x-init c = (refl, lacking_none c.args.work.now c.args.label)

pub loop-x-preserved : goal.loop-x-preserved
loop-x-preserved c = let a = c.args in
    let l = c.loop-x in
    let y = c.any_at in
    let few = c.requires.1.0 in (elim c.if-not-any_at.branch [ then-not-any_at w ↦ ap length w.row-is ∙ w.put_bit.auto.work ∙ l.invariant.0 | else-not-any_at w ↦ ap length w.row-is ∙ l.invariant.0 ], elim c.if-not-any_at.branch [ then-not-any_at w ↦ subst (Lacking a.work.now a.label (l.x + 1)) (sym w.row-is) (lacking_put a.work.now a.label l.row w.put_bit.new.work l.x (omega (arith, l.invariant.0)) (omega (arith, few)) w.put_bit.ensures (y.ensures.1 (rw w.if-not-any_at.true tt)) l.invariant.1) | else-not-any_at w ↦ subst (Lacking a.work.now a.label (l.x + 1)) (sym w.row-is) (lacking_over a.work.now a.label l.row l.x (y.ensures.0 (rw w.if-not-any_at.false tt)) l.invariant.1) ])
