use mathlib.Core.Path.{refl, ◌∙◌}
use mathlib.Core.Bool.{true}
use native.Mathlib.Omega.{arith}
use Rattle.judging.proofs.RowLaws.{chosen_none, chosen_put}
use Rattle.judging.proofs.refine.everything.Goals as goal

pub loop-x-init : goal.loop-x-init
loop-x-init c = (refl, chosen_none (λ h. true))

pub loop-x-preserved : goal.loop-x-preserved
loop-x-preserved c = let l = c.loop-x in let p = c.put_bit in (p.auto.work ∙ l.invariant.0, chosen_put (λ h. true) l.row l.x l.invariant.1 p.new.work (omega (arith, l.invariant.0)) (omega (arith, c.requires)) p.ensures refl)
