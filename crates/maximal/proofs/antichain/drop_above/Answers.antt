use mathlib.Core.Path.{sym, ap, subst, ◌∙◌}
use mathlib.Core.Bool.{Bool, not}
use mathlib.Core.List.{List}
use Prim.Native.Nat.{ℕ, ◌+◌}
use native.Mathlib.Omega.{arith}
use Rattle.maximal.specs.Masks.{within}
use Rattle.maximal.proofs.AntichainLaws.{Kept, kept_with, kept_without}
use Rattle.maximal.proofs.antichain.drop_above.Goals as goal
use Rattle.maximal.proofs.antichain.drop_above.Goals.{else-not-is_within, then-not-is_within}

pub loop-i-preserved : goal.loop-i-preserved
loop-i-preserved c =
    let a = c.args in
    let l = c.loop-i in
    let g = c.get-u in
    let i = c.is_within in
    let p : ℕ → Bool = λ u. not (within a.s u) in
    elim c.if-not-is_within.branch [
      | then-not-is_within w ↦
          subst (Kept p a.work.now c.if-not-is_within.work (l.i + 1)) (sym w.left-is) (kept_with p a.work.now l.work l.i l.left g.result l.invariant g.ensures c.if-not-is_within.work (omega arith) (omega arith) (omega arith) (w.work-is ∙ w.put.ensures) (ap not (sym i.ensures ∙ w.if-not-is_within.true)))
      | else-not-is_within w ↦
          subst (λ (w : List ℕ). Kept p a.work.now w (l.i + 1) c.if-not-is_within.left) (sym w.work-is) (subst (Kept p a.work.now l.work (l.i + 1)) (sym w.left-is) (kept_without p a.work.now l.work l.i l.left g.result l.invariant g.ensures (ap not (sym i.ensures ∙ w.if-not-is_within.false))))
    ]
