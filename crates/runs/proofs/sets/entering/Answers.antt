use mathlib.Core.Path.{sym, subst, ◌∙◌}
use Prim.Native.Nat.{ℕ, ◌+◌}
use native.Mathlib.Omega.{arith}
use mathlib.Core.Bool.{Bool}
use lib.Dec.{eqb}
use borrow.Author.Tests.{eq-eqb, ne_eqb}
use Rattle.files.specs.Decode.{decode_rules}
use Rattle.files.specs.Rules.{watch, calls}
use Rattle.runs.proofs.SummaryLaws.{Picked, picked_yes, picked_no, step_held}
use Rattle.runs.proofs.sets.entering.Goals as goal
use Rattle.runs.proofs.sets.entering.Goals.{else-get-p, then-get-p}

pub loop-q-preserved : goal.loop-q-preserved
loop-q-preserved c =
    let a = c.args in
    let l = c.loop-q in
    let test = c.loop-q-test in
    let x = c.get in
    let f : ℕ → Bool = λ i. eqb (watch (decode_rules a.rules.now) i (calls a.a a.m)) a.p in
    let held = step_held (watch (decode_rules a.rules.now)) a.work.now c.slot-at.result l.q 1 a.a a.m x.result c.requires.0 test.true (omega arith, (omega arith, c.requires.1.1))
    c.slot-at.ensures.0 x.ensures in
    elim c.if-get-p.branch [ then-get-p w ↦ subst (λ (y : ℕ). Picked f y (l.q + 1)) (sym w.y-is) (picked_yes f l.y l.q l.invariant w.one_state-y.result w.one_state-y.ensures (eq-eqb _ a.p (sym held ∙ w.if-get-p.true))) | else-get-p w ↦ subst (λ (y : ℕ). Picked f y (l.q + 1)) (sym w.y-is) (picked_no f l.y l.q l.invariant (ne_eqb _ a.p (λ e. w.if-get-p.false (held ∙ e)))) ]
