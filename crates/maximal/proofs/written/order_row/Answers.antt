use mathlib.Core.Path.{refl, sym, ap, subst, ◌∙◌}
use Prim.Native.Nat.{ℕ, ◌+◌}
use native.Mathlib.Numerals.{add-one}
use native.Mathlib.Omega.{arith}
use lib.ListN.{length, length-replicate}
use Rattle.maximal.proofs.BitLaws.{visit}
use Rattle.maximal.proofs.RankLaws.{Marked, marked_none, marked_pass, marked_on}
use Rattle.maximal.proofs.written.order_row.Goals as goal

pub loop-t-init : goal.loop-t-init
loop-t-init c =
    let a = c.args in
    let p = c.requires.1.1.1 in (
      refl,
      visit a.work.now a.row a.c (λ (m : ℕ). Marked a.c a.work.now a.row m a.ordered.now) (marked_pass a.c a.work.now p.0 p.1.0 a.row a.ordered.now) 0 c.next_bit-t.result (omega arith)
          (marked_none a.c a.work.now p.0 p.1.0 a.row a.ordered.now p.1.1 c.requires.1.0) c.next_bit-t.ensures,
    )

pub loop-t-preserved : goal.loop-t-preserved
loop-t-preserved c =
    let a = c.args in
    let p = c.requires.1.1.1 in
    let l = c.loop-t in
    let h = c.loop-t-test.true in
    let x = c.get-place in
    let y = c.put_bit in (
      y.auto.work ∙ l.invariant.0,
      visit a.work.now a.row a.c (λ (m : ℕ). Marked a.c a.work.now a.row m y.new.work) (marked_pass a.c a.work.now p.0 p.1.0 a.row y.new.work) (l.t + 1) c.next_bit-t-in-loop-t.result (omega (arith, h))
          (subst (λ (m : ℕ). Marked a.c a.work.now a.row m y.new.work) (sym (add-one l.t)) (marked_on a.c a.work.now p.0 p.1.0 a.row l.ordered y.new.work l.t x.result h (l.invariant.1.is_one h) x.ensures y.ensures (omega (arith, l.invariant.0, ap length p.1.1, length-replicate {A = ℕ} 32 0)) (l.invariant.1.here h)))
          c.next_bit-t-in-loop-t.ensures,
    )
