use mathlib.Core.Path.{refl, ap}
use Prim.Native.Nat.{ℕ, ◌/◌, ◌%◌, ◌^◌}
use native.Mathlib.Omega.{arith}
use Rattle.maximal.proofs.BitLaws.{none_in_word, next_in_word}
use Rattle.maximal.proofs.bits.next_bit.Goals as goal

pub returns-then-rest-ne0 : goal.returns-then-rest-ne0
returns-then-rest-ne0 c =
    let a = c.args in
    let l = c.loop-u in
    let x = c.get in
    next_in_word a.bits.now a.base (λ b. omega (arith, c.type_inv.bits b)) l.u (x.result / 2 ^ (l.u % 32)) (ap (λ (m : ℕ). m / 2 ^ (l.u % 32)) x.ensures) a.t a.n l.invariant.0 l.invariant.1 c.if-rest-ne0.true _ refl

pub loop-u-preserved : goal.loop-u-preserved
loop-u-preserved c =
    let a = c.args in
    let l = c.loop-u in
    let x = c.get in
    (omega (arith, l.invariant.0), none_in_word a.bits.now a.base (λ b. omega (arith, c.type_inv.bits b)) l.u (x.result / 2 ^ (l.u % 32)) (ap (λ (m : ℕ). m / 2 ^ (l.u % 32)) x.ensures) a.t a.n l.invariant.0 l.invariant.1 c.if-rest-ne0.false)
