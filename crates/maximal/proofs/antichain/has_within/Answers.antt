use mathlib.Core.Path.{sym, ap, subst, ◌∙◌}
use Prim.Native.Nat.{ℕ}
use native.Mathlib.Omega.{arith}
use lib.Dec.{T}
use Rattle.maximal.specs.Masks.{within}
use Rattle.maximal.proofs.AntichainLaws.{some_listed, none_listed}
use Rattle.maximal.proofs.antichain.has_within.Goals as goal

pub returns-then-is_within : goal.returns-then-is_within
returns-then-is_within c =
    let a = c.args in
    let l = c.loop-i in
    let t = sym (c.is_within.ensures ∙ ap (λ (u : ℕ). within u a.s) c.get.ensures) ∙ c.if-is_within.true in
    sym (some_listed (λ u. within u a.s) a.work.now a.count l.i (omega arith) (subst T (sym t) tt))

pub returns : goal.returns
returns c =
    let a = c.args in
    let l = c.loop-i in
    sym (none_listed (λ u. within u a.s) a.work.now a.count (λ j h. l.invariant j (omega (arith, h))))
