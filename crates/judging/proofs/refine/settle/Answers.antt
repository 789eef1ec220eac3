use mathlib.Core.Path.{◌≡◌, refl}
use native.Mathlib.Omega.{arith}
use Rattle.std.specs.Prelude.{Option, Some, None, MatchOption, ℕ}
use Rattle.judging.proofs.MatchLaws.{matching_still, load_less, settled_all}
use Rattle.judging.proofs.refine.settle.Goals as goal

pub sweep-requires-in-Some : goal.sweep-requires-in-Some
sweep-requires-in-Some c = (c.requires.0, matching_still c.args.s c.args.first.now c.args.second.now c.requires.0 c.in-Some.v c.loop-v.work c.take.new.work c.in-Some.ensures.0 c.loop-v.invariant.1 c.take.ensures)

pub loop-v-smaller : goal.loop-v-smaller
loop-v-smaller c = omega (arith, c.sweep-in-Some.ensures.1, load_less c.args.s c.args.first.now c.args.second.now c.requires.0 c.in-Some.v c.loop-v.work c.take.new.work c.in-Some.ensures.0 c.loop-v.invariant.1 c.take.ensures c.in-Some.ensures.1)

-- what is said where nothing is found, of an option that holds nothing
nothing : (A : Type 0) (B : ℕ → Type 0) (r : Option ℕ) → ((v : ℕ) → r ≡ Some v → ⊥) → MatchOption r A B → A
nothing A B None h a = a
nothing A B (Some v) h a = absurd (h v refl)

pub returns : goal.returns
returns c = settled_all c.args.s c.args.first.now c.args.second.now c.requires.0 c.loop-v.work c.loop-v.invariant.1 (nothing _ _ c.lowest_unsettled.result c.in_default.not-Some c.lowest_unsettled.ensures)
