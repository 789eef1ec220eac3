use mathlib.Core.Path.{◌≡◌}
use Prim.Native.Nat.{ℕ, suc, ◌^◌}
use Rattle.files.specs.Decode.{decode_rules}
use Rattle.files.specs.Rules.{watch, returns_to}
use Rattle.runs.specs.Worklist.{union}
use Rattle.runs.proofs.SummaryLaws.{Placed}
use Rattle.runs.proofs.sets.returning_by.Given as goal

abbrev pub invariant-loop-a : goal.invariant-loop-a
invariant-loop-a l = Placed (λ b v. v ≡ union (λ (k : ℕ). 2 ^ watch (decode_rules l.rules) k (returns_to l.m (suc b))) l.x) l.t l.a
