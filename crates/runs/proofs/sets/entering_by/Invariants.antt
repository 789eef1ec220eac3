use mathlib.Core.Path.{◌≡◌}
use Prim.Native.Nat.{ℕ, suc, ◌<◌}
use lib.Dec.{eqb}
use Rattle.maximal.specs.Masks.{member}
use Rattle.files.specs.Decode.{decode_rules}
use Rattle.files.specs.Rules.{watch, calls}
use Rattle.runs.proofs.SummaryLaws.{Placed}
use Rattle.runs.proofs.sets.entering_by.Given as goal

abbrev pub invariant-loop-a : goal.invariant-loop-a
invariant-loop-a l = Placed (λ b v. (q : ℕ) → q < 8 → member v q ≡ eqb (watch (decode_rules l.rules) q (calls (suc b) l.m)) l.p) l.t l.a
