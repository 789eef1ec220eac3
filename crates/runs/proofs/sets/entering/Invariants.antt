use Prim.Native.Nat.{ℕ}
use lib.Dec.{eqb}
use Rattle.files.specs.Decode.{decode_rules}
use Rattle.files.specs.Rules.{watch, calls}
use Rattle.runs.proofs.SummaryLaws.{Picked}
use Rattle.runs.proofs.sets.entering.Given as goal

abbrev pub invariant-loop-q : goal.invariant-loop-q
invariant-loop-q l = Picked (λ (i : ℕ). eqb (watch (decode_rules l.rules) i (calls l.a l.m)) l.p) l.y l.q
