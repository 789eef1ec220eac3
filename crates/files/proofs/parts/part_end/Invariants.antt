use mathlib.Core.Path.{◌≡◌}
use Prim.Native.Nat.{ℕ, ◌≤◌, ◌<◌}
use Rattle.files.specs.Record.{kind_at}
use Rattle.files.proofs.parts.part_end.Given as goal

abbrev pub invariant-loop-e : goal.invariant-loop-e
invariant-loop-e l = (i : ℕ) → l.a ≤ i → i < l.e → kind_at l.file i ≡ 6 → ⊥
