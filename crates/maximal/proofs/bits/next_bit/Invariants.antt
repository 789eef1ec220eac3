use mathlib.Core.Path.{◌≡◌}
use mathlib.Core.Bool.{false}
use Prim.Native.Nat.{ℕ, ◌-◌, ◌≤◌, ◌<◌}
use Rattle.files.specs.Cells.{has_bit}
use Rattle.maximal.proofs.bits.next_bit.Given as goal

abbrev pub invariant-loop-u : goal.invariant-loop-u
invariant-loop-u l = (l.t ≤ l.u) × ((v : ℕ) → l.t ≤ v → v < l.u → v < l.n → has_bit l.bits l.base v ≡ false)

abbrev pub decreases-loop-u : goal.decreases-loop-u
decreases-loop-u l = l.n - l.u
