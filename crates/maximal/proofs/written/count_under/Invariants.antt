use mathlib.Core.Path.{◌≡◌}
use Prim.Native.Nat.{ℕ, ◌-◌}
use Rattle.files.specs.Basics.Tables.{tally}
use Rattle.files.specs.Cells.{has_bit}
use Rattle.maximal.proofs.BitLaws.{Before}
use Rattle.maximal.proofs.written.count_under.Given as goal

abbrev pub invariant-loop-t : goal.invariant-loop-t
invariant-loop-t l = Before l.work l.row l.c (λ (m : ℕ). l.n ≡ tally (has_bit l.work l.row) m) l.t

abbrev pub decreases-loop-t : goal.decreases-loop-t
decreases-loop-t l = l.c - l.t
