use mathlib.Core.Path.{◌≡◌}
use Prim.Native.Nat.{ℕ, ◌-◌}
use lib.ListN.{length}
use Rattle.maximal.proofs.BitLaws.{Before}
use Rattle.maximal.proofs.RankLaws.{Marked}
use Rattle.maximal.proofs.written.order_row.Given as goal

abbrev pub invariant-loop-t : goal.invariant-loop-t
invariant-loop-t l = (length l.ordered ≡ length l.initial.ordered) × Before l.work l.row l.c (λ (m : ℕ). Marked l.c l.work l.row m l.ordered) l.t

abbrev pub decreases-loop-t : goal.decreases-loop-t
decreases-loop-t l = l.c - l.t
