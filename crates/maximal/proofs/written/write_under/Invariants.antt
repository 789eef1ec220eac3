use Prim.Native.Nat.{ℕ, ◌-◌}
use Rattle.maximal.specs.Listing.{under_bytes}
use Rattle.maximal.proofs.BitLaws.{Before}
use Rattle.files.specs.Cells.Wrote.{Wrote}
use Rattle.maximal.proofs.written.write_under.Given as goal

abbrev pub invariant-loop-j : goal.invariant-loop-j
invariant-loop-j l = Before l.ordered 0 l.c (λ (m : ℕ). Wrote l.initial.out l.out l.at l.end (under_bytes l.work m l.i l.label)) l.j

abbrev pub decreases-loop-j : goal.decreases-loop-j
decreases-loop-j l = l.c - l.j
