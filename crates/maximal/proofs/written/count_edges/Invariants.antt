use mathlib.Core.Path.{◌≡◌}
use Prim.Native.Nat.{◌*◌, ◌≤◌}
use Rattle.maximal.specs.Listing.{tally_upto}
use Rattle.maximal.specs.Places.{max_followers}
use Rattle.maximal.proofs.written.count_edges.Given as goal

abbrev pub invariant-loop-i : goal.invariant-loop-i
invariant-loop-i l = (l.n ≡ tally_upto l.work l.c l.limit l.i) × (l.n ≤ max_followers * l.i)
