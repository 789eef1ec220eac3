use mathlib.Core.Bool.{not}
use Prim.Native.Nat.{ℕ, ◌<◌}
use lib.Dec.{T}
use Rattle.maximal.specs.Charting.{is_pair}
use Rattle.maximal.proofs.states.pair_from.Given as goal

abbrev pub invariant-loop-i : goal.invariant-loop-i
invariant-loop-i l = (j : ℕ) → j < l.i → T (not (is_pair l.work l.bytes l.sets l.byte l.set j))
