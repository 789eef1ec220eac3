use mathlib.Core.Bool.{not}
use Prim.Native.Nat.{ℕ, ◌*◌, ◌<◌}
use lib.Dec.{T}
use Rattle.maximal.specs.Charting.{is_pair}
use Rattle.maximal.proofs.states.find_pair.Given as goal

abbrev pub invariant-loop-turn : goal.invariant-loop-turn
invariant-loop-turn l = (j : ℕ) → j < 4 * l.turn → T (not (is_pair l.work l.bytes l.sets l.byte l.set j))
