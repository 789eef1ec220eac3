use mathlib.Core.Path.{◌≡◌}
use Prim.Native.Nat.{ℕ, ◌+◌, ◌-◌, ◌<◌}
use lib.Bits.{bit_and}
use lib.ListN.{get_or}
use Rattle.files.specs.Places.{max_nodes}
use Rattle.judging.specs.Refinement.Rows.{joined}
use Rattle.judging.proofs.rows.exceeds.Given as goal

abbrev pub invariant-loop-k : goal.invariant-loop-k
invariant-loop-k l = (l.any ≡ joined (λ j. bit_and (get_or l.work (l.at + j) 0) (255 - get_or l.work (l.less + j) 0)) l.k) × ((j : ℕ) → j < l.k → get_or l.work (l.less + j) 0 < max_nodes)
