use mathlib.Core.Path.{◌≡◌}
use Prim.Native.Nat.{◌+◌}
use lib.Bits.{bit_and}
use lib.ListN.{get_or}
use Rattle.judging.specs.Refinement.Rows.{joined}
use Rattle.judging.proofs.rows.meets.Given as goal

abbrev pub invariant-loop-k : goal.invariant-loop-k
invariant-loop-k l = l.any ≡ joined (λ j. bit_and (get_or l.row j 0) (get_or l.work (l.at + j) 0)) l.k
