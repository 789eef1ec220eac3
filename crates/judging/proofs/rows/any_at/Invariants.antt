use mathlib.Core.Path.{◌≡◌}
use Prim.Native.Nat.{◌+◌}
use lib.ListN.{get_or}
use Rattle.judging.specs.Refinement.Rows.{joined}
use Rattle.judging.proofs.rows.any_at.Given as goal

abbrev pub invariant-loop-byte : goal.invariant-loop-byte
invariant-loop-byte l = l.any ≡ joined (λ j. get_or l.work (l.at + j) 0) l.byte-index
