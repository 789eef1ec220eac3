use mathlib.Core.Path.{◌≡◌}
use Rattle.judging.specs.Words.{ones_in}
use Prim.Native.Nat.{◌*◌, ◌≤◌}
use Rattle.judging.proofs.rows.size_of_row.Given as goal

abbrev pub invariant-loop-k : goal.invariant-loop-k
invariant-loop-k l = (l.n ≤ 32 * l.k) × (l.n ≡ ones_in l.row l.k)
