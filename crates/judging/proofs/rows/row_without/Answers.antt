use mathlib.Core.Path.{refl}
use native.Mathlib.Omega.{arith}
use Rattle.judging.proofs.RowLaws.{rest_bits}
use Rattle.judging.proofs.rows.row_without.Goals as goal

pub returns : goal.returns
returns c = let a = c.args in let l = c.loop-k in (l.invariant.0, rest_bits a.row.now a.work.now a.at l.rest l.rest l.k (omega arith) (l.invariant.1, λ q d. refl) l.invariant.2)
