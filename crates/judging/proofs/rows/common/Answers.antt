use mathlib.Core.Path.{refl}
use native.Mathlib.Omega.{arith}
use Rattle.judging.proofs.RowLaws.{common_bits}
use Rattle.judging.proofs.rows.common.Goals as goal

pub returns : goal.returns
returns c = let a = c.args in let l = c.loop-k in (l.invariant.0, common_bits a.row.now a.other.now l.both l.both l.k (omega arith) (l.invariant.1, λ q d. refl))
