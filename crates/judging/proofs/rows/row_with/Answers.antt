use mathlib.Core.Path.{refl}
use native.Mathlib.Omega.{arith}
use Rattle.judging.proofs.RowLaws.{joint_bits}
use Rattle.judging.proofs.rows.row_with.Goals as goal

pub returns : goal.returns
returns c = let a = c.args in let l = c.loop-k in (l.invariant.0, joint_bits a.row.now a.work.now a.at l.both l.both l.k (omega arith) (l.invariant.1, λ q d. refl))
