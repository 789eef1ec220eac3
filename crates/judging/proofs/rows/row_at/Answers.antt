use mathlib.Core.Path.{refl}
use native.Mathlib.Omega.{arith}
use Rattle.judging.proofs.RowLaws.{copied_bits}
use Rattle.judging.proofs.rows.row_at.Goals as goal

pub returns : goal.returns
returns c = (c.loop-k.invariant.0, copied_bits c.args.work.now c.args.at c.loop-k.row c.loop-k.row c.loop-k.k (omega arith) (c.loop-k.invariant.1, λ q d. refl))
