use native.Mathlib.Omega.{arith}
use Rattle.judging.proofs.MatchLaws.{contained, taken}
use Rattle.judging.proofs.refine.take.Goals as goal

pub hand_on-requires : goal.hand_on-requires
hand_on-requires c = (omega (arith, c.row_at-row.ensures.0), (c.requires.0, (c.requires.1.0, (c.requires.1.1.0, (c.requires.1.1.1, contained c.args.s c.args.first.now c.args.second.now c.requires.0 c.args.work.now c.row_at-row.result c.args.v c.requires.1.1.0 c.row_at-row.ensures.1)))))

pub returns : goal.returns
returns c = taken c.args.s c.args.first.now c.args.second.now c.requires.0 c.args.v c.requires.1.0 c.args.work.now c.hand_on.new.work c.put_row.new.work c.row_at-row.result c.row_at-row.ensures.1 c.hand_on.ensures.0 c.hand_on.ensures.1 c.put_row.ensures.0 c.put_row.ensures.1 c.put_row.auto.work
