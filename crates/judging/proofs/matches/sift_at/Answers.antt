use mathlib.Core.Path.{sym, subst}
use lib.Dec.{T}
use Rattle.judging.proofs.MatchLaws.{asked_unmet}
use Rattle.judging.proofs.matches.sift_at.Goals as goal

pub returns-then-not-meets : goal.returns-then-not-meets
returns-then-not-meets c = asked_unmet c.args.work.now c.args.label c.args.row.now c.args.gone.now c.put_bit.new.work c.args.x c.requires.0.1 c.requires.1.1.1 c.put_bit.ensures (λ m. c.meets.ensures.1 (subst T (sym c.if-not-meets.true-raw) tt) m.0 m.1 m.2 m.3)
