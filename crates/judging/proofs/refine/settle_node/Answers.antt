use native.Mathlib.Nat.{le_trans}
use mathlib.Core.Path.{sym, subst, ◌∙◌}
use lib.Dec.{T}
use Rattle.judging.proofs.MatchLaws.{matching_still, load_down, load_less}
use Rattle.judging.proofs.refine.settle_node.Goals as goal

pub loop-s-smaller : goal.loop-s-smaller
loop-s-smaller c = let l = c.loop-s in load_less c.args.s c.args.first.now c.args.second.now c.requires.0 c.args.v l.work c.take.new.work c.requires.1.0 l.invariant.1 c.take.ensures (c.has_lost.ensures.0 (subst T (sym c.loop-s-test.true) tt))

pub loop-s-preserved : goal.loop-s-preserved
loop-s-preserved c = let l = c.loop-s in let p = c.take in (p.auto.work ∙ l.invariant.0, matching_still c.args.s c.args.first.now c.args.second.now c.requires.0 c.args.v l.work p.new.work c.requires.1.0 l.invariant.1 p.ensures, le_trans (load_down c.args.s c.args.first.now c.args.second.now c.requires.0 c.args.v l.work p.new.work c.requires.1.0 l.invariant.1 p.ensures) l.invariant.2)
