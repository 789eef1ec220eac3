use mathlib.Core.Path.{refl}
use native.Mathlib.Omega.{arith}
use Rattle.judging.proofs.RelationLaws.{kinds_start, kinds_turn}
use Rattle.judging.proofs.relation.put_kinds.Goals as goal

pub loop-h-init : goal.loop-h-init
loop-h-init c = (kinds_start c.args.s c.args.first.now c.args.second.now c.requires.0 c.args.work.now c.requires.1.1, λ q d. refl)

pub loop-h-preserved : goal.loop-h-preserved
loop-h-preserved c =
    let l = c.loop-h in
    let p = c.put_bit in
    let r = kinds_turn c.args.s c.args.first.now c.args.second.now c.requires.0 c.args.work.now l.work p.new.work l.h c.kind_of-k.result (omega arith) (omega (arith, c.requires.1.0)) c.kind_of-k.ensures p.ensures l.invariant.0 l.invariant.1 in
    (r.0, r.1)
