use mathlib.Core.Path.{refl}
use native.Mathlib.Omega.{arith}
use Rattle.judging.proofs.RelationLaws.{putting_start, putting_turn, putting_all}
use Rattle.judging.proofs.relation.put_edges.Goals as goal

pub loop-j-init : goal.loop-j-init
loop-j-init c = (putting_start c.args.s c.args.first.now c.args.second.now c.requires.0 c.args.work.now c.requires.1.1, λ q d. refl)

pub loop-j-preserved : goal.loop-j-preserved
loop-j-preserved c =
    let l = c.loop-j in
    let p = c.put_edge in
    let r = putting_turn c.args.s c.args.first.now c.args.second.now c.requires.0 c.args.work.now l.work p.new.work l.j (omega arith) (omega (arith, c.requires.1.0)) l.invariant.0 l.invariant.1 p.ensures in
    (r.0, r.1)

pub returns : goal.returns
returns c = (putting_all c.args.s c.args.first.now c.args.second.now c.requires.0 c.loop-j.work c.loop-j.j (omega arith) c.loop-j.invariant.0, c.loop-j.invariant.1)
