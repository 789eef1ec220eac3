use native.Mathlib.Omega.{arith}
use Rattle.judging.proofs.RelationLaws.{related_turn}
use Rattle.judging.proofs.relation.relate.Goals as goal

pub loop-g-preserved : goal.loop-g-preserved
loop-g-preserved c =
    let l = c.loop-g in
    let p = c.put_row in
    let r = related_turn c.args.s c.args.first.now c.args.second.now c.requires.0 c.args.work.now l.work p.new.work c.row_at-row.result l.g c.kind_of-k.result (omega arith) c.requires.1.1 l.invariant.1 l.invariant.0 c.kind_of-k.ensures c.row_at-row.ensures.1 p.ensures.0 p.ensures.1 in
    (r.0, r.1)
