use native.Mathlib.Omega.{arith}
use Rattle.judging.proofs.MatchLaws.{held_turn}
use Rattle.judging.proofs.refine.hold_everything.Goals as goal

pub loop-v-preserved : goal.loop-v-preserved
loop-v-preserved c =
    let l = c.loop-v in
    let p = c.put_row in
    let r = held_turn c.args.work.now l.work p.new.work c.everything-row.result c.args.s.second.nodes l.v (omega (arith, c.requires.0.first_held.few_nodes)) c.everything-row.ensures.1 p.ensures.0 p.ensures.1 l.invariant.0 l.invariant.1 in
    (r.0, r.1)
