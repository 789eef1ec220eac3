use native.Mathlib.Omega.{arith}
use Rattle.files.specs.Decode.{decode_graph}
use Rattle.judging.specs.Refinement.Handing.{shrank_on}
use Rattle.judging.proofs.MatchLaws.{lacking_drop, dropped_turn, leading_all}
use Rattle.judging.proofs.refine.drop_lacking_by.Goals as goal

pub drop_from-requires : goal.drop_from-requires
drop_from-requires c =
    let l = c.loop-v in
    (omega (arith, c.lacking-gone.ensures.0), (c.requires.0, (omega (arith, c.requires.1.0), (l.invariant.0.refining, lacking_drop c.args.s c.args.first.now c.args.second.now c.requires.0 c.args.work.now c.requires.1.1 l.v c.args.label (omega arith) c.requires.1.0 c.lacking-gone.result c.lacking-gone.ensures.1))))

pub loop-v-preserved : goal.loop-v-preserved
loop-v-preserved c =
    let l = c.loop-v in
    let p = c.drop_from in
    (shrank_on (decode_graph c.args.first.now) (decode_graph c.args.second.now) c.args.work.now l.work p.new.work l.invariant.0 p.ensures.0, dropped_turn c.args.s c.args.first.now c.args.second.now c.requires.0 l.work p.new.work c.lacking-gone.result c.args.label l.v p.ensures.0 l.invariant.1 p.ensures.1)

pub returns : goal.returns
returns c =
    let l = c.loop-v in
    (l.invariant.0, leading_all c.args.s c.args.first.now c.args.second.now c.requires.0 c.args.work.now l.work c.lacking-gone.result c.args.label l.v c.requires.1.0 (omega arith) c.requires.1.1 l.invariant.0 c.lacking-gone.ensures.1 l.invariant.1)
