use Rattle.files.specs.Decode.{decode_graph}
use Rattle.judging.specs.Refinement.Handing.{shrank_on}
use Rattle.judging.proofs.MatchLaws.{leadings_kept}
use Rattle.judging.proofs.refine.drop_lacking.Goals as goal

pub loop-label-preserved : goal.loop-label-preserved
loop-label-preserved c =
    let l = c.loop-label in
    let p = c.drop_lacking_by in
    (shrank_on (decode_graph c.args.first.now) (decode_graph c.args.second.now) c.args.work.now l.work p.new.work l.invariant.0 p.ensures.0, leadings_kept c.args.s c.args.first.now c.args.second.now c.requires.0 l.work p.new.work l.label p.ensures.0 l.invariant.1 p.ensures.1)
