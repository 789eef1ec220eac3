use native.Mathlib.Omega.{arith}
use lib.ListN.{replicate}
use Rattle.files.specs.Decode.{decode_graph}
use Rattle.files.specs.Places.{line_bytes}
use Rattle.judging.specs.Refinement.Handing.{shrank_on}
use Rattle.judging.proofs.MatchLaws.{labels_kept, met_first, met_still}
use Rattle.judging.proofs.matches.hand_on.Goals as goal

pub hand_on_by-requires : goal.hand_on_by-requires
hand_on_by-requires c =
    let l = c.loop-label in
    let q = c.nodes_near-near in
    let p = c.predecessors-met in
    let r = c.row_without-lost in
    let n = met_first c.args.s c.args.first.now c.args.second.now c.requires.1.0 c.args.work.now c.args.v c.args.row.now r.result (replicate line_bytes 0) p.result c.requires.1.1.1.0 r.ensures.1 p.ensures.1 in
    let m = met_still c.args.s c.args.first.now c.args.second.now c.requires.1.0 c.args.work.now l.work c.args.v c.args.row.now p.result c.requires.1.1.0 l.invariant.0 c.requires.1.1.1.1.0 n in
    ((c.requires.0, (omega (arith, p.ensures.0), omega (arith, q.ensures.0))), (c.requires.1.0, (c.requires.1.1.0, (omega arith, (l.invariant.0.refining, ((m, q.ensures.1), c.requires.1.1.1.1.1))))))

pub loop-label-preserved : goal.loop-label-preserved
loop-label-preserved c =
    let l = c.loop-label in
    let p = c.hand_on_by in
    (shrank_on (decode_graph c.args.first.now) (decode_graph c.args.second.now) c.args.work.now l.work p.new.work l.invariant.0 p.ensures.0, labels_kept c.args.s c.args.first.now c.args.second.now c.requires.1.0 l.work p.new.work c.args.v c.args.row.now l.label p.ensures.0 l.invariant.1 p.ensures.1)
