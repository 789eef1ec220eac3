use Rattle.judging.proofs.MatchLaws.{ordered, held_beside, matched_first}
use Rattle.judging.proofs.refine.refine.Goals as goal

pub drop_lacking-requires : goal.drop_lacking-requires
drop_lacking-requires c = let h = c.hold_everything in
    let o = c.put_in_order in
    let p = c.prepare in
    (c.requires.0, held_beside c.args.s c.args.first.now c.args.second.now c.requires.0 o.new.work h.new.work h.ensures.1 h.auto.work (ordered c.args.s c.args.first.now c.args.second.now c.requires.0 p.new.work o.new.work o.ensures o.auto.work p.ensures))

pub settle-requires : goal.settle-requires
settle-requires c = let d = c.drop_lacking in
    let h = c.hold_everything in
    (c.requires.0, matched_first c.args.s c.args.first.now c.args.second.now c.requires.0 h.new.work d.new.work h.ensures.0 d.ensures.0 d.ensures.1)
