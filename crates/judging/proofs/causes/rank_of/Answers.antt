use Rattle.judging.proofs.CauseLaws.{rank_past, rank_read}
use Rattle.judging.proofs.causes.rank_of.Goals as goal

pub returns-then-x-eq0 : goal.returns-then-x-eq0
returns-then-x-eq0 c =
    let a = c.args in
    rank_past a.s a.graph.now a.property.now c.requires.0 a.work.now c.requires.1.1.1.1 a.g a.r c.get-x.result c.requires.1.0 c.requires.1.1.0 c.get-x.ensures c.if-x-eq0.true

pub returns : goal.returns
returns c =
    let a = c.args in
    rank_read a.s a.graph.now a.property.now c.requires.0 a.work.now c.requires.1.1.1.1 a.g a.r c.get-x.result c.requires.1.0 c.requires.1.1.0 c.get-x.ensures c.if-x-eq0.false
