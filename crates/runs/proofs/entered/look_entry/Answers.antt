-- The one record of the list is pushed, or the list is empty.
use Rattle.runs.proofs.SearchLaws.{may_enter, did_enter}
use Rattle.runs.proofs.entered.look_entry.Goals as goal

pub push-requires : goal.push-requires
push-requires c =
    let a = c.args in
    may_enter a.s a.graph.now a.rules.now c.requires.0 a.start a.head a.tail a.work.now a.g a.q c.requires.1.1.1.1.1.1.0 a.l c.requires.1.1.0
    c.requires.1.1.1.1.0 a.p c.requires.1.1.1.1.1.0 a.n c.requires.1.0 c.is_entry.result c.is_entry.ensures c.if-is_entry.true c.requires.1.1.1.1.1.1.1

pub returns-then-is_entry : goal.returns-then-is_entry
returns-then-is_entry c =
    let a = c.args in
    let x = c.push in
    did_enter a.s a.graph.now a.rules.now c.requires.0 a.start a.head a.tail a.work.now a.g a.q c.requires.1.1.1.1.1.1.0 a.l c.requires.1.1.0
    c.requires.1.1.1.1.0 a.p c.requires.1.1.1.1.1.0 a.n c.requires.1.0 c.is_entry.result c.is_entry.ensures c.if-is_entry.true c.requires.1.1.1.1.1.1.1 x.result x.new.work x.ensures
