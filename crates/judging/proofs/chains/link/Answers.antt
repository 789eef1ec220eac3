use Rattle.judging.proofs.ChainLaws.{linked_by}
use Rattle.judging.proofs.chains.link.Goals as goal

pub returns : goal.returns
returns c =
    let a = c.args in
    let one = c.put in
    let two = c.put-2 in
    linked_by a.work.now _ _ a.heads a.nexts a.key a.item _ c.get-before.ensures one.ensures two.ensures
