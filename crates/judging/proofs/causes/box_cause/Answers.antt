use Rattle.files.specs.Access.{looked_at, aims_along}
use Rattle.judging.proofs.CauseLaws.{box_not_found}
use Rattle.judging.proofs.causes.box_cause.Goals as goal

pub returns : goal.returns
returns c =
    let a = c.args in
    box_not_found a.s a.graph.now a.property.now c.requires.0 a.g (aims_along a.x) (looked_at a.x) c.foremost-t.result c.foremost-t.ensures c.if-t-s.false
