use mathlib.Core.Path.{refl}
use Rattle.judging.proofs.ChainLaws.{place_on, place_skipped}
use Rattle.judging.proofs.chains.link_place.Goals as goal

pub returns-then-key-s : goal.returns-then-key-s
returns-then-key-s c =
    let a = c.args in
    place_on a.s a.graph.now a.property.now c.requires.0 a.work.now a.j c.row_named-key.result c.requires.1.0 c.requires.1.1.1 _ c.requires.1.1.0 c.row_named-key.ensures c.if-key-s.true c.link.ensures

pub returns-else-key-s : goal.returns-else-key-s
returns-else-key-s c =
    let a = c.args in
    (place_skipped a.s a.graph.now a.property.now c.requires.0 a.work.now a.j c.row_named-key.result c.requires.1.0 c.requires.1.1.1 c.row_named-key.ensures c.if-key-s.false, λ q d. refl)
