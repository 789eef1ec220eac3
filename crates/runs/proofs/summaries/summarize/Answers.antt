use Rattle.runs.proofs.SummaryLaws.{starts, seeded}
use Rattle.runs.proofs.summaries.summarize.Goals as goal

pub seed-tail-requires : goal.seed-tail-requires
seed-tail-requires c =
    let a = c.args in
    (c.requires.0, starts a.s a.graph.now a.rules.now c.requires.0 a.work.now c.requires.1.1.0 c.requires.1.0 c.requires.1.1.1)

pub settle-requires : goal.settle-requires
settle-requires c =
    let a = c.args in
    let x = c.seed-tail in (
      c.requires.0,
      seeded a.s a.graph.now a.rules.now c.requires.0 a.work.now c.requires.1.1.0 c.requires.1.0 c.requires.1.1.1 x.result x.new.work x.ensures.0
          x.ensures.1,
    )
