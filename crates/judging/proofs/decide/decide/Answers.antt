use mathlib.Core.Path.{ap, sym, ◌∙◌}
use native.Mathlib.Omega.{arith}
use Rattle.std.specs.Option.{unwrap_or}
use Rattle.judging.proofs.DecideLaws.{answers_clean}
use Rattle.judging.proofs.decide.decide.Goals as goal

pub returns-in-None : goal.returns-in-None
returns-in-None c =
    let n = c.args.s.graph.nodes in
    answers_clean c.args.s c.args.graph.now c.args.property.now c.requires.0 c.args.out.now n (sym (ap (λ o. unwrap_or o n) c.in-None.is) ∙ c.first_failing.ensures.0) (omega arith)
