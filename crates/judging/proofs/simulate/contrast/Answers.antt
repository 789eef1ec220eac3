use mathlib.Core.Path.{ap, subst, sym, ◌∙◌}
use native.Mathlib.Omega.{arith}
use Rattle.std.specs.Option.{unwrap_or}
use Rattle.std.specs.Prelude.{IfSome, ◌<◌}
use Rattle.judging.proofs.SimulateLaws.{answers_full, answers_uncovered, answers_covered}
use Rattle.judging.proofs.simulate.contrast.Goals as goal

pub returns-then-out-s : goal.returns-then-out-s
returns-then-out-s c = answers_full c.args.s c.args.first.now c.args.second.now c.requires.0 c.args.out.now c.whole.result c.if-out-s.true c.whole.ensures

pub returns-in-Some : goal.returns-in-Some
returns-in-Some c =
    let n = c.args.s.first.nodes in
    answers_uncovered c.args.s c.args.first.now c.args.second.now c.requires.0 c.args.out.now c.write_relation.new.out c.if-out-s.false c.write_relation.ensures c.in-Some.g
    (sym (ap (λ o. unwrap_or o n) c.in-Some.is) ∙ c.first_uncovered.ensures.0)
    (subst (λ o. IfSome o (λ v. v < n)) c.in-Some.is c.first_uncovered.ensures.1)

pub returns-in-None : goal.returns-in-None
returns-in-None c =
    let n = c.args.s.first.nodes in
    answers_covered c.args.s c.args.first.now c.args.second.now c.requires.0 c.args.out.now c.write_relation.new.out c.if-out-s.false c.write_relation.ensures n
    (sym (ap (λ o. unwrap_or o n) c.in-None.is) ∙ c.first_uncovered.ensures.0)
    (omega arith)
