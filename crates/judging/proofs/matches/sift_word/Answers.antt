use mathlib.Core.Path.{refl, ◌∙◌}
use mathlib.Core.Logic.{inl}
use native.Mathlib.Omega.{arith}
use Rattle.judging.specs.Words.{left_all}
use Rattle.judging.proofs.MatchLaws.{Decided, sifting_turn, sifting_end}
use Rattle.judging.proofs.matches.sift_word.Goals as goal

pub loop-rest-init : goal.loop-rest-init
loop-rest-init c = (refl, (left_all c.args.found.now c.args.k c.get-rest.result (Decided c.args.work.now c.args.label c.args.row.now c.args.found.now c.args.k c.args.gone.now) (λ b. omega (arith, c.type_inv.found b)) c.get-rest.ensures, λ y b t. t, λ y b t. inl t))

pub loop-rest-preserved : goal.loop-rest-preserved
loop-rest-preserved c =
    let l = c.loop-rest in
    let p = c.sift_at in
    (p.auto.gone ∙ l.invariant.0, sifting_turn c.args.work.now c.args.label c.args.row.now c.args.found.now c.args.k c.args.gone.now l.gone p.new.gone l.rest _ _ c.requires.1.1.1 c.loop-rest-test.true refl refl p.ensures l.invariant.1)

pub returns : goal.returns
returns c = let l = c.loop-rest in sifting_end c.args.work.now c.args.label c.args.row.now c.args.found.now c.args.k c.args.gone.now l.gone l.rest c.requires.1.1.1 c.loop-rest-test.false l.invariant.1
