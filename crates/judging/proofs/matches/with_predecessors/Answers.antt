use mathlib.Core.Path.{refl, sym, subst}
use native.Mathlib.Omega.{arith}
use lib.Dec.{T}
use Rattle.judging.specs.Words.{left_all}
use Rattle.judging.proofs.MatchLaws.{Before, before_turn, before_end}
use Rattle.judging.proofs.matches.with_predecessors.Goals as goal

pub loop-rest-init : goal.loop-rest-init
loop-rest-init c = let y = c.row_at-met in (y.ensures.0, left_all c.args.nodes.now c.args.k c.get-rest.result (Before c.args.work.now c.args.nodes.now c.args.k y.result) (λ j. omega (arith, c.type_inv.nodes j)) c.get-rest.ensures, λ x j t. subst T (sym (y.ensures.1 x j)) t)

pub loop-rest-preserved : goal.loop-rest-preserved
loop-rest-preserved c =
    let l = c.loop-rest in
    let p = c.row_with-met in
    let r = before_turn c.args.work.now c.args.nodes.now c.args.k c.args.row.now l.met p.result l.rest _ _ c.loop-rest-test.true refl refl p.ensures.1 l.invariant.1 l.invariant.2 in
    (p.ensures.0, r.0, r.1)

pub returns : goal.returns
returns c = let l = c.loop-rest in (l.invariant.0, before_end c.args.work.now c.args.nodes.now c.args.k c.args.row.now l.met l.rest c.loop-rest-test.false l.invariant.1 l.invariant.2)
