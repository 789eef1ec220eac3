use mathlib.Core.Path.{sym, subst, ◌∙◌}
use native.Mathlib.Omega.{arith}
use lib.Dec.{T}
use Rattle.judging.specs.Sheets.Laws.{least_at, least_none}
use Rattle.maximal.specs.Charting.{is_pair}
use Rattle.maximal.proofs.states.pair_from.Goals as goal

pub returns-then-is_pair : goal.returns-then-is_pair
returns-then-is_pair c =
    let a = c.args in
    let l = c.loop-i in
    sym (least_at (is_pair a.work.now a.bytes a.sets a.byte a.set) a.n l.i (omega arith) l.invariant (subst T (sym c.if-is_pair.true ∙ c.is_pair.ensures) tt))

pub returns : goal.returns
returns c =
    let a = c.args in
    let l = c.loop-i in
    sym (least_none (is_pair a.work.now a.bytes a.sets a.byte a.set) a.n (λ j h. l.invariant j (omega (arith, h, c.requires.0))))
