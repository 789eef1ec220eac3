use mathlib.Core.Path.{◌≡◌, sym, ◌∙◌}
use native.Mathlib.Omega.{arith}
use Rattle.runs.specs.Worklist.{sums}
use Rattle.runs.proofs.SummaryLaws.{union_with, union_without, union_all}
use Rattle.runs.proofs.sets.sum_set.Goals as goal
use Rattle.runs.proofs.sets.sum_set.Goals.{else-has_state, then-has_state}

pub loop-p-preserved : goal.loop-p-preserved
loop-p-preserved c =
    let a = c.args in
    let l = c.loop-p in
    let f = sums a.table.now a.m in
    elim c.if-has_state.branch [ then-has_state w ↦ w.y-is ∙ union_with f a.x l.p l.y w.sum_of-y.result l.invariant w.sum_of-y.ensures (omega arith) (sym c.has_state.ensures ∙ w.if-has_state.true) | else-has_state w ↦ w.y-is ∙ union_without f a.x l.p l.y l.invariant (sym c.has_state.ensures ∙ w.if-has_state.false) ]

pub returns : goal.returns
returns c =
    let a = c.args in
    let l = c.loop-p in
    let e : l.p ≡ 8 = omega arith in
    union_all (sums a.table.now a.m) a.x l.p l.y e l.invariant
