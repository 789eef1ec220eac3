-- Where the checks pass, the files are accepted and the work gives the verdict. The work reads nothing of what the buffers held.
use mathlib.Core.Path.{refl, ap, ◌∙◌}
use Prim.Native.Nat.{ℕ}
use lib.ListN.{length, replicate}
use Rattle.files.specs.Settling.Calls.{both_refused, both_worked}
use Rattle.judging.specs.Delivered.{delivered_first, delivered_last, delivered_verdict}
use Rattle.judging.specs.Delivered.Work.{delivered_is, delivered_known}
use Rattle.judging.proofs.delivered.judge_deliveries_within.Goals as goal

pub judge_standing-answer-requires : goal.judge_standing-answer-requires
judge_standing-answer-requires c =
    let a = c.args in
    (c.requires, delivered_known a.limits a.deliveries.now a.property.now (length a.store.now) (length a.work.now) c.in-Ok.ensures)

pub returns-in-Err : goal.returns-in-Err
returns-in-Err c =
    let a = c.args in
    let n = length a.store.now in
    let m = length a.work.now in
    let o = length a.out.now in
    let first = delivered_first a.limits a.deliveries.now a.property.now n m in
    let last = delivered_last a.limits a.deliveries.now a.property.now o n m in
    let said = delivered_verdict a.limits a.deliveries.now a.property.now o n m in
    let is = delivered_is a.limits a.deliveries.now a.property.now o n m in
    both_refused first last said c.check_delivered.ensures is c.in-Err.is a.store.now a.work.now c.clear_after.ensures c.clear_after-in-Err.ensures

pub returns-in-Ok : goal.returns-in-Ok
returns-in-Ok c =
    let a = c.args in
    let d = c.judge_standing-answer in
    let n = length a.store.now in
    let m = length a.work.now in
    let o = length a.out.now in
    let first = delivered_first a.limits a.deliveries.now a.property.now n m in
    let last = delivered_last a.limits a.deliveries.now a.property.now o n m in
    let said = delivered_verdict a.limits a.deliveries.now a.property.now o n m in
    let is = delivered_is a.limits a.deliveries.now a.property.now o n m in
    both_worked first last said c.check_delivered.ensures is c.in-Ok.is refl a.store.now a.work.now d.ensures
    (c.clear.ensures ∙ ap (λ (k : ℕ). replicate k 0) d.auto.store)
    (c.clear-in-Ok.ensures ∙ ap (λ (k : ℕ). replicate k 0) d.auto.work)
