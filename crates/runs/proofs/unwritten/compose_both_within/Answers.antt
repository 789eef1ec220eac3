-- Where the checks pass, the files are accepted and the work gives the verdict. The work reads nothing of what the buffers held.
use mathlib.Core.Path.{refl, sym, ap, ◌∙◌}
use Prim.Native.Nat.{ℕ}
use lib.ListN.{length, replicate}
use Rattle.files.specs.Settling.Calls.{both_refused, both_worked}
use Rattle.files.specs.Settling.Laws.{hands_on}
use Rattle.runs.specs.Unwritten.{both_first, both_last, both_said}
use Rattle.runs.specs.Unwritten.Laws.{composed_both_is}
use Rattle.runs.specs.Unwritten.Work.{PairRoom, both_known}
use Rattle.runs.proofs.unwritten.compose_both_within.Goals as goal

pub watch_models-answer-requires : goal.watch_models-answer-requires
watch_models-answer-requires c =
    let a = c.args in
    let w = both_known a.limits a.interface1.now a.property1.now a.interface2.now a.property2.now a.rules.now a.start (length a.store.now) (length a.work.now)
    (hands_on c.check_both-settled.ensures (sym c.in-Ok.is)) in
    let room : PairRoom a.limits a.store.now a.work.now = record { strides = c.requires.0; bounded = c.requires.1; store_long = w.store_long; work_long = w.work_long } in
    (w.first_side_filed, (w.second_side_filed, (record { limits = a.limits; accepted = w.rules_within }, room)))

pub returns-in-Err : goal.returns-in-Err
returns-in-Err c =
    let a = c.args in
    let n = length a.store.now in
    let w = length a.work.now in
    let o = length a.out.now in
    let first = both_first a.limits a.interface1.now a.property1.now a.interface2.now a.property2.now a.rules.now a.start n w in
    let last = both_last a.limits a.interface1.now a.property1.now a.interface2.now a.property2.now a.rules.now a.start o in
    let said = both_said a.interface1.now a.property1.now a.interface2.now a.property2.now a.rules.now a.start in
    let is = composed_both_is a.limits a.interface1.now a.property1.now a.interface2.now a.property2.now a.rules.now a.start o n w in
    both_refused first last said c.check_both-settled.ensures is c.in-Err.is a.store.now a.work.now c.clear_after.ensures c.clear_after-in-Err.ensures

pub returns-in-Ok : goal.returns-in-Ok
returns-in-Ok c =
    let a = c.args in
    let d = c.watch_models-answer in
    let n = length a.store.now in
    let w = length a.work.now in
    let o = length a.out.now in
    let first = both_first a.limits a.interface1.now a.property1.now a.interface2.now a.property2.now a.rules.now a.start n w in
    let last = both_last a.limits a.interface1.now a.property1.now a.interface2.now a.property2.now a.rules.now a.start o in
    let said = both_said a.interface1.now a.property1.now a.interface2.now a.property2.now a.rules.now a.start in
    let is = composed_both_is a.limits a.interface1.now a.property1.now a.interface2.now a.property2.now a.rules.now a.start o n w in
    both_worked first last said c.check_both-settled.ensures is c.in-Ok.is refl a.store.now a.work.now d.ensures
    (c.clear.ensures ∙ ap (λ (k : ℕ). replicate k 0) d.auto.store)
    (c.clear-in-Ok.ensures ∙ ap (λ (k : ℕ). replicate k 0) d.auto.work)
