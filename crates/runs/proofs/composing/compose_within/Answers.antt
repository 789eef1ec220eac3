-- The checks settle in the order of the code; where they pass, their files are accepted and the work gives the verdict. The work reads nothing of what the buffers held.
use mathlib.Core.Path.{refl, sym, ap, ◌∙◌}
use mathlib.Core.Bool.{false}
use Prim.Native.Nat.{ℕ}
use lib.ListN.{length, replicate}
use Rattle.files.specs.Settling.Calls.{both_refused, both_worked}
use Rattle.files.specs.Settling.Laws.{hands_on}
use Rattle.runs.specs.Composing.Laws.{composed_is}
use Rattle.runs.specs.Composing.Work.{compose_known}
use Rattle.runs.specs.Composing.{compose_first, compose_last, compose_said, Room}
use Rattle.runs.proofs.composing.compose_within.Goals as goal

pub watch_model-answer-requires : goal.watch_model-answer-requires
watch_model-answer-requires c =
    let a = c.args in
    let s = c.check_compose-checked.ensures in
    let e = c.in-Ok.is in
    let w = compose_known a.limits a.known.now a.graph.now a.other.now a.property.now a.rules.now a.start (length a.store.now)
    (length a.work.now) (hands_on s.settles (sym e)) in
    let room : Room a.limits a.store.now a.work.now =
    record { strides = c.requires.0; bounded = c.requires.1; store_long = w.store_long; work_long = w.work_long } in
    (c.in-Ok.ensures.views, (w.graph_within, (w.other_side, (record { limits = a.limits; accepted = w.rules_within }, room))))

pub returns-in-Err : goal.returns-in-Err
returns-in-Err c =
    let a = c.args in
    let s = c.check_compose-checked.ensures.settles in
    let first = compose_first a.limits a.known.now a.graph.now a.other.now a.property.now a.rules.now a.start (length a.store.now)
    (length a.work.now) in
    let last = compose_last a.limits false a.graph.now a.other.now a.property.now a.rules.now a.start (length a.out.now) in
    let said = compose_said false a.graph.now a.other.now a.property.now a.rules.now a.start in
    let is = composed_is a.limits a.known.now a.graph.now a.other.now a.property.now a.rules.now a.start (length a.out.now)
    (length a.store.now) (length a.work.now) in
    both_refused first last said s is c.in-Err.is a.store.now a.work.now
    c.clear_after.ensures c.clear_after-in-Err.ensures

pub returns-in-Ok : goal.returns-in-Ok
returns-in-Ok c =
    let a = c.args in
    let s = c.check_compose-checked.ensures.settles in
    let d = c.watch_model-answer in
    let e = c.in-Ok.is in
    let first = compose_first a.limits a.known.now a.graph.now a.other.now a.property.now a.rules.now a.start (length a.store.now)
    (length a.work.now) in
    let last = compose_last a.limits false a.graph.now a.other.now a.property.now a.rules.now a.start (length a.out.now) in
    let said = compose_said false a.graph.now a.other.now a.property.now a.rules.now a.start in
    let is = composed_is a.limits a.known.now a.graph.now a.other.now a.property.now a.rules.now a.start (length a.out.now)
    (length a.store.now) (length a.work.now) in
    both_worked first last said s is e refl a.store.now a.work.now d.ensures
    (c.clear.ensures ∙ ap (λ (n : ℕ). replicate n 0) d.auto.store)
    (c.clear-in-Ok.ensures ∙ ap (λ (n : ℕ). replicate n 0) d.auto.work)
