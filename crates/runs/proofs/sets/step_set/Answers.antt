use mathlib.Core.Path.{◌≡◌, sym, ap, subst, ◌∙◌}
use Prim.Native.Nat.{ℕ, ◌^◌, ◌<◌}
use native.Mathlib.Omega.{arith}
use Rattle.files.specs.Decode.{decode_rules}
use Rattle.files.specs.Rules.{watch}
use Rattle.runs.specs.Prepared.Files.{monitor_small}
use Rattle.runs.proofs.SummaryLaws.{union_with, union_without, union_all, onto, step_held}
use Rattle.runs.proofs.sets.step_set.Goals as goal
use Rattle.runs.proofs.sets.step_set.Goals.{else-has_state, then-has_state}

pub one_state-y-requires : goal.one_state-y-requires
one_state-y-requires c =
    let slot = c.slot-at in
    let loop-test = c.loop-q-test in
    let a = c.args in
    let l = c.loop-q in
    subst (λ (i : ℕ). i < 8)
    (sym (step_held (watch (decode_rules a.rules.now)) a.work.now slot.result l.q a.event a.m1 a.m2 c.get.result c.requires.1.0 loop-test.true c.requires.1.1.1
    slot.ensures.0 c.get.ensures))
    (monitor_small a.s a.graph.now a.rules.now c.requires.0 l.q (record { kind = a.event; m1 = a.m1; m2 = a.m2 }) loop-test.true)

pub loop-q-preserved : goal.loop-q-preserved
loop-q-preserved c =
    let slot = c.slot-at in
    let loop-test = c.loop-q-test in
    let has-state = c.has_state in
    let a = c.args in
    let l = c.loop-q in
    let mon = watch (decode_rules a.rules.now) in
    let f = onto (watch (decode_rules a.rules.now)) a.event a.m1 a.m2 in
    elim c.if-has_state.branch [
      | then-has_state w ↦ w.y-is ∙ union_with f a.x l.q l.y w.one_state-y.result l.invariant
          (w.one_state-y.ensures ∙ ap (λ (i : ℕ). 2 ^ i)
          (step_held mon a.work.now slot.result l.q a.event a.m1 a.m2 w.get.result c.requires.1.0 loop-test.true c.requires.1.1.1 slot.ensures.0 w.get.ensures))
          (omega arith) (sym has-state.ensures ∙ w.if-has_state.true)
      | else-has_state w ↦ w.y-is ∙ union_without f a.x l.q l.y l.invariant (sym has-state.ensures ∙ w.if-has_state.false)
    ]

pub returns : goal.returns
returns c =
    let a = c.args in
    let l = c.loop-q in
    let e : l.q ≡ 8 = omega arith in
    let f = onto (watch (decode_rules a.rules.now)) a.event a.m1 a.m2 in
    union_all f a.x l.q l.y e l.invariant
