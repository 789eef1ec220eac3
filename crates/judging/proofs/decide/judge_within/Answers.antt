-- The checks settle in the order of the code; where they pass, their files are accepted and the work gives the verdict.
use mathlib.Core.Path.{refl, sym, ap, ◌∙◌}
use Prim.Native.Nat.{ℕ}
use lib.ListN.{length, replicate}
use Rattle.files.specs.Decode.{decode_graph, decode_property}
use Rattle.files.specs.Outcome.{out_check}
use Rattle.files.specs.Refusal.{graph, property}
use Rattle.files.specs.Settling.Calls.{does_refused, does_worked}
use Rattle.files.specs.Settling.Laws.{hands_on}
use Rattle.judging.proofs.DecideLaws.{both_ready}
use Rattle.judging.specs.Judge.Laws.{judged_is}
use Rattle.judging.specs.Judge.{judge_said, judge_first}
use Rattle.judging.specs.Places.{judge_room}
use Rattle.judging.specs.TwoFiles.{two_known}
use Rattle.judging.proofs.decide.judge_within.Goals as goal

pub decide-answer-requires : goal.decide-answer-requires
decide-answer-requires c =
    let a = c.args in
    let known = two_known a.limits graph a.graph.now property a.property.now judge_room (length a.work.now) (hands_on c.check_judge.ensures.settles (sym c.in-Ok.is)) in
    (both_ready a.limits c.requires a.graph.now a.property.now known.1 known.2 _ c.in-Ok.ensures.views, known.0)

pub returns-in-Err : goal.returns-in-Err
returns-in-Err c =
    let a = c.args in
    let s = c.check_judge.ensures.settles in
    let said = judge_said (decode_graph a.graph.now) (decode_property a.property.now) in
    does_refused (judge_first a.limits a.graph.now a.property.now (length a.work.now)) (out_check (length a.out.now) said) said s
    (judged_is a.limits a.graph.now a.property.now (length a.out.now) (length a.work.now)) c.in-Err.is a.work.now
    c.clear_after.ensures

pub returns-in-Ok : goal.returns-in-Ok
returns-in-Ok c =
    let a = c.args in
    let s = c.check_judge.ensures.settles in
    let d = c.decide-answer in
    let said = judge_said (decode_graph a.graph.now) (decode_property a.property.now) in
    does_worked (judge_first a.limits a.graph.now a.property.now (length a.work.now)) (out_check (length a.out.now) said) said s
    (judged_is a.limits a.graph.now a.property.now (length a.out.now) (length a.work.now)) c.in-Ok.is
    refl a.work.now d.ensures (c.clear.ensures ∙ ap (λ (n : ℕ). replicate n 0) d.auto.work)
