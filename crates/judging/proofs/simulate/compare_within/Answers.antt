-- The checks settle in the order of the code; where they pass, their files are accepted and the work gives the verdict.
use mathlib.Core.Path.{refl, sym, ap, ◌∙◌}
use Prim.Native.Nat.{ℕ}
use lib.ListN.{length, replicate}
use Rattle.files.specs.Decode.{decode_graph}
use Rattle.files.specs.Outcome.{out_check}
use Rattle.files.specs.Refusal.{graph}
use Rattle.files.specs.Settling.Calls.{does_refused, does_worked}
use Rattle.files.specs.Settling.Laws.{hands_on}
use Rattle.judging.specs.Compare.Laws.{compared_is}
use Rattle.judging.specs.Compare.{compare_said, compare_first}
use Rattle.judging.specs.Places.{compare_room}
use Rattle.judging.specs.Refinement.Files.{both_sizes}
use Rattle.judging.specs.TwoFiles.{two_known}
use Rattle.judging.proofs.simulate.compare_within.Goals as goal

pub contrast-answer-requires : goal.contrast-answer-requires
contrast-answer-requires c =
    let a = c.args in
    let known = two_known a.limits graph a.first.now graph a.second.now compare_room (length a.work.now) (hands_on c.check_compare.ensures.settles (sym c.in-Ok.is)) in
    (both_sizes a.limits c.requires a.first.now a.second.now known.1 known.2 _ _ c.in-Ok.ensures.views.0 c.in-Ok.ensures.views.1, known.0)

pub returns-in-Err : goal.returns-in-Err
returns-in-Err c =
    let a = c.args in
    let s = c.check_compare.ensures.settles in
    let said = compare_said (decode_graph a.first.now) (decode_graph a.second.now) in
    does_refused (compare_first a.limits a.first.now a.second.now (length a.work.now)) (out_check (length a.out.now) said) said s
    (compared_is a.limits a.first.now a.second.now (length a.out.now) (length a.work.now)) c.in-Err.is a.work.now
    c.clear_after.ensures

pub returns-in-Ok : goal.returns-in-Ok
returns-in-Ok c =
    let a = c.args in
    let s = c.check_compare.ensures.settles in
    let d = c.contrast-answer in
    let said = compare_said (decode_graph a.first.now) (decode_graph a.second.now) in
    does_worked (compare_first a.limits a.first.now a.second.now (length a.work.now)) (out_check (length a.out.now) said) said s
    (compared_is a.limits a.first.now a.second.now (length a.out.now) (length a.work.now)) c.in-Ok.is
    refl a.work.now d.ensures (c.clear.ensures ∙ ap (λ (n : ℕ). replicate n 0) d.auto.work)
