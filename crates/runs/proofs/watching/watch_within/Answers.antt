-- The checks settle in the order of the code; where they pass, their files are accepted and the work gives the verdict.
use mathlib.Core.Path.{refl, sym, ap, ◌∙◌}
use Prim.Native.Nat.{ℕ}
use lib.ListN.{length, replicate}
use Rattle.files.specs.Decode.{decode_graph, decode_rules}
use Rattle.files.specs.Outcome.{out_check}
use Rattle.files.specs.Rules.{watch}
use Rattle.files.specs.Settling.Calls.{does_refused, does_worked}
use Rattle.files.specs.Settling.Laws.{hands_on}
use Rattle.runs.specs.Watching.Laws.{watched_is}
use Rattle.runs.specs.Watching.Work.{watch_known, watch_ready}
use Rattle.runs.specs.Watching.{watch_said, watch_first}
use Rattle.runs.proofs.watching.watch_within.Goals as goal

pub watch_runs-answer-requires : goal.watch_runs-answer-requires
watch_runs-answer-requires c =
    let a = c.args in
    let s = c.check_watch.ensures in
    let e = c.in-Ok.is in
    let w = watch_known a.limits a.interface.now a.graph.now a.rules.now a.start (length a.work.now) (hands_on s.settles (sym e)) in
    (watch_ready a.limits a.graph.now a.rules.now _ c.requires c.in-Ok.ensures.views w.graph_within w.rules_within, w.long)

pub returns-in-Err : goal.returns-in-Err
returns-in-Err c =
    let a = c.args in
    let s = c.check_watch.ensures.settles in
    let said = watch_said (decode_graph a.graph.now) (watch (decode_rules a.rules.now)) a.start in
    does_refused (watch_first a.limits a.interface.now a.graph.now a.rules.now a.start (length a.work.now)) (out_check (length a.out.now) said) said s
    (watched_is a.limits a.interface.now a.graph.now a.rules.now a.start (length a.out.now) (length a.work.now))
    c.in-Err.is a.work.now c.clear_after.ensures

pub returns-in-Ok : goal.returns-in-Ok
returns-in-Ok c =
    let a = c.args in
    let s = c.check_watch.ensures.settles in
    let d = c.watch_runs-answer in
    let said = watch_said (decode_graph a.graph.now) (watch (decode_rules a.rules.now)) a.start in
    does_worked (watch_first a.limits a.interface.now a.graph.now a.rules.now a.start (length a.work.now)) (out_check (length a.out.now) said) said s
    (watched_is a.limits a.interface.now a.graph.now a.rules.now a.start (length a.out.now) (length a.work.now))
    c.in-Ok.is refl a.work.now d.ensures (c.clear.ensures ∙ ap (λ (n : ℕ). replicate n 0) d.auto.work)
