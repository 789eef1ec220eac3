-- The checks settle in the order of the code; where they pass, their files are accepted and the work gives the model.
use mathlib.Core.Path.{refl, sym, ap, ◌∙◌}
use mathlib.Core.List.{[]}
use Prim.Native.Nat.{ℕ}
use lib.ListN.{length, replicate}
use Rattle.files.specs.Outcome.{graph_said}
use Rattle.files.specs.Refusal.{interface, property}
use Rattle.files.specs.Settling.Calls.{does_refused, does_worked}
use Rattle.files.specs.Settling.Laws.{hands_on}
use Rattle.judging.specs.TwoFiles.{two_known}
use Rattle.maximal.proofs.BuildLaws.{scope_of}
use Rattle.maximal.specs.Modelling.Laws.{modelled_is}
use Rattle.maximal.specs.Modelling.{model_first, model_graph, model_last}
use Rattle.maximal.specs.Places.{model_room}
use Rattle.maximal.proofs.build.model_within.Goals as goal

pub build-answer-requires : goal.build-answer-requires
build-answer-requires c =
    let a = c.args in
    let i = a.interface.now in
    let p = a.property.now in
    let work = length a.work.now in
    let s = c.check_model.ensures in
    let e = c.in-Ok.is in
    let known = two_known a.limits interface i property p model_room work (hands_on {f = model_first a.limits i p work} s (sym e)) in
    (record { limits = a.limits; accepted = known.1 }, (scope_of a.limits p c.requires known.2, (refl, known.0)))

pub returns-in-Err : goal.returns-in-Err
returns-in-Err c =
    let a = c.args in
    let i = a.interface.now in
    let p = a.property.now in
    let out = length a.out.now in
    let work = length a.work.now in
    let s = c.check_model.ensures in
    let e = c.in-Err.is in
    does_refused (model_first a.limits i p work) (model_last a.limits i p out work) (graph_said (model_graph a.limits i p out work) []) s
    (modelled_is a.limits i p out work) e a.work.now c.clear_after.ensures

pub returns-in-Ok : goal.returns-in-Ok
returns-in-Ok c =
    let a = c.args in
    let i = a.interface.now in
    let p = a.property.now in
    let out = length a.out.now in
    let work = length a.work.now in
    let s = c.check_model.ensures in
    let e = c.in-Ok.is in
    does_worked (model_first a.limits i p work) (model_last a.limits i p out work) (graph_said (model_graph a.limits i p out work) []) s
    (modelled_is a.limits i p out work) e refl a.work.now c.build-answer.ensures
    (c.clear.ensures ∙ ap (λ (n : ℕ). replicate n 0) c.build-answer.auto.work)
