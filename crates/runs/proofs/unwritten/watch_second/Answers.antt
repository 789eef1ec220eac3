-- Modelling behind the first model can refuse by 11 only; else both models stand in `store`, and the rest is said of the graphs that they hold.
use mathlib.Core.Path.{sym, ap, subst}
use mathlib.Core.Bool.{Bool, ◌||◌}
use mathlib.Core.List.{List}
use Prim.Native.Nat.{ℕ, ◌+◌, ◌*◌, ◌≤◌}
use native.Mathlib.Omega.{arith}
use lib.ListN.{length, take, drop, length-drop}
use Rattle.files.specs.Decode.{decode_graph, decode_rules}
use Rattle.files.specs.Outcome.{Answers, answered}
use Rattle.files.specs.Places.{graph_room, record_len}
use Rattle.files.specs.Rules.{watch}
use Rattle.files.specs.Settling.Laws.{handed_on}
use Rattle.files.specs.View.{Held}
use Rattle.runs.specs.Answer.{watched_answer}
use Rattle.runs.specs.Composing.{joined_verdict, from_joined}
use Rattle.runs.specs.Composing.Work.{model_large, model_refused, model_within, model_decoded, model_held}
use Rattle.runs.proofs.Theorems.Composing.Work.{model_small}
use Rattle.runs.proofs.unwritten.watch_second.Goals as goal

pub bars-lacking-requires : goal.bars-lacking-requires
bars-lacking-requires c =
    let a = c.args in
    let room = c.requires.1.1.1 in
    let x = c.model_behind in
    let at : ℕ = record_len * (a.first.nodes + a.first.edges) in
    let long : graph_room ≤ length (drop at a.store.now) = omega (arith, length-drop at a.store.now, c.requires.0.few_nodes, c.requires.0.few_edges, room.store_long) in
    let h = model_held a.limits a.interface.now a.property.now (drop at a.store.now) a.work.now c.requires.1.0 room.strides long room.work_long
    (drop at x.new.store) x.new.work x.result x.ensures.1 c.in_ok-second.second.nodes c.in_ok-second.second.edges c.in_ok-second.was in (
      record { limits = a.limits; accepted = c.requires.1.0.interface_within },
      (h, omega (arith, c.requires.0.few_nodes, c.requires.0.few_edges, h.few_nodes, h.few_edges, room.store_long, x.auto.store)),
    )

pub watch_stored-requires : goal.watch_stored-requires
watch_stored-requires c =
    let a = c.args in
    let room = c.requires.1.1.1 in
    let x = c.model_behind in
    let at : ℕ = record_len * (a.first.nodes + a.first.edges) in
    let long : graph_room ≤ length (drop at a.store.now) = omega (arith, length-drop at a.store.now, c.requires.0.few_nodes, c.requires.0.few_edges, room.store_long) in (
      record {
        first_held = subst (Held a.first) (sym x.ensures.0) c.requires.0;
        second_held =
            model_held a.limits a.interface.now a.property.now (drop at a.store.now) a.work.now c.requires.1.0 room.strides long room.work_long
            (drop at x.new.store) x.new.work x.result x.ensures.1 c.in_ok-second.second.nodes c.in_ok-second.second.edges c.in_ok-second.was;
      },
      (c.requires.1.1.0, (room.strides, (omega (arith, room.store_long, x.auto.store), omega (arith, room.work_long, x.auto.work)))),
    )

pub returns-in_err-second : goal.returns-in_err-second
returns-in_err-second c =
    let a = c.args in
    let room = c.requires.1.1.1 in
    let x = c.model_behind in
    let at : ℕ = record_len * (a.first.nodes + a.first.edges) in
    let long : graph_room ≤ length (drop at a.store.now) = omega (arith, length-drop at a.store.now, c.requires.0.few_nodes, c.requires.0.few_edges, room.store_long) in
    let large = model_refused a.limits a.interface.now a.property.now (drop at a.store.now) a.work.now c.requires.1.0 room.strides long room.work_long
    (drop at x.new.store) x.new.work x.result x.ensures.1 c.in_err-second.field-0.0 c.in_err-second.was in
    rw (handed_on c.from_residual.result c.from_residual.ensures.1) (model_large a.limits a.barred (take at a.store.now) a.interface.now a.property.now a.rules.now a.start a.out.now large.0 c.in_err-second.field-0.0 large.1)

pub returns : goal.returns
returns c =
    let a = c.args in
    let room = c.requires.1.1.1 in
    let x = c.model_behind in
    let t = c.watch_stored in
    let at : ℕ = record_len * (a.first.nodes + a.first.edges) in
    let long : graph_room ≤ length (drop at a.store.now) = omega (arith, length-drop at a.store.now, c.requires.0.few_nodes, c.requires.0.few_edges, room.store_long) in
    let two : List ℕ = take (record_len * (c.in_ok-second.second.nodes + c.in_ok-second.second.edges)) (drop at x.new.store) in
    let barred : Bool = a.barred || c.bars-lacking.result in
    let mon = watch (decode_rules a.rules.now) in
    model_small a.limits a.barred (take at a.store.now) a.interface.now a.property.now a.rules.now a.start a.out.now
    (model_within a.limits a.interface.now a.property.now (drop at a.store.now) a.work.now c.requires.1.0 room.strides long room.work_long
    (drop at x.new.store) x.new.work x.result x.ensures.1 c.in_ok-second.second.nodes c.in_ok-second.second.edges c.in_ok-second.was) (decode_graph two)
    (model_decoded a.limits a.interface.now a.property.now (drop at a.store.now) a.work.now c.requires.1.0 room.strides long room.work_long
    (drop at x.new.store) x.new.work x.result x.ensures.1 c.in_ok-second.second.nodes c.in_ok-second.second.edges c.in_ok-second.was) barred (ap (λ (z : Bool). a.barred || z) c.bars-lacking.ensures) t.new.out (watched_answer t.result)
    (subst (λ (l : List ℕ). Answers (answered (from_joined a.limits barred (decode_graph l) (decode_graph two) mon a.start (length a.out.now))
    (joined_verdict a.limits barred (decode_graph l) (decode_graph two) mon a.start (length a.out.now))) a.out.now t.new.out (watched_answer t.result)) x.ensures.0 t.ensures)
