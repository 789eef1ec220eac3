-- Both sides' files are accepted, so modelling can refuse by 11 only; else the model's file stands in `store`, and the rest is said of the graph that it holds.
use mathlib.Core.Bool.{false}
use Prim.Native.Nat.{◌+◌, ◌*◌}
use native.Mathlib.Omega.{arith}
use lib.ListN.{take}
use Rattle.files.specs.Decode.{decode_graph}
use Rattle.files.specs.Places.{record_len}
use Rattle.files.specs.Settling.Laws.{handed_on}
use Rattle.files.specs.View.{view_held}
use Rattle.runs.specs.Answer.{watched_answer}
use Rattle.runs.specs.Composing.Work.{model_large, model_refused, model_within, model_decoded, model_held}
use Rattle.runs.proofs.Theorems.Composing.Work.{model_small}
use Rattle.runs.proofs.composing.watch_model.Goals as goal

pub bars-barred-requires : goal.bars-barred-requires
bars-barred-requires c =
    let a = c.args in
    let x = c.model_within in
    let other = c.requires.1.1.0 in
    let room = c.requires.1.1.1.1 in
    let h = model_held a.limits a.other.now a.property.now a.store.now a.work.now other room.strides (omega (arith, room.store_long)) room.work_long
    x.new.out x.new.work x.result x.ensures c.in_ok-model.model.nodes c.in_ok-model.model.edges c.in_ok-model.was in
    (record { limits = a.limits; accepted = other.interface_within }, (h, omega (arith, h.few_nodes, h.few_edges, room.store_long, x.auto.out)))

pub watch_joined-requires : goal.watch_joined-requires
watch_joined-requires c =
    let a = c.args in
    let x = c.model_within in
    let other = c.requires.1.1.0 in
    let room = c.requires.1.1.1.1 in (
      record {
        first_held = view_held a.limits room.strides.nodes_fit room.strides.edges_fit c.requires.0 c.requires.1.0;
        second_held =
            model_held a.limits a.other.now a.property.now a.store.now a.work.now other room.strides (omega (arith, room.store_long)) room.work_long
            x.new.out x.new.work x.result x.ensures c.in_ok-model.model.nodes c.in_ok-model.model.edges c.in_ok-model.was;
      },
      (c.requires.1.1.1.0, (room.strides, (omega (arith, room.store_long, x.auto.out), omega (arith, room.work_long, x.auto.work)))),
    )

pub returns-in_err-model : goal.returns-in_err-model
returns-in_err-model c =
    let a = c.args in
    let x = c.model_within in
    let large = model_refused a.limits a.other.now a.property.now a.store.now a.work.now c.requires.1.1.0 c.requires.1.1.1.1.strides (omega (arith, c.requires.1.1.1.1.store_long)) c.requires.1.1.1.1.work_long x.new.out
    x.new.work x.result x.ensures c.in_err-model.field-0.0 c.in_err-model.was in
    rw (handed_on c.from_residual.result c.from_residual.ensures.1) (model_large a.limits false a.graph.now a.other.now a.property.now a.rules.now a.start a.out.now large.0 c.in_err-model.field-0.0 large.1)

pub returns : goal.returns
returns c =
    let a = c.args in
    let x = c.model_within in
    let t = c.watch_joined in
    let other = c.requires.1.1.0 in
    let room = c.requires.1.1.1.1 in
    model_small a.limits false a.graph.now a.other.now a.property.now a.rules.now a.start a.out.now
    (model_within a.limits a.other.now a.property.now a.store.now a.work.now other room.strides (omega (arith, room.store_long)) room.work_long x.new.out x.new.work x.result
    x.ensures c.in_ok-model.model.nodes c.in_ok-model.model.edges c.in_ok-model.was) (decode_graph (take (record_len * (c.in_ok-model.model.nodes + c.in_ok-model.model.edges)) x.new.out))
    (model_decoded a.limits a.other.now a.property.now a.store.now a.work.now other room.strides (omega (arith, room.store_long)) room.work_long x.new.out x.new.work x.result
    x.ensures c.in_ok-model.model.nodes c.in_ok-model.model.edges c.in_ok-model.was) c.bars-barred.result c.bars-barred.ensures t.new.out (watched_answer t.result) t.ensures
