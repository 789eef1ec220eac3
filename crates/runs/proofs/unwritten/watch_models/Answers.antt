-- Modelling the first side can refuse by 11 only; else its model stands in `store`, as the known graph of what is left.
use Prim.Native.Nat.{◌+◌, ◌*◌}
use native.Mathlib.Omega.{arith}
use lib.ListN.{take}
use Rattle.files.specs.Places.{record_len}
use Rattle.files.specs.Settling.Laws.{handed_on}
use Rattle.runs.specs.Answer.{watched_answer}
use Rattle.runs.specs.Composing.Work.{model_refused, model_within, model_decoded, model_held}
use Rattle.runs.specs.Unwritten.Work.{first_large}
use Rattle.runs.proofs.Theorems.Unwritten.Work.{first_small}
use Rattle.runs.proofs.unwritten.watch_models.Goals as goal

pub bars-barred-requires : goal.bars-barred-requires
bars-barred-requires c =
    let a = c.args in
    let room = c.requires.1.1.1 in
    let x = c.model_within in
    let h = model_held a.limits a.interface1.now a.property1.now a.store.now a.work.now c.requires.0 room.strides (omega (arith, room.store_long)) room.work_long
    x.new.out x.new.work x.result x.ensures c.in_ok-first.first.nodes c.in_ok-first.first.edges c.in_ok-first.was in
    (record { limits = a.limits; accepted = c.requires.0.interface_within }, (h, omega (arith, h.few_nodes, h.few_edges, room.store_long, x.auto.out)))

pub watch_second-requires : goal.watch_second-requires
watch_second-requires c =
    let a = c.args in
    let room = c.requires.1.1.1 in
    let x = c.model_within in (
      model_held a.limits a.interface1.now a.property1.now a.store.now a.work.now c.requires.0 room.strides (omega (arith, room.store_long)) room.work_long x.new.out x.new.work x.result x.ensures c.in_ok-first.first.nodes c.in_ok-first.first.edges c.in_ok-first.was,
      (c.requires.1.0, (c.requires.1.1.0, record { strides = room.strides; bounded = room.bounded; store_long = omega (arith, room.store_long, x.auto.out); work_long = omega (arith, room.work_long, x.auto.work) })),
    )

pub returns-in_err-first : goal.returns-in_err-first
returns-in_err-first c =
    let a = c.args in
    let room = c.requires.1.1.1 in
    let x = c.model_within in
    let large = model_refused a.limits a.interface1.now a.property1.now a.store.now a.work.now c.requires.0 room.strides (omega (arith, room.store_long)) room.work_long x.new.out x.new.work x.result x.ensures c.in_err-first.field-0.0 c.in_err-first.was in
    rw (handed_on c.from_residual.result c.from_residual.ensures.1) (first_large a.limits a.interface1.now a.property1.now a.interface2.now a.property2.now a.rules.now a.start a.out.now large.0 c.in_err-first.field-0.0 large.1)

pub returns : goal.returns
returns c =
    let a = c.args in
    let room = c.requires.1.1.1 in
    let x = c.model_within in
    let t = c.watch_second in
    first_small a.limits a.interface1.now a.property1.now a.interface2.now a.property2.now a.rules.now a.start a.out.now
    (model_within a.limits a.interface1.now a.property1.now a.store.now a.work.now c.requires.0 room.strides (omega (arith, room.store_long)) room.work_long x.new.out x.new.work x.result x.ensures c.in_ok-first.first.nodes c.in_ok-first.first.edges c.in_ok-first.was) (take (record_len * (c.in_ok-first.first.nodes + c.in_ok-first.first.edges)) x.new.out)
    (model_decoded a.limits a.interface1.now a.property1.now a.store.now a.work.now c.requires.0 room.strides (omega (arith, room.store_long)) room.work_long x.new.out x.new.work x.result x.ensures c.in_ok-first.first.nodes c.in_ok-first.first.edges c.in_ok-first.was) c.bars-barred.result c.bars-barred.ensures t.new.out (watched_answer t.result) t.ensures
