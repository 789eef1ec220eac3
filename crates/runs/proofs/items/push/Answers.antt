use mathlib.Core.Path.{ap, ◌∙◌}
use mathlib.Core.List.{[], ◌∷◌}
use Prim.Native.Nat.{◌*◌}
use Rattle.files.specs.Cells.{put_at}
use Rattle.files.specs.Record.{step_number}
use Rattle.files.specs.Places.{record_len}
use Rattle.runs.specs.Searching.{rec_of}
use Rattle.runs.specs.Searching.Pushes.{push_seen, push_new}
use Rattle.runs.proofs.items.push.Goals as goal

pub returns-then-has_bit : goal.returns-then-has_bit
returns-then-has_bit c =
    let a = c.args in
    push_seen a.work.now a.tail a.head (rec_of a.g a.q (step_number a.step) a.label a.to a.next) c.has_bit.result c.has_bit.ensures c.if-has_bit.true

pub returns : goal.returns
returns c =
    let a = c.args in
    push_new a.work.now c.put_record.new.out
    c.put.new.work c.put_bit.new.work a.tail a.head (rec_of a.g a.q (step_number a.step) a.label a.to a.next)
    c.has_bit.result
    c.has_bit.ensures
    c.if-has_bit.false
    (c.put_record.ensures ∙ ap (put_at a.work.now (record_len * a.tail)) (c.step.ensures ∙ ap (λ n. a.g ∷ a.q ∷ n ∷ a.label ∷ a.to ∷ a.next ∷ []) c.number.ensures)) c.put.ensures
    c.put_bit.ensures
