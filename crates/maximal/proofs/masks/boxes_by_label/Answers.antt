use mathlib.Core.Path.{◌≡◌, sym, ap, ◌∙◌}
use mathlib.Core.List.{List}
use Prim.Native.Nat.{ℕ}
use native.Mathlib.Omega.{arith}
use lib.ListN.{length, get_or}
use Rattle.files.specs.Decode.{decode_property}
use Rattle.maximal.specs.Masks.{mask}
use Rattle.maximal.proofs.MaskLaws.{looks_along, boxed_with, boxed_without}
use Rattle.maximal.proofs.RowLaws.{rows_are}
use Rattle.maximal.proofs.masks.boxes_by_label.Goals as goal
use Rattle.maximal.proofs.masks.boxes_by_label.Goals.{else-is_box, then-is_box}

pub loop-r-preserved : goal.loop-r-preserved
loop-r-preserved c =
    let i = c.loop-r in
    let P = decode_property c.args.property.now in
    let read = c.row_at-x.ensures in
    let told = sym c.is_box.ensures in
    λ l h. elim c.if-is_box.branch [ then-is_box w ↦ ap (λ (t : List ℕ). get_or t l 0) w.boxes-is ∙ w.enter_box-with.ensures l h ∙ boxed_with P i.r _ read l (get_or i.boxes l 0) (i.invariant l h) | else-is_box w ↦ ap (λ (t : List ℕ). get_or t l 0) w.boxes-is ∙ boxed_without P i.r _ read l (get_or i.boxes l 0) (i.invariant l h) (told ∙ w.if-is_box.false) ]

pub returns : goal.returns
returns c = λ l h.
    let P = decode_property c.args.property.now in
    let i = c.loop-r in
    let e : i.r ≡ length P = omega (arith, rows_are c.args.property.now c.requires.0 c.args.n c.requires.1.0) in
    i.invariant l h ∙ ap (mask (looks_along P l)) e
