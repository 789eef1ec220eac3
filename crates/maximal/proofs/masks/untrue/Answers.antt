use mathlib.Core.Path.{◌≡◌, sym, ◌∙◌}
use native.Mathlib.Omega.{arith}
use lib.ListN.{length}
use Rattle.files.specs.Decode.{decode_property}
use Rattle.maximal.proofs.MaskLaws.{mask_with, mask_without, untrue_row, untrue_all}
use Rattle.maximal.proofs.RowLaws.{rows_are}
use Rattle.maximal.proofs.masks.untrue.Goals as goal
use Rattle.maximal.proofs.masks.untrue.Goals.{else-is_untrue, then-is_untrue}

pub loop-r-preserved : goal.loop-r-preserved
loop-r-preserved c =
    let a = c.args in
    let l = c.loop-r in
    let i = c.is_untrue in
    let v = untrue_row (decode_property a.property.now) a.method a.flag in
    elim c.if-is_untrue.branch [ then-is_untrue w ↦ w.set-is ∙ mask_with v l.r l.set w.one_row-set.result l.invariant w.one_row-set.ensures (sym i.ensures ∙ w.if-is_untrue.true) | else-is_untrue w ↦ w.set-is ∙ mask_without v l.r l.set l.invariant (sym i.ensures ∙ w.if-is_untrue.false) ]

pub returns : goal.returns
returns c =
    let a = c.args in
    let l = c.loop-r in
    let e : l.r ≡ length (decode_property a.property.now) = omega (arith, rows_are c.args.property.now c.requires.0 c.args.n c.requires.1.0) in
    untrue_all (decode_property a.property.now) a.method a.flag l.r l.set e l.invariant
