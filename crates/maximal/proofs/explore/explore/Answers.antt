use mathlib.Core.Path.{sym, ◌∙◌}
use Prim.Native.Nat.{◌*◌}
use native.Mathlib.Omega.{arith}
use Rattle.files.specs.Decode.{decode_interface, decode_property}
use Rattle.maximal.specs.Charting.Files.{rows_named}
use Rattle.maximal.specs.Charting.Slots.{charted, charted_none}
use Rattle.maximal.proofs.explore.explore.Goals as goal
use Rattle.maximal.proofs.explore.explore.Goals.{After-enter_entries-c}

pub returns-then-provided_methods-eq0 : goal.returns-then-provided_methods-eq0
returns-then-provided_methods-eq0 c =
    let a = c.args in
    let I = decode_interface a.interface.now in
    let none = sym c.provided_methods.ensures ∙ c.if-provided_methods-eq0.true in
    (λ h. charted_none I (decode_property a.property.now) none a.work.now, (omega arith, λ h. absurd (omega arith)))

pub returns : goal.returns
returns c =
    let a = c.args in
    let I = decode_interface a.interface.now in
    let l = c.loop-i in
    let named = rows_named a.s a.property.now c.requires.1.0 in (
      λ h. charted I (decode_property a.property.now) named l.c (9 * l.i) l.work (omega (arith, c.loop-i-test.false)) l.invariant.charting,
      (omega (arith, l.invariant.fits), λ h. absurd (omega (arith, h, l.invariant.fits))),
    )
