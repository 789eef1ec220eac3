use mathlib.Core.Path.{sym, subst₂}
use Prim.Native.Nat.{◌+◌}
use native.Mathlib.Omega.{arith}
use lib.ListN.{length}
use Rattle.files.specs.Decode.{decode_interface, decode_property}
use Rattle.maximal.proofs.EntryLaws.{KindsEntered, kinds_none, root_fits, entry_known, kinds_with, kinds_without}
use Rattle.maximal.proofs.explore.enter_entries.Goals as goal
use Rattle.maximal.proofs.explore.enter_entries.Goals.{else-provides, then-provides+else-s-c}

pub loop-kind-init : goal.loop-kind-init
loop-kind-init c =
    let a = c.args in
    let x = c.clear_row in
    kinds_none a.s (decode_interface a.interface.now) a.property.now c.requires.1.0 a.work.now x.new.work c.requires.1.1.1 x.ensures.0 x.ensures.1

pub admit-c-requires : goal.admit-c-requires
admit-c-requires c =
    let a = c.args in
    let l = c.loop-kind in
    let x = c.provides in (
      c.requires.1.0,
      (
        omega arith,
        (
          l.invariant.fits,
          (
            root_fits a.s (decode_interface a.interface.now) a.property.now c.requires.1.0,
            (
              omega (arith, c.requires.1.1.0, l.invariant.long, c.clear_row.auto.work),
              (
                l.invariant.tables,
                (
                  l.invariant.entries.holds,
                  entry_known a.s (decode_interface a.interface.now) a.property.now c.requires.1.0 l.kind x.result x.ensures c.if-provides.true,
                ),
              ),
            ),
          ),
        ),
      ),
    )

pub loop-kind-preserved : goal.loop-kind-preserved
loop-kind-preserved c =
    let a = c.args in
    let l = c.loop-kind in
    let x = c.provides in
    let long = length c.clear_row.new.work in
    elim c.if-provides.branch [
      | then-provides+else-s-c w ↦ subst₂ (KindsEntered a.s (decode_interface a.interface.now) (decode_property a.property.now) long (l.kind + 1)) (sym w.c-is) (sym w.work-is)
          (kinds_with a.s (decode_interface a.interface.now) a.property.now c.requires.1.0 l.kind x.result x.ensures long l.c l.work l.invariant w.if-provides.true w.admit-c.result w.admit-c.new.work w.admit-c.auto.work (omega (arith, w.if-s-c.false)) w.admit-c.ensures.0)
      | else-provides w ↦ subst₂ (KindsEntered a.s (decode_interface a.interface.now) (decode_property a.property.now) long (l.kind + 1)) (sym w.c-is) (sym w.work-is) (kinds_without a.s (decode_interface a.interface.now) a.property.now c.requires.1.0 l.kind x.result x.ensures long l.c l.work l.invariant w.if-provides.false)
    ]
