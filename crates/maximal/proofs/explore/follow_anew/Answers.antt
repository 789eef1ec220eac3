use Prim.Native.Nat.{◌+◌, ◌*◌, ◌/◌, ◌≤◌}
use native.Mathlib.Omega.{arith}
use Rattle.files.specs.Decode.{decode_interface, decode_property}
use Rattle.maximal.specs.Charting.{flag_of}
use Rattle.maximal.specs.Collected.{supports_of}
use Rattle.maximal.proofs.AdmitLaws.{tables_admitted}
use Rattle.maximal.proofs.ExploreLaws.{slot_fits, set_fits, next_known, worked_anew}
use Rattle.maximal.proofs.explore.follow_anew.Goals as goal

pub admit-going-requires : goal.admit-going-requires
admit-going-requires c =
    let a = c.args in (
      c.requires.0,
      (
        slot_fits a.s (decode_interface a.interface.now) a.property.now c.requires.0 a.c a.q a.method a.set a.work.now c.requires.1.0 c.requires.1.1.1.1.1,
        (
          c.requires.1.1.0,
          (
            set_fits a.s (decode_interface a.interface.now) a.property.now c.requires.0 a.c a.q a.method a.set a.work.now c.requires.1.0 c.requires.1.1.1.1.1,
            (
              c.requires.1.1.1.0,
              (
                c.requires.1.1.1.1.0,
                (
                  c.requires.1.1.1.1.1.charting.holds,
                  next_known a.s (decode_interface a.interface.now) a.property.now c.requires.0 a.c a.q a.method a.set a.work.now c.requires.1.0 c.requires.1.1.1.1.1 (2 * a.method) (omega arith),
                ),
              ),
            ),
          ),
        ),
      ),
    )

pub admit-requires : goal.admit-requires
admit-requires c =
    let a = c.args in
    let x = c.admit-going in
    let h : x.result ≤ a.s.states = omega (arith, c.if-s-going.false) in (
      c.requires.0,
      (
        slot_fits a.s (decode_interface a.interface.now) a.property.now c.requires.0 a.c a.q a.method a.set a.work.now c.requires.1.0 c.requires.1.1.1.1.1,
        (
          h,
          (
            set_fits a.s (decode_interface a.interface.now) a.property.now c.requires.0 a.c a.q a.method a.set a.work.now c.requires.1.0 c.requires.1.1.1.1.1,
            (
              omega (arith, c.requires.1.1.1.0, x.auto.work),
              (
                (tables_admitted a.s (decode_interface a.interface.now) a.property.now c.requires.0 a.c x.result (2 * a.method) a.q (supports_of (decode_property a.property.now) a.s.ors (2 * a.method / 2) (flag_of (2 * a.method)) a.set) a.work.now x.new.work (x.ensures.0 h) c.requires.1.1.1.1.0),
                (
                  (x.ensures.0 h).holds,
                  next_known a.s (decode_interface a.interface.now) a.property.now c.requires.0 a.c a.q a.method a.set a.work.now c.requires.1.0 c.requires.1.1.1.1.1 (2 * a.method + 1) (omega arith),
                ),
              ),
            ),
          ),
        ),
      ),
    )

pub returns : goal.returns
returns c =
    let a = c.args in
    let x = c.admit-going in
    let y = c.admit in
    let h : x.result ≤ a.s.states = omega (arith, c.if-s-going.false) in
    worked_anew a.s (decode_interface a.interface.now) a.property.now c.requires.0 a.c a.q a.method a.set a.work.now c.requires.1.0 c.requires.1.1.1.1.1 x.result y.result x.new.work y.new.work (x.ensures.0 h) (tables_admitted a.s (decode_interface a.interface.now) a.property.now c.requires.0 a.c x.result (2 * a.method) a.q (supports_of (decode_property a.property.now) a.s.ors (2 * a.method / 2) (flag_of (2 * a.method)) a.set) a.work.now x.new.work (x.ensures.0 h) c.requires.1.1.1.1.0) y.ensures
