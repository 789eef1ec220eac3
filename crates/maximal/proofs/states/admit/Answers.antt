use mathlib.Core.Path.{subst}
use mathlib.Core.List.{Memᴰ}
use Prim.Native.Nat.{◌/◌}
use native.Mathlib.Omega.{arith}
use Rattle.files.specs.Decode.{decode_interface, decode_property}
use Rattle.maximal.specs.Charting.{flag_of}
use Rattle.maximal.specs.Collected.{listed, supports_of}
use Rattle.maximal.proofs.AdmitLaws.{listed_holds, listed_admitted}
use Rattle.maximal.proofs.states.admit.Goals as goal

pub enter_listed-requires : goal.enter_listed-requires
enter_listed-requires c =
    let a = c.args in
    let x = c.supports-n in (
      c.requires.0,
      (
        c.requires.1.0,
        (
          c.requires.1.1.0,
          (
            x.ensures.1.0,
            (
              omega (arith, c.requires.1.1.1.1.0, x.auto.work),
              (
                listed_holds (decode_interface a.interface.now) (decode_property a.property.now) a.c a.kind a.q c.requires.1.0 a.work.now x.new.work c.requires.1.1.1.1.1.1.0 x.ensures.1.1,
                λ u i. c.requires.1.1.1.1.1.1.1 u (subst (Memᴰ u) {x = listed x.new.work x.result} {y = supports_of (decode_property a.property.now) a.s.ors (a.kind / 2) (flag_of a.kind) a.set} x.ensures.0 i),
              ),
            ),
          ),
        ),
      ),
    )

pub returns : goal.returns
returns c =
    let a = c.args in
    let x = c.supports-n in
    let y = c.enter_listed in
    (λ h. listed_admitted (decode_interface a.interface.now) (decode_property a.property.now) a.c a.kind a.q c.requires.1.0 a.work.now x.new.work c.requires.1.1.1.1.1.1.0 x.ensures.1.1 x.result (supports_of (decode_property a.property.now) a.s.ors (a.kind / 2) (flag_of a.kind) a.set) x.ensures.0 y.result y.new.work (y.ensures.0 h), y.ensures.1)
