use native.Mathlib.Omega.{arith}
use Rattle.files.specs.Decode.{decode_interface, decode_property}
use Rattle.maximal.proofs.AdmitLaws.{candidate_known, entering_on}
use Rattle.maximal.proofs.states.enter_listed.Goals as goal

pub enter-total-requires : goal.enter-total-requires
enter-total-requires c =
    let a = c.args in
    let l = c.loop-k in
    let x = c.get-set in (
      c.requires.0,
      (
        c.requires.1.0,
        (
          l.invariant.fits,
          (
            omega (arith, c.requires.1.1.1.1.0),
            (
              l.invariant.admitted.holds,
              candidate_known a.s (decode_interface a.interface.now) (decode_property a.property.now) a.c a.kind a.q a.work.now l.k l.total l.work l.invariant x.result x.ensures a.n (omega arith) c.requires.1.1.1.1.1.1,
            ),
          ),
        ),
      ),
    )

pub loop-k-preserved : goal.loop-k-preserved
loop-k-preserved c =
    let a = c.args in
    let l = c.loop-k in
    let x = c.get-set in
    let y = c.enter-total in
    entering_on a.s (decode_interface a.interface.now) (decode_property a.property.now) a.c a.kind a.q a.work.now l.k l.total l.work l.invariant x.result x.ensures y.result y.new.work (omega (arith, c.if-s-total.false)) y.ensures
