use mathlib.Core.Path.{◌≡◌, subst}
use Prim.Native.Nat.{ℕ}
use native.Mathlib.Omega.{arith}
use Rattle.maximal.specs.Listing.{from_bytes}
use Rattle.files.specs.Cells.Wrote.{Wrote, wrote_none}
use Rattle.maximal.proofs.WrittenLaws.{label_on, labels_so_far, label_fits}
use Rattle.maximal.proofs.written.write_from.Goals as goal

pub loop-label-init : goal.loop-label-init
loop-label-init c = wrote_none c.args.out.now c.args.at

pub write_under-end-requires : goal.write_under-end-requires
write_under-end-requires c = let a = c.args in
    let p = c.requires in
    let l = c.loop-label in
    (p.0, (omega arith, (p.1.0, (p.1.1.0, (label_fits a.work.now a.c a.out.now l.out a.i l.label a.at l.end l.invariant 9 (omega arith) p.1.1.1.0, p.1.1.1.1)))))

pub loop-label-preserved : goal.loop-label-preserved
loop-label-preserved c = let a = c.args in
    let l = c.loop-label in
    let x = c.write_under-end in
    label_on a.work.now a.c a.out.now l.out a.i l.label a.at l.end l.invariant x.new.out x.result (omega (arith, c.requires.1.1.1.0)) x.ensures.1 x.auto.out x.ensures.0

pub returns : goal.returns
returns c = let a = c.args in
    let l = c.loop-label in
    let e : l.label ≡ 9 = omega arith in
    let x = subst (λ (n : ℕ). Wrote a.out.now l.out a.at l.end (from_bytes a.work.now a.c a.i n)) e l.invariant in
    (labels_so_far a.work.now a.c a.out.now l.out a.i 9 a.at l.end x, x.bytes)
