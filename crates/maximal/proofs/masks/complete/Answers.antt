use mathlib.Core.Path.{sym, subst}
use Prim.Native.Nat.{ℕ, ◌^◌, ◌<◌}
use native.Mathlib.Omega.{arith}
use lib.ListN.{length}
use Rattle.files.specs.Decode.{decode_property}
use Rattle.maximal.specs.Charting.Files.{file_named}
use Rattle.maximal.proofs.CompleteLaws.{completing_none, next_row, completing_on, completing_all}
use Rattle.maximal.proofs.MaskLaws.{all_worked, row_left, less_left}
use Rattle.maximal.proofs.RowLaws.{rows_are}
use Rattle.maximal.proofs.masks.complete.Goals as goal

pub loop-all-init : goal.loop-all-init
loop-all-init c =
    let a = c.args in
    let e = rows_are a.property.now c.requires.0 a.n c.requires.1.0 in
    completing_none (decode_property a.property.now) a.set (subst (λ (m : ℕ). a.set < 2 ^ m) (sym e) c.requires.1.1.1)

pub next_row-r-requires : goal.next_row-r-requires
next_row-r-requires c =
    let P = decode_property c.args.property.now in
    let l = c.loop-all in
    row_left (length P) l.all l.done l.invariant.partly c.loop-all-test.true-raw

pub one_row-done-requires : goal.one_row-done-requires
one_row-done-requires c =
    let a = c.args in
    let l = c.loop-all in
    let P = decode_property a.property.now in
    let h = c.next_row-r in
    let e = rows_are a.property.now c.requires.0 a.n c.requires.1.0 in
    omega (arith, next_row P a.set l.all l.done l.invariant h.result h.ensures, e, c.requires.1.1.0)

pub and_rows-all-requires : goal.and_rows-all-requires
and_rows-all-requires c =
    let a = c.args in
    let l = c.loop-all in
    let P = decode_property a.property.now in
    let h = c.next_row-r in
    let e = rows_are a.property.now c.requires.0 a.n c.requires.1.0 in
    (c.requires.0, (c.requires.1.0, (c.requires.1.1.0, omega (arith, next_row P a.set l.all l.done l.invariant h.result h.ensures, e))))

pub loop-all-smaller : goal.loop-all-smaller
loop-all-smaller c =
    let P = decode_property c.args.property.now in
    let l = c.loop-all in
    let h = c.next_row-r in
    let o = c.one_row-done in
    less_left (length P) l.all l.done l.invariant.partly h.result h.ensures o.result o.ensures

pub loop-all-preserved : goal.loop-all-preserved
loop-all-preserved c =
    let a = c.args in
    let l = c.loop-all in
    let P = decode_property a.property.now in
    let h = c.next_row-r in
    let o = c.one_row-done in
    let r = c.and_rows-all in
    let named = (file_named a.property.now c.requires.0).names_rows h.result (next_row P a.set l.all l.done l.invariant h.result h.ensures) in
    completing_on P a.set l.all l.done l.invariant h.result h.ensures named r.result o.result r.ensures o.ensures

pub returns : goal.returns
returns c =
    let a = c.args in
    let l = c.loop-all in
    completing_all (decode_property a.property.now) a.set l.all l.done l.invariant (all_worked l.all l.done c.loop-all-test.false-raw)
