use mathlib.Core.Path.{sym}
use Prim.Native.Nat.{◌<◌}
use native.Mathlib.Omega.{arith}
use lib.ListN.{length}
use Rattle.files.specs.Decode.{decode_property}
use Rattle.maximal.specs.Charting.Files.{file_named}
use Rattle.maximal.specs.Masks.Order.{taken_row}
use Rattle.maximal.proofs.MaskLaws.{all_worked, row_left, less_left}
use Rattle.maximal.proofs.OpenLaws.{opened_none, opened_at, opening_on}
use Rattle.maximal.proofs.RowLaws.{rows_are}
use Rattle.maximal.proofs.supports.next_open.Goals as goal
use Rattle.maximal.proofs.supports.next_open.Goals.{After-next_row-r}

-- the row taken is one of the rows, which are few
row-taken : (p : After-next_row-r) → p.next_row-r.result < 32
row-taken p =
    let a = p.args in
    let l = p.loop-all in
    let P = decode_property a.property.now in
    let e = rows_are a.property.now p.requires.0 a.n p.requires.1.0 in
    omega (arith, taken_row (length P) l.all l.done l.invariant.bounded.partly p.next_row-r.result p.next_row-r.ensures, e, p.requires.1.1.0)

pub next_row-r-requires : goal.next_row-r-requires
next_row-r-requires c =
    let P = decode_property c.args.property.now in
    let l = c.loop-all in
    row_left (length P) l.all l.done l.invariant.bounded.partly c.loop-all-test.true-raw

pub get-named-requires : goal.get-named-requires
get-named-requires c = omega (arith, row-taken c, c.requires.1.1.1.0)

pub returns-then-bound-named-eq0 : goal.returns-then-bound-named-eq0
returns-then-bound-named-eq0 c =
    let a = c.args in
    let l = c.loop-all in
    let P = decode_property a.property.now in
    let wf = file_named a.property.now c.requires.0 in
    let r = c.next_row-r in
    let x = c.get-named in
    opened_at P wf a.work.now c.requires.1.1.1.1.0 a.set a.worked a.bound l.all l.done l.invariant r.result r.ensures x.result x.ensures c.if-bound-named-eq0.true

pub get-requires : goal.get-requires
get-requires c = omega (arith, row-taken (goal.at.get-requires c).After-next_row-r, c.requires.1.1.1.0)

pub one_row-done-requires : goal.one_row-done-requires
one_row-done-requires c = row-taken (goal.at.one_row-done-requires c).After-next_row-r

pub loop-all-smaller : goal.loop-all-smaller
loop-all-smaller c =
    let P = decode_property c.args.property.now in
    let l = c.loop-all in
    let r = c.next_row-r in
    less_left (length P) l.all l.done l.invariant.bounded.partly r.result r.ensures c.one_row-done.result c.one_row-done.ensures

pub loop-all-preserved : goal.loop-all-preserved
loop-all-preserved c =
    let a = c.args in
    let l = c.loop-all in
    let P = decode_property a.property.now in
    let wf = file_named a.property.now c.requires.0 in
    let r = c.next_row-r in
    let x = c.get-named in
    let z = c.get in
    opening_on P wf a.work.now c.requires.1.1.1.1.0 a.set a.worked a.bound l.all l.done l.invariant r.result r.ensures x.result x.ensures z.result c.one_row-done.result z.ensures c.one_row-done.ensures c.if-bound-named-eq0.false

pub returns : goal.returns
returns c =
    let a = c.args in
    let l = c.loop-all in
    let P = decode_property a.property.now in
    let wf = file_named a.property.now c.requires.0 in
    let e = rows_are a.property.now c.requires.0 a.n c.requires.1.0 in
    opened_none P wf a.work.now c.requires.1.1.1.1.0 a.set a.worked a.bound l.all l.done l.invariant a.n (sym e)
    (all_worked l.all l.done c.loop-all-test.false-raw)
