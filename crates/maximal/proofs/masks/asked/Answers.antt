use Prim.Native.Nat.{◌<◌}
use native.Mathlib.Omega.{arith}
use lib.ListN.{length}
use Rattle.files.specs.Decode.{decode_property}
use Rattle.maximal.specs.Charting.Files.{file_named}
use Rattle.maximal.specs.Masks.Order.{taken_row}
use Rattle.maximal.proofs.MaskLaws.{partly_none, row_left, partly_with, less_left, asked_none, asked_with}
use Rattle.maximal.proofs.RowLaws.{rows_are}
use Rattle.maximal.proofs.masks.asked.Goals as goal
use Rattle.maximal.proofs.masks.asked.Goals.{After-next_row-r}

-- the row taken is one of the rows
row-taken : (p : After-next_row-r) → p.next_row-r.result < p.args.n
row-taken p =
    let a = p.args in
    let l = p.loop-done in
    taken_row a.n a.set l.done l.invariant.0 p.next_row-r.result p.next_row-r.ensures

pub loop-done-init : goal.loop-done-init
loop-done-init c =
    let a = c.args in
    (partly_none a.n a.set c.requires.1.1.1, asked_none (decode_property a.property.now) a.label)

pub next_row-r-requires : goal.next_row-r-requires
next_row-r-requires c =
    let a = c.args in
    let l = c.loop-done in
    row_left a.n a.set l.done l.invariant.0 c.loop-done-test.true-raw

pub one_row-done-requires : goal.one_row-done-requires
one_row-done-requires c = omega (arith, row-taken c, c.requires.1.1.0)

pub obliged_rows-rows-requires : goal.obliged_rows-rows-requires
obliged_rows-rows-requires c =
    let h = c.requires in
    (h.0, (h.1.0, (h.1.1.0, row-taken (goal.at.obliged_rows-rows-requires c).After-next_row-r)))

pub loop-done-smaller : goal.loop-done-smaller
loop-done-smaller c =
    let a = c.args in
    let l = c.loop-done in
    let h = c.next_row-r in
    let o = c.one_row-done in
    less_left a.n a.set l.done l.invariant.0 h.result h.ensures o.result o.ensures

pub loop-done-preserved : goal.loop-done-preserved
loop-done-preserved c =
    let a = c.args in
    let P = decode_property a.property.now in
    let l = c.loop-done in
    let h = c.next_row-r in
    let o = c.one_row-done in
    let e = rows_are a.property.now c.requires.0 a.n c.requires.1.0 in
    let row : h.result < length P = omega (arith, row-taken (goal.at.loop-done-preserved c).After-next_row-r, e) in
    let named = (file_named a.property.now c.requires.0).names_rows h.result row in
    let b = c.obliged_rows-rows in (
      partly_with a.n a.set l.done l.invariant.0 h.result h.ensures o.result o.ensures,
      asked_with P a.label l.done h.result l.rows b.result o.result row named l.invariant.1 b.ensures o.ensures,
    )
