-- Each case of the code is a case of the definition. `left` falls with each call, and 2 ^ left bounds how many sets are added; the tables stand before the part that is written,
-- and the bound stays the set's completion.
use mathlib.Core.Path.{refl, sym, ap, ◌∙◌}
use Prim.Native.Nat.{ℕ, ◌≤◌}
use native.Mathlib.Omega.{arith}
use lib.ListN.{length}
use lib.Pow.{pow_pos}
use borrow.Author.Tests.{not-true, not-false}
use Rattle.files.specs.Decode.{decode_property}
use Rattle.files.specs.Places.{max_rows}
use Rattle.maximal.specs.Masks.{apart}
use Rattle.maximal.specs.declared.supports.Opened.{Opened}
use Rattle.maximal.specs.Collected.{listed, inserted, collected}
use Rattle.maximal.specs.Collected.Search.{collected_cut, collected_leaf, collected_last}
use Rattle.maximal.proofs.RowLaws.{rows_are}
use Rattle.maximal.proofs.SupportLaws.{tables_kept, at_leaf, at_split, open_below, b_row, first_row, second_row, branch_bounded, both_collected, twice_below}
use Rattle.maximal.proofs.supports.+collect.Goals as goal

pub returns-then-not-bound-forbidden : goal.returns-then-not-bound-forbidden
returns-then-not-bound-forbidden t c =
    let a = c.args in
    (sym (collected_cut (decode_property a.property.now) a.set a.worked a.bound a.forbidden (listed a.work.now a.found) a.left (not-true (apart a.bound a.forbidden) c.if-not-bound-forbidden.true-raw)), (omega arith, λ q d. refl))

pub returns-then-o-n : goal.returns-then-o-n
returns-then-o-n t c =
    let a = c.args in
    let o = c.next_open-o in
    let i = c.insert in
    let leaf = at_leaf a.property.now c.requires.0 a.n c.requires.1.0 c.requires.1.1.0 a.set a.worked a.bound c.requires.1.1.1.1.1.1 o.result o.ensures c.if-o-n.true in
    let set_is = ap (λ (t : Opened). inserted (listed a.work.now a.found) t.set) o.ensures in (
      i.ensures.0 ∙ set_is ∙ sym (collected_leaf (decode_property a.property.now) a.set a.worked a.bound a.forbidden (listed a.work.now a.found) a.left (not-false (apart a.bound a.forbidden) c.if-not-bound-forbidden.false-raw) leaf),
      (omega (arith, i.ensures.1.0, pow_pos a.left), i.ensures.1.1),
    )

pub returns-then-left-eq0 : goal.returns-then-left-eq0
returns-then-left-eq0 t c =
    let a = c.args in
    let o = c.next_open-o in
    let split = c.if-o-n.false in
    let e = ap (λ (i : ℕ). collected (decode_property a.property.now) i a.set a.worked a.bound a.forbidden (listed a.work.now a.found)) c.if-left-eq0.true in
    (sym (e ∙ collected_last (decode_property a.property.now) a.set a.worked a.bound a.forbidden (listed a.work.now a.found) (not-false (apart a.bound a.forbidden) c.if-not-bound-forbidden.false-raw) (at_split a.property.now c.requires.0 a.n c.requires.1.0 c.requires.1.1.0 a.set a.worked a.bound c.requires.1.1.1.1.1.1 o.result o.ensures split)), (omega arith, λ q d. refl))

pub operands_at-a-requires : goal.operands_at-a-requires
operands_at-a-requires t c =
    let a = c.args in
    let o = c.next_open-o in
    let split = c.if-o-n.false in
    (c.requires.0, omega (arith, open_below a.property.now c.requires.0 a.n c.requires.1.0 c.requires.1.1.0 a.set a.worked a.bound c.requires.1.1.1.1.1.1 o.result o.ensures split, c.requires.1.0))

pub has_row-b_first-requires : goal.has_row-b_first-requires
has_row-b_first-requires t c =
    let a = c.args in
    let o = c.next_open-o in
    let split = c.if-o-n.false in
    let read = c.operands_at-a.ensures in
    omega (arith, b_row a.property.now c.requires.0 a.n c.requires.1.0 c.requires.1.1.0 a.set a.worked a.bound c.requires.1.1.1.1.1.1 o.result o.ensures split _ _ read.0 read.1, c.requires.1.1.0)

pub one_row-requires : goal.one_row-requires
one_row-requires t c =
    let a = c.args in
    let o = c.next_open-o in
    let split = c.if-o-n.false in
    omega (arith, open_below a.property.now c.requires.0 a.n c.requires.1.0 c.requires.1.1.0 a.set a.worked a.bound c.requires.1.1.1.1.1.1 o.result o.ensures split, c.requires.1.1.0)

pub one_row-one_first-requires : goal.one_row-one_first-requires
one_row-one_first-requires t c =
    let a = c.args in
    let o = c.next_open-o in
    let split = c.if-o-n.false in
    let read = c.operands_at-a.ensures in
    let f = c.has_row-b_first.result in
    let i = c.pick-first in
    omega (arith, first_row a.property.now c.requires.0 a.n c.requires.1.0 c.requires.1.1.0 a.set a.worked a.bound c.requires.1.1.1.1.1.1 o.result o.ensures split _ _ read.0 read.1 f i.result i.ensures, c.requires.1.1.0)

pub one_row-one_second-requires : goal.one_row-one_second-requires
one_row-one_second-requires t c =
    let a = c.args in
    let o = c.next_open-o in
    let split = c.if-o-n.false in
    let read = c.operands_at-a.ensures in
    let f = c.has_row-b_first.result in
    let i = c.pick-second in
    omega (arith, second_row a.property.now c.requires.0 a.n c.requires.1.0 c.requires.1.1.0 a.set a.worked a.bound c.requires.1.1.1.1.1.1 o.result o.ensures split _ _ read.0 read.1 f i.result i.ensures, c.requires.1.1.0)

pub collect-listed-requires : goal.collect-listed-requires
collect-listed-requires t c =
    let a = c.args in
    let o = c.next_open-o in
    let split = c.if-o-n.false in
    let read = c.operands_at-a.ensures in
    let f = c.has_row-b_first.result in
    let i = c.pick-first in
    let some = c.if-left-eq0.false in
    let d = twice_below a.left some in
    let one-r = c.one_row in
    let one-c = c.one_row-one_first in
    let closed-c = c.get-2 in
    let bounded = branch_bounded a.property.now c.requires.0 a.n c.requires.1.0 c.requires.1.1.0 a.set a.worked a.bound c.requires.1.1.1.1.1.1 o.result o.ensures split _ _ read.0 read.1 a.work.now c.requires.1.1.1.1.1.0 i.result one-c.result one-r.result closed-c.result (first_row a.property.now c.requires.0 a.n c.requires.1.0 c.requires.1.1.0 a.set a.worked a.bound c.requires.1.1.1.1.1.1 o.result o.ensures split _ _ read.0 read.1 f i.result i.ensures) one-c.ensures one-r.ensures closed-c.ensures in
    (omega (arith, some), (c.requires.0, (c.requires.1.0, (c.requires.1.1.0, (omega (arith, d, c.requires.1.1.1.0), (c.requires.1.1.1.1.0, (c.requires.1.1.1.1.1.0, bounded)))))))

pub collect-requires : goal.collect-requires
collect-requires t c =
    let a = c.args in
    let o = c.next_open-o in
    let split = c.if-o-n.false in
    let read = c.operands_at-a.ensures in
    let f = c.has_row-b_first.result in
    let i = c.pick-second in
    let some = c.if-left-eq0.false in
    let g = c.collect-listed in
    let d = twice_below a.left some in
    let P = (decode_property a.property.now) in
    let few : length P ≤ max_rows = omega (arith, rows_are a.property.now c.requires.0 a.n c.requires.1.0, c.requires.1.1.0) in
    let kept = tables_kept P a.work.now g.new.work few g.ensures.1.1 c.requires.1.1.1.1.1.0 in
    let one-r = c.one_row in
    let one-c = c.one_row-one_second in
    let closed-c = c.get-3 in
    let bounded = branch_bounded a.property.now c.requires.0 a.n c.requires.1.0 c.requires.1.1.0 a.set a.worked a.bound c.requires.1.1.1.1.1.1 o.result o.ensures split _ _ read.0 read.1 a.work.now c.requires.1.1.1.1.1.0 i.result one-c.result one-r.result closed-c.result (second_row a.property.now c.requires.0 a.n c.requires.1.0 c.requires.1.1.0 a.set a.worked a.bound c.requires.1.1.1.1.1.1 o.result o.ensures split _ _ read.0 read.1 f i.result i.ensures) one-c.ensures one-r.ensures closed-c.ensures in
    (omega (arith, some), (c.requires.0, (c.requires.1.0, (c.requires.1.1.0, (omega (arith, d, g.ensures.1.0, c.requires.1.1.1.0), (omega (arith, g.auto.work, c.requires.1.1.1.1.0), (kept, bounded)))))))

pub returns : goal.returns
returns t c =
    let a = c.args in
    let o = c.next_open-o in
    let split = c.if-o-n.false in
    let read = c.operands_at-a.ensures in
    let some = c.if-left-eq0.false in
    let of-a = c.get in
    let b-first = c.has_row-b_first in
    let first = c.pick-first in
    let second = c.pick-second in
    let one-r = c.one_row in
    let one-first = c.one_row-one_first in
    let one-second = c.one_row-one_second in
    let closed-first = c.get-2 in
    let closed-second = c.get-3 in
    let f = c.collect-listed in
    let g = c.collect in
    let A = (listed a.work.now a.found) in
    let B = listed f.new.work f.result in
    let C = listed g.new.work g.result in (
      both_collected a.property.now c.requires.0 a.n c.requires.1.0 c.requires.1.1.0 a.set a.worked a.bound c.requires.1.1.1.1.1.1 o.result o.ensures split _ _ read.0 read.1 a.work.now c.requires.1.1.1.1.1.0 of-a.result b-first.result first.result second.result of-a.ensures b-first.ensures first.ensures second.ensures
          a.left a.forbidden one-r.result one-first.result one-second.result closed-first.result closed-second.result A B C
          some (not-false (apart a.bound a.forbidden) c.if-not-bound-forbidden.false-raw) one-r.ensures one-first.ensures one-second.ensures closed-first.ensures closed-second.ensures f.ensures.0 g.ensures.0,
      (omega (arith, twice_below a.left some, f.ensures.1.0, g.ensures.1.0), λ q d. g.ensures.1.1 q d ∙ f.ensures.1.1 q d),
    )
