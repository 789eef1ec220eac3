use mathlib.Core.Path.{sym, ap, ◌∙◌}
use native.Mathlib.Omega.{arith}
use lib.ListN.{length}
use Rattle.maximal.specs.Masks.{completion}
use Rattle.maximal.specs.Masks.Laws.{member_lt}
use Rattle.maximal.specs.Masks.Order.{taken_row}
use Rattle.maximal.proofs.CompleteLaws.{completion_none, completion_union}
use Rattle.maximal.proofs.MaskLaws.{partly_none, row_left, partly_with, less_left}
use Rattle.maximal.proofs.supports.closed_rows.Goals as goal

pub loop-done-init : goal.loop-done-init
loop-done-init c = (partly_none 32 c.args.set c.ranges.set.fits, λ P t h. completion_none P)

pub next_row-r-requires : goal.next_row-r-requires
next_row-r-requires c =
    let l = c.loop-done in
    row_left 32 c.args.set l.done l.invariant.0 c.loop-done-test.true-raw

pub one_row-done-requires : goal.one_row-done-requires
one_row-done-requires c =
    let l = c.loop-done in
    taken_row 32 c.args.set l.done l.invariant.0 c.next_row-r.result c.next_row-r.ensures

pub get-all-requires : goal.get-all-requires
get-all-requires c =
    let l = c.loop-done in
    let h = c.next_row-r in
    omega (arith, taken_row 32 c.args.set l.done l.invariant.0 h.result h.ensures, c.requires)

pub loop-done-smaller : goal.loop-done-smaller
loop-done-smaller c =
    let a = c.args in
    let l = c.loop-done in
    let h = c.next_row-r in
    let o = c.one_row-done in
    less_left 32 a.set l.done l.invariant.0 h.result h.ensures o.result o.ensures

pub loop-done-preserved : goal.loop-done-preserved
loop-done-preserved c =
    let a = c.args in
    let l = c.loop-done in
    let h = c.next_row-r in
    let o = c.one_row-done in
    let g = c.get-all in
    let more = partly_with 32 a.set l.done l.invariant.0 h.result h.ensures o.result o.ensures in (
      more,
      λ P t f. completion_union P l.done o.result l.all g.result (λ q i. member_lt (length P) a.set q f (more.inside q i)) (l.invariant.1 P t f)
          (g.ensures ∙ t.closed_are h.result (member_lt (length P) a.set h.result f h.ensures.in_set) ∙ ap (completion P) (sym o.ensures)),
    )
