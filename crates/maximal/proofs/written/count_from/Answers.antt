use mathlib.Core.Path.{sym, ap, ap₂, ◌∙◌}
use Prim.Native.Nat.{◌+◌}
use native.Mathlib.Numerals.{add-one}
use native.Mathlib.Omega.{arith}
use Rattle.files.specs.Basics.Tables.{tally_le}
use Rattle.maximal.specs.Listing.{leads, tally_from}
use Rattle.maximal.specs.Listing.Laws.{tally_from_none, tally_from_more, tally_from_le}
use Rattle.maximal.proofs.written.count_from.Goals as goal

pub loop-label-init : goal.loop-label-init
loop-label-init c = let a = c.args in sym (tally_from_none a.work.now a.c a.i)

pub overflow_add-n : goal.overflow_add-n
overflow_add-n c = let a = c.args in
    let l = c.loop-label in
    omega (arith, l.invariant, c.count_under-n.ensures, c.requires.1.0, tally_from_le a.work.now a.c a.i l.label c.requires.1.0, tally_le (leads a.work.now a.i l.label) a.c)

pub loop-label-preserved : goal.loop-label-preserved
loop-label-preserved c = let a = c.args in
    let l = c.loop-label in
    ap₂ ◌+◌ l.invariant c.count_under-n.ensures ∙ sym (tally_from_more a.work.now a.c a.i l.label) ∙ ap (tally_from a.work.now a.c a.i) (sym (add-one l.label))
