use mathlib.Core.Path.{sym, ap, ap₂, ◌∙◌}
use Prim.Native.Nat.{◌+◌}
use native.Mathlib.Numerals.{add-one}
use native.Mathlib.Omega.{arith}
use borrow.Author.Tests.{le-ltb}
use Rattle.maximal.specs.Listing.{tally_upto}
use Rattle.maximal.specs.Listing.Laws.{tally_from_le, upto_none, upto_more, upto_stays}
use Rattle.maximal.proofs.written.count_edges.Goals as goal

pub loop-i-init : goal.loop-i-init
loop-i-init c = let a = c.args in (sym (upto_none a.work.now a.c a.limit), omega arith)

pub returns-then-limit-n : goal.returns-then-limit-n
returns-then-limit-n c = let a = c.args in
    let l = c.loop-i in
    l.invariant.0 ∙ sym (upto_stays a.work.now a.c a.limit l.i a.c (omega arith) (omega (arith, c.if-limit-n.true, l.invariant.0)))

pub overflow_add-n : goal.overflow_add-n
overflow_add-n c = let a = c.args in
    let l = c.loop-i in
    omega (arith, l.invariant.1, c.count_from-n.ensures, c.requires.0, tally_from_le a.work.now a.c l.i 9 c.requires.0)

pub loop-i-preserved : goal.loop-i-preserved
loop-i-preserved c = let a = c.args in
    let l = c.loop-i in
    let more = upto_more a.work.now a.c a.limit l.i (le-ltb a.limit _ (omega (arith, c.if-limit-n.false, l.invariant.0))) in (
      ap₂ ◌+◌ l.invariant.0 c.count_from-n.ensures ∙ sym more ∙ ap (tally_upto a.work.now a.c a.limit) (sym (add-one l.i)),
      omega (arith, l.invariant.1, c.count_from-n.ensures, tally_from_le a.work.now a.c l.i 9 c.requires.0),
    )
