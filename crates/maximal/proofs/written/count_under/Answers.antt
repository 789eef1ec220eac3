use mathlib.Core.Path.{◌≡◌, refl, ◌∙◌}
use Prim.Native.Nat.{ℕ, ◌+◌}
use native.Mathlib.Omega.{arith}
use Rattle.files.specs.Basics.Tables.{tally, tally_le}
use Rattle.files.specs.Cells.{has_bit}
use Rattle.maximal.proofs.BitLaws.{visit}
use Rattle.maximal.proofs.RankLaws.{tally_row}
use Rattle.maximal.proofs.WrittenLaws.{tally_pass, tally_on}
use Rattle.maximal.proofs.written.count_under.Goals as goal

pub loop-t-init : goal.loop-t-init
loop-t-init c =
    let a = c.args in
    let r = c.row_of-row.result in
    visit a.work.now r a.c (λ (m : ℕ). 0 ≡ tally (has_bit a.work.now r) m) (λ t h e x. tally_pass (has_bit a.work.now r) 0 t e x) 0 c.next_bit-t.result (omega arith) refl c.next_bit-t.ensures

pub overflow_add-n : goal.overflow_add-n
overflow_add-n c =
    let a = c.args in
    let l = c.loop-t in
    omega (arith, l.invariant.here c.loop-t-test.true, c.loop-t-test.true, c.requires.1.1.0, tally_le (has_bit a.work.now c.row_of-row.result) l.t)

pub loop-t-preserved : goal.loop-t-preserved
loop-t-preserved c =
    let a = c.args in
    let l = c.loop-t in
    let h = c.loop-t-test.true in
    let r = c.row_of-row.result in
    let p = has_bit a.work.now r in
    visit a.work.now r a.c (λ (m : ℕ). l.n + 1 ≡ tally p m) (λ t k e x. tally_pass p (l.n + 1) t e x) (l.t + 1) c.next_bit-t-in-loop-t.result (omega (arith, h)) (tally_on p l.n l.t (l.invariant.is_one h) (l.invariant.here h)) c.next_bit-t-in-loop-t.ensures

pub returns : goal.returns
returns c =
    let a = c.args in
    let p = c.requires in
    let r = c.row_of-row in
    c.loop-t.invariant.all (omega (arith, c.loop-t-test.false)) ∙ tally_row a.c a.work.now p.1.1.1.1.0 p.1.1.1.1.1 a.i a.label r.result r.ensures.0
