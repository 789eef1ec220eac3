use mathlib.Core.Path.{refl, sym, ap, ◌∙◌}
use Prim.Native.Nat.{ℕ, ◌+◌, ◌*◌}
use native.Mathlib.Omega.{arith}
use Rattle.files.specs.Cells.{put_at}
use Rattle.files.specs.Places.{record_len}
use Rattle.files.specs.Record.{six}
use Rattle.files.specs.declared.record.Record.{Record}
use Rattle.maximal.specs.Listing.{under_bytes}
use Rattle.maximal.proofs.BitLaws.{visit}
use Rattle.maximal.proofs.RankLaws.{leads_row}
use Rattle.files.specs.Cells.Wrote.{Wrote, wrote_none}
use Rattle.maximal.proofs.WrittenLaws.{edge_on, edge_off, edges_so_far, edge_fits}
use Rattle.maximal.proofs.written.write_under.Goals as goal

pub loop-j-init : goal.loop-j-init
loop-j-init c =
    let a = c.args in
    let p = c.requires in
    let row = c.order_row.new.ordered in
    let is = leads_row a.c a.work.now p.1.1.1.1.1.0 p.1.1.1.1.1.1 c.row_of.result c.order_row.new.ordered c.order_row.ensures a.i a.label c.row_of.ensures.0 in
    visit row 0 a.c (λ (m : ℕ). Wrote a.out.now a.out.now a.at a.at (under_bytes a.work.now m a.i a.label)) (λ t h e x. edge_off a.work.now a.out.now a.out.now a.i a.label t a.at a.at x (sym e ∙ is t h)) 0 c.next_bit-j.result (omega arith) (wrote_none a.out.now a.at) c.next_bit-j.ensures

pub put_record-requires : goal.put_record-requires
put_record-requires c =
    let a = c.args in
    let p = c.requires in
    let l = c.loop-j in
    let h = c.loop-j-test.true in
    let is = leads_row a.c a.work.now p.1.1.1.1.1.0 p.1.1.1.1.1.1 c.row_of.result c.order_row.new.ordered c.order_row.ensures a.i a.label c.row_of.ensures.0 in
    edge_fits a.work.now a.out.now l.out a.i a.label l.j a.at l.end (l.invariant.here h) a.c h (sym (l.invariant.is_one h) ∙ is l.j h) p.1.1.1.1.0

pub overflow_add-end : goal.overflow_add-end
overflow_add-end c =
    let a = c.args in
    let p = c.requires in
    let l = c.loop-j in
    let h = c.loop-j-test.true in
    let is = leads_row a.c a.work.now p.1.1.1.1.1.0 p.1.1.1.1.1.1 c.row_of.result c.order_row.new.ordered c.order_row.ensures a.i a.label c.row_of.ensures.0 in
    omega (arith, (l.invariant.here h).as_long, edge_fits a.work.now a.out.now l.out a.i a.label l.j a.at l.end (l.invariant.here h) a.c h (sym (l.invariant.is_one h) ∙ is l.j h) p.1.1.1.1.0)

pub loop-j-preserved : goal.loop-j-preserved
loop-j-preserved c =
    let a = c.args in
    let p = c.requires in
    let l = c.loop-j in
    let h = c.loop-j-test.true in
    let y = c.put_record in
    let row = c.order_row.new.ordered in
    let is = leads_row a.c a.work.now p.1.1.1.1.1.0 p.1.1.1.1.1.1 c.row_of.result c.order_row.new.ordered c.order_row.ensures a.i a.label c.row_of.ensures.0 in
    visit row 0 a.c (λ (m : ℕ). Wrote a.out.now y.new.out a.at (l.end + 1) (under_bytes a.work.now m a.i a.label)) (λ t k e x. edge_off a.work.now a.out.now y.new.out a.i a.label t a.at (l.end + 1) x (sym e ∙ is t k)) (l.j + 1) c.next_bit-j-in-loop-j.result (omega (arith, h))
    (edge_on a.work.now a.out.now l.out a.i a.label l.j a.at l.end (l.invariant.here h) y.new.out (l.end + 1) (omega (arith, p.1.1.1.1.0)) (sym (l.invariant.is_one h) ∙ is l.j h) (y.ensures ∙ ap (λ (r : Record). put_at l.out (record_len * l.end) (six r)) c.edge.ensures) y.auto.out refl) c.next_bit-j-in-loop-j.ensures

pub returns : goal.returns
returns c =
    let a = c.args in
    let l = c.loop-j in
    let x = l.invariant.all (omega (arith, c.loop-j-test.false)) in
    (edges_so_far a.work.now a.out.now l.out a.i a.label a.c a.at l.end x, x.bytes)
