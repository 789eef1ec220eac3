use mathlib.Core.Path.{◌≡◌, subst}
use Prim.Native.Nat.{ℕ}
use native.Mathlib.Omega.{arith}
use Rattle.files.specs.Decode.{decode_interface, decode_property}
use Rattle.maximal.specs.Charting.Files.{file_named}
use Rattle.maximal.specs.Listing.Laws.{edges_bytes}
use Rattle.maximal.proofs.Theorems.Listing.Laws.{model_edges_many}
use Rattle.files.specs.Cells.Wrote.{Wrote, wrote_none}
use Rattle.maximal.proofs.WrittenLaws.{state_on, state_fits, model_end}
use Rattle.maximal.proofs.written.write_model.Goals as goal

pub loop-i-init : goal.loop-i-init
loop-i-init c = wrote_none c.write_nodes.new.out c.args.c

pub write_from-end-requires : goal.write_from-end-requires
write_from-end-requires c = let a = c.args in
    let p = c.requires in
    let l = c.loop-i in
    let many = model_edges_many (decode_interface a.interface.now) (decode_property a.property.now) (file_named a.property.now p.0) a.c a.work.now p.1.1.0 in
    (omega arith, (p.1.1.0.charted.holds.few, (p.1.0, (state_fits a.work.now a.c c.write_nodes.new.out l.out l.i l.end l.invariant (omega arith) (omega (arith, p.1.1.1.0, p.1.1.1.1.0, c.write_nodes.auto.out, many)), (p.1.1.0.ordered, p.1.1.1.1.1)))))

pub loop-i-preserved : goal.loop-i-preserved
loop-i-preserved c = let a = c.args in
    let l = c.loop-i in
    let x = c.write_from-end in
    state_on a.work.now a.c c.write_nodes.new.out l.out l.i l.end l.invariant x.new.out x.result (omega (arith, c.requires.1.1.1.1.0, c.write_nodes.auto.out)) x.ensures.1 x.auto.out x.ensures.0

pub returns : goal.returns
returns c = let a = c.args in
    let p = c.requires in
    let l = c.loop-i in
    let e : l.i ≡ a.c = omega arith in
    model_end a.work.now (decode_interface a.interface.now) (decode_property a.property.now) a.c l.end a.out.now c.write_nodes.new.out l.out (file_named a.property.now p.0) p.1.1.0 c.write_nodes.ensures
    (subst (λ (n : ℕ). Wrote c.write_nodes.new.out l.out a.c l.end (edges_bytes a.work.now a.c n)) e l.invariant)
