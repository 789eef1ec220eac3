use mathlib.Core.Path.{◌≡◌, refl, sym, ap, ◌∙◌}
use native.Mathlib.Omega.{arith}
use Rattle.files.specs.Decode.{decode_graph, decode_property}
use mathlib.Core.List.{List}
use Prim.Native.Nat.{ℕ, ◌*◌}
use native.Mathlib.Numerals.{add-one}
use Rattle.files.specs.Cells.{put_at}
use Rattle.files.specs.Places.{record_len}
use Rattle.judging.specs.Levels.Sheet.{fault, fault_bytes}
use Rattle.judging.specs.Ranking.{queue_at}
use Rattle.judging.specs.Sheets.{pair_of}
use Rattle.judging.specs.Sheets.Walk.{bytes_of, bytes_none, bytes_more, bytes_all}
use Rattle.judging.proofs.sheet.write_sheet.Goals as goal

pub loop-i-init : goal.loop-i-init
loop-i-init c = let a = c.args in (bytes_none (decode_graph a.graph.now) (decode_property a.property.now) a.work.now a.out.now, refl)

pub loop-i-preserved : goal.loop-i-preserved
loop-i-preserved c = let a = c.args in
    let l = c.loop-i in
    let x = c.put_fault in (x.ensures ∙ ap (λ (o : List ℕ). put_at o (record_len * l.i) (fault_bytes (fault (decode_graph a.graph.now) (decode_property a.property.now) (pair_of (queue_at a.work.now l.i))))) l.invariant.0 ∙ bytes_more (decode_graph a.graph.now) (decode_property a.property.now) a.work.now a.out.now l.i ∙ ap (λ (k : ℕ). put_at a.out.now 0 (bytes_of (decode_graph a.graph.now) (decode_property a.property.now) a.work.now k)) (sym (add-one l.i)), x.auto.out ∙ l.invariant.1)

pub returns : goal.returns
returns c = let a = c.args in
    let l = c.loop-i in
    let e : l.i ≡ a.n = omega arith in
    l.invariant.0 ∙ ap (λ (k : ℕ). put_at a.out.now 0 (bytes_of (decode_graph a.graph.now) (decode_property a.property.now) a.work.now k)) e ∙ bytes_all (decode_graph a.graph.now) (decode_property a.property.now) a.work.now a.out.now a.n c.requires.1.1.0
