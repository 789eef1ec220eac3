use mathlib.Core.Path.{◌≡◌, sym, ap, subst, ◌∙◌}
use mathlib.Core.List.{List, []}
use Prim.Native.Nat.{ℕ, ◌+◌, ◌*◌}
use native.Mathlib.Numerals.{add-one}
use native.Mathlib.Omega.{arith}
use Rattle.files.specs.Basics.Lists.{each, span, each_more}
use Rattle.files.specs.Cells.{put_at}
use Rattle.files.specs.Cells.Wrote.{Wrote, wrote_none, wrote_more}
use Rattle.files.specs.Decode.{decode_graph}
use Rattle.files.specs.Join.Bytes.{moved_bytes, moved_all}
use Rattle.files.specs.Places.{record_len}
use Rattle.files.specs.View.{view_edges}
use Rattle.files.proofs.moved.write_all_moved.Goals as goal

pub loop-j-init : goal.loop-j-init
loop-j-init c =
    let a = c.args in
    let e : a.first ≡ a.first + 0 = omega arith in
    subst (λ (n : ℕ). Wrote a.out.now a.out.now a.first n []) e (wrote_none a.out.now a.first)

pub loop-j-preserved : goal.loop-j-preserved
loop-j-preserved c =
    let a = c.args in
    let l = c.loop-j in
    let w = c.write_moved in
    let f : ℕ → List ℕ = moved_bytes a.before (decode_graph a.graph.now) in
    wrote_more a.out.now l.out w.new.out a.first (a.first + l.j) (a.first + (l.j + 1)) (each f (span 0 l.j)) (f l.j) (each f (span 0 (l.j + 1)))
    (omega (arith, c.requires.1.1)) (ap (λ (n : ℕ). each f (span 0 n)) (add-one l.j) ∙ each_more f l.j) l.invariant w.ensures w.auto.out (omega arith)

pub returns : goal.returns
returns c =
    let a = c.args in
    let l = c.loop-j in
    let G = decode_graph a.graph.now in
    let e : l.j ≡ a.view.edges = omega arith in
    l.invariant.bytes ∙ ap (put_at a.out.now (record_len * a.first)) (ap (λ (n : ℕ). each (moved_bytes a.before G) (span 0 n)) (e ∙ sym (view_edges c.requires.0)) ∙ moved_all a.before G)
