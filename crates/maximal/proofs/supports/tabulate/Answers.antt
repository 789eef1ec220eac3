use mathlib.Core.Path.{◌≡◌, sym, ap, subst, ◌∙◌}
use Prim.Native.Nat.{ℕ, ◌^◌, ◌≤◌, ◌<◌}
use native.Mathlib.Omega.{arith}
use lib.ListN.{length}
use lib.Pow.{pow-lt}
use Rattle.files.specs.Decode.{decode_property}
use Rattle.maximal.specs.Masks.{completion}
use Rattle.maximal.proofs.RowLaws.{rows_are}
use Rattle.maximal.proofs.SupportLaws.{tabled_on, tabled_all}
use Rattle.maximal.specs.Places.{kinds_base}
use Rattle.maximal.proofs.supports.tabulate.Goals as goal

pub complete-requires : goal.complete-requires
complete-requires c = (c.requires.0, (c.requires.1.0, (c.requires.1.1.0, subst (λ (s : ℕ). s < 2 ^ c.args.n) (sym c.one_row.ensures) (pow-lt (omega arith)))))

pub loop-r-preserved : goal.loop-r-preserved
loop-r-preserved c =
    let l = c.loop-r in
    let P = decode_property c.args.property.now in
    let once = c.put in
    let twice = c.put-in-loop-r in
    let m = c.complete in
    let s = c.operands in
    let few : l.r < 32 = omega (arith, c.requires.1.1.0) in
    let room : kinds_base ≤ length l.work = omega (arith, c.requires.1.1.1) in
    tabled_on P c.args.work.now l.work once.new.work twice.new.work l.r m.result s.result l.invariant few room (omega arith) (omega arith) (m.ensures ∙ ap (completion P) c.one_row.ensures) s.ensures once.ensures twice.ensures

pub returns : goal.returns
returns c =
    let l = c.loop-r in
    let P = decode_property c.args.property.now in
    let e : length P ≡ l.r = omega (arith, rows_are c.args.property.now c.requires.0 c.args.n c.requires.1.0) in
    (tabled_all P c.args.work.now l.work l.r e l.invariant, l.invariant.outside)
