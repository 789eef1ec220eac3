use mathlib.Core.Path.{sym, ap, subst, ◌∙◌}
use Prim.Native.Nat.{ℕ, ◌+◌}
use native.Mathlib.Omega.{arith}
use native.Mathlib.Numerals.{add-one}
use Rattle.files.specs.Basics.Tables.{tally_le}
use Rattle.files.specs.Record.{count}
use Rattle.files.specs.Refusal.{graph, of_kind, passed}
use Rattle.files.specs.Deliveries.{opened}
use Rattle.files.specs.Deliveries.Parts.{opened_count}
use Rattle.files.specs.Deliveries.Names.{PartAt, part_passed}
use Rattle.files.proofs.parts.passes.Goals as goal

pub over-requires : goal.over-requires
over-requires c =
    let a = c.args in
    let p = c.part_at-part.ensures in
    omega (arith, p.start_at, p.end_at, p.nodes_at, tally_le (of_kind (opened a.file.now (a.o + 1)) 1) (count (opened a.file.now (a.o + 1))), opened_count a.file.now (a.o + 1) (omega (arith, c.requires.1.0)))

pub returns : goal.returns
returns c =
    let a = c.args in
    let l = a.file.now in
    let p = c.part_at-part in
    c.over.ensures
    ∙ part_passed a.limits l c.requires.0 a.o c.requires.1.0 c.requires.1.1 p.result (subst (λ (n : ℕ). PartAt l n p.result) (add-one a.o) p.ensures)
    ∙ ap (λ (n : ℕ). passed a.limits graph (opened l n)) (sym (add-one a.o))
