use mathlib.Core.Path.{refl, ap, subst, ◌∙◌}
use mathlib.Core.Logic.{inl, inr}
use Rattle.files.specs.FileKind.{kind_of}
use Rattle.files.specs.Checking.{bound_of, Sound}
use Rattle.files.specs.Checking.Laws.{counted_is, named_is}
use Rattle.files.specs.declared.offence.FileKind.{FileKind}
use Rattle.files.proofs.naming.name.Goals as goal

pub name_nodes-requires : goal.name_nodes-requires
name_nodes-requires c =
    let l = c.args.records.now in
    let e = c.in-Graph.is in
    (subst (λ (k : FileKind). Sound (kind_of k) l) e c.requires.0, (c.requires.1.0 ∙ ap (λ (k : FileKind). bound_of (kind_of k) l) e ∙ counted_is _ l, (c.requires.1.1.0, c.requires.1.1.1)))

pub returns-in-Rules : goal.returns-in-Rules
returns-in-Rules c =
    let a = c.args in
    elim c.in-Rules.is [ inl e ↦ rw (e, named_is _ a.records.now a.first a.position a.i) refl | inr e ↦ rw (e, named_is _ a.records.now a.first a.position a.i) refl ]
