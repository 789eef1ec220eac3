use Rattle.std.specs.Prelude.{Err}
use mathlib.Core.Path.{ap, ◌∙◌}
use borrow.Author.Tests.{not-true, not-false}
use Rattle.files.specs.FileKind.{kind_of}
use Rattle.files.proofs.CheckLaws.{one_ragged, one_whole}
use Rattle.files.proofs.check.check.Goals as goal

pub returns-then-not-file : goal.returns-then-not-file
returns-then-not-file c =
    let a = c.args in
    ap Err c.at.ensures ∙ one_ragged a.limits (kind_of a.kind) a.file.now 0 a.position (not-true _ c.if-not-file.true-raw)

pub returns-in_default : goal.returns-in_default
returns-in_default c =
    let a = c.args in
    c.from_two.ensures ∙ one_whole a.limits (kind_of a.kind) a.file.now 0 a.position (not-false _ c.if-not-file.false-raw)
