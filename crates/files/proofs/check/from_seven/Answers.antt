-- what the scan found decides the steps from number 7 on
use Rattle.std.proofs.Common.{ℕ, ap, ◌∙◌}
use Rattle.files.specs.FileKind.{kind_of}
use Rattle.files.specs.Record.{count}
use Rattle.files.specs.Outcome.{Accepted}
use Rattle.files.specs.Settling.Laws.{handed_on}
use Rattle.files.proofs.CheckLaws.{seven_scan}
use Rattle.files.proofs.check.from_seven.Goals as goal

pub returns-in_err-name_through : goal.returns-in_err-name_through
returns-in_err-name_through c =
    let a = c.args in
    handed_on c.from_residual.result c.from_residual.ensures.1
    ∙ seven_scan (kind_of a.kind) a.records.now a.first a.position a.apart _ c.requires.1.0 c.in_err-name_through.ensures

pub returns : goal.returns
returns c =
    let a = c.args in
    ap (λ (n : ℕ). Accepted n (count a.records.now)) c.nodes.ensures
    ∙ seven_scan (kind_of a.kind) a.records.now a.first a.position a.apart _ c.requires.1.0 c.in_ok-name_through.ensures
