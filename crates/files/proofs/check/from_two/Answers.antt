-- what the scan found decides the steps from number 2 on
use Rattle.std.proofs.Common.{sym, ◌∙◌}
use Rattle.files.specs.FileKind.{kind_of}
use Rattle.files.specs.Checking.Laws.{unfound_sound}
use Rattle.files.specs.Settling.Laws.{handed_on}
use Rattle.files.proofs.CheckLaws.{two_scan}
use Rattle.files.proofs.check.from_two.Goals as goal

pub from_five-requires : goal.from_five-requires
from_five-requires c =
    let a = c.args in
    (unfound_sound (kind_of a.kind) a.records.now a.first a.position (sym c.in_ok-look_through.ensures), c.requires)

pub returns-in_err-look_through : goal.returns-in_err-look_through
returns-in_err-look_through c =
    let a = c.args in
    handed_on c.from_residual.result c.from_residual.ensures.1
    ∙ two_scan a.limits (kind_of a.kind) a.records.now a.first a.position _ c.in_err-look_through.ensures

pub returns : goal.returns
returns c =
    let a = c.args in
    c.from_five.ensures ∙ two_scan a.limits (kind_of a.kind) a.records.now a.first a.position _ c.in_ok-look_through.ensures
