use Rattle.files.specs.Decode.{decode_rules}
use Rattle.files.specs.Rules.{watch}
use Rattle.runs.specs.Worklist.{sums}
use Rattle.runs.proofs.SummaryLaws.{passed_by}
use Rattle.runs.proofs.sets.pass.Goals as goal

pub returns : goal.returns
returns c =
    let a = c.args in
    passed_by (watch (decode_rules a.rules.now)) (sums a.table.now) a.caller a.label a.x c.step_set-entered.result c.sum_set-returned.result c.step_set.result
    c.step_set-entered.ensures c.sum_set-returned.ensures c.step_set.ensures
