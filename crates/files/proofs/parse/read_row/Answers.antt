use mathlib.Core.Path.{sym, ◌∙◌}
use Rattle.files.specs.Record.Laws.{parsed_kind, told_wrong, told_right}
use Rattle.files.proofs.parse.read_row.Goals as goal

pub returns-then-row_wrong : goal.returns-then-row_wrong
returns-then-row_wrong c = told_wrong _ _ _ (sym c.row_wrong.ensures ∙ c.if-row_wrong.true) ∙ sym (parsed_kind 3 c.args.r c.requires)

pub returns : goal.returns
returns c = told_right _ _ (sym c.row_wrong.ensures ∙ c.if-row_wrong.false) ∙ sym (parsed_kind 3 c.args.r c.requires)
