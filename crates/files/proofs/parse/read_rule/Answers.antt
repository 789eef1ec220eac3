use mathlib.Core.Path.{sym, ◌∙◌}
use Rattle.files.specs.Record.Laws.{parsed_kind, told_wrong, told_right}
use Rattle.files.proofs.parse.read_rule.Goals as goal

pub returns-then-rule_wrong : goal.returns-then-rule_wrong
returns-then-rule_wrong c = told_wrong _ _ _ (sym c.rule_wrong.ensures ∙ c.if-rule_wrong.true) ∙ sym (parsed_kind 4 c.args.r c.requires)

pub returns : goal.returns
returns c = told_right _ _ (sym c.rule_wrong.ensures ∙ c.if-rule_wrong.false) ∙ sym (parsed_kind 4 c.args.r c.requires)
