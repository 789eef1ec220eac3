use mathlib.Core.Path.{sym, ◌∙◌}
use Rattle.files.specs.Record.Laws.{parsed_kind, told_wrong, told_right}
use Rattle.files.proofs.parse.read_node.Goals as goal

pub returns-then-node_wrong : goal.returns-then-node_wrong
returns-then-node_wrong c = told_wrong _ _ _ (sym c.node_wrong.ensures ∙ c.if-node_wrong.true) ∙ sym (parsed_kind 1 c.args.r c.requires)

pub returns : goal.returns
returns c = told_right _ _ (sym c.node_wrong.ensures ∙ c.if-node_wrong.false) ∙ sym (parsed_kind 1 c.args.r c.requires)
