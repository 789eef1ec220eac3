use mathlib.Core.Path.{sym, ◌∙◌}
use Rattle.files.specs.Record.Laws.{parsed_kind, told_wrong, told_right}
use Rattle.files.proofs.parse.read_edge.Goals as goal

pub returns-then-edge_wrong : goal.returns-then-edge_wrong
returns-then-edge_wrong c = told_wrong _ _ _ (sym c.edge_wrong.ensures ∙ c.if-edge_wrong.true) ∙ sym (parsed_kind 2 c.args.r c.requires)

pub returns : goal.returns
returns c = told_right _ _ (sym c.edge_wrong.ensures ∙ c.if-edge_wrong.false) ∙ sym (parsed_kind 2 c.args.r c.requires)
