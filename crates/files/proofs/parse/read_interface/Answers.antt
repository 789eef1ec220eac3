use mathlib.Core.Path.{sym, ◌∙◌}
use Rattle.files.specs.Record.Laws.{parsed_kind, told}
use Rattle.files.proofs.parse.read_interface.Goals as goal

pub returns-then-interface_wrong : goal.returns-then-interface_wrong
returns-then-interface_wrong c = told _ _ _ (sym c.interface_wrong.ensures ∙ c.if-interface_wrong.true) ∙ sym (parsed_kind 5 c.args.r c.requires)

pub returns : goal.returns
returns c = told _ _ _ (sym c.interface_wrong.ensures ∙ c.if-interface_wrong.false) ∙ sym (parsed_kind 5 c.args.r c.requires)
