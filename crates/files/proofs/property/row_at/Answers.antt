use mathlib.Core.Path.{◌∙◌}
use Rattle.files.specs.Access.Laws.{reads_row}
use Rattle.files.proofs.property.row_at.Goals as goal

pub returns : goal.returns
returns c = c.row_by.ensures ∙ (reads_row c.args.property.now c.requires.0 c.args.r c.requires.1 c.read.result c.read.ensures).0
