use Rattle.files.specs.Access.Laws.{reads_row}
use Rattle.files.proofs.property.operands_at.Goals as goal

pub returns : goal.returns
returns c = (reads_row c.args.property.now c.requires.0 c.args.r c.requires.1 (c.read-x).result (c.read-x).ensures).1.1
