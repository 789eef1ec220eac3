use Rattle.files.specs.Cells.Laws.{little_one}
use Rattle.files.proofs.cells.U8Cell.load.Goals as goal

pub returns : goal.returns
returns c = rw little_one
