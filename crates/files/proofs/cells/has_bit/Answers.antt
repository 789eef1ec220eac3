use Rattle.files.specs.Cells.Laws.{has_bit_is}
use Rattle.files.proofs.cells.has_bit.Goals as goal

pub returns : goal.returns
returns c = rw has_bit_is
