use native.Mathlib.Omega.{arith}
use Rattle.files.specs.Cells.Laws.{little_four}
use Rattle.files.proofs.cells.U32Cell.load.Goals as goal

pub returns : goal.returns
returns c = omega (arith, little_four c.args.work.now c.args.at, c.from_le_bytes.ensures)
