use Rattle.files.specs.Cells.Laws.{cell_little}
use Rattle.files.proofs.cells.get.Goals as goal

pub returns : goal.returns
returns g c = rw cell_little (rw c.WIDTH.ensures at c.load.ensures)
