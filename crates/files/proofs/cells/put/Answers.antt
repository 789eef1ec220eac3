use Rattle.files.specs.Cells.Laws.{put_cell_little}
use Rattle.files.proofs.cells.put.Goals as goal

pub returns : goal.returns
returns g c = rw put_cell_little (rw c.WIDTH.ensures at c.store.ensures)
