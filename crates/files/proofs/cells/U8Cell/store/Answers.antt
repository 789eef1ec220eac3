use native.Mathlib.Omega.{arith}
use Rattle.files.specs.Cells.Laws.{put_little_one}
use Rattle.files.proofs.cells.U8Cell.store.Goals as goal

pub returns : goal.returns
returns c = rw (put_little_one c.args.work.now c.args.at c.args.self (omega arith))
