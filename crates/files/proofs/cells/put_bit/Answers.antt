use Prim.Native.Nat.{◌%◌}
use native.Mathlib.Omega.{arith}
use Rattle.files.specs.Cells.Laws.{put_bit_is, weight}
use Rattle.files.proofs.cells.put_bit.Goals as goal

pub returns : goal.returns
returns c = rw (weight (c.args.h % 8) (omega arith), put_bit_is)
