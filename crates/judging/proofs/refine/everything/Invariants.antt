use mathlib.Core.Path.{◌≡◌}
use Prim.Native.Nat.{ℕ, ◌<◌}
use lib.Dec.{ltb}
use lib.ListN.{length}
use Rattle.files.specs.Cells.{has_bit}
use Rattle.files.specs.Places.{line_bytes, max_nodes}
use Rattle.judging.proofs.refine.everything.Given as goal

abbrev pub invariant-loop-x : goal.invariant-loop-x
invariant-loop-x l = (length l.row ≡ line_bytes) × ((h : ℕ) → h < max_nodes → has_bit l.row 0 h ≡ ltb h l.x)
