use mathlib.Core.Path.{◌≡◌}
use lib.ListN.{length}
use Rattle.files.specs.Places.{line_bytes}
use Rattle.judging.specs.Refinement.{Lacking}
use Rattle.judging.proofs.refine.lacking.Given as goal

abbrev pub invariant-loop-x : goal.invariant-loop-x
invariant-loop-x l = (length l.row ≡ line_bytes) × Lacking l.work l.label l.x l.row
