use mathlib.Core.Path.{◌≡◌}
use Prim.Native.Nat.{ℕ, ◌%◌, ◌<◌}
use Rattle.files.specs.Cells.{cell}
use Rattle.judging.specs.Chains.{Outside}
use Rattle.runs.specs.Regions.{firsts_base, monitor_base}
use Rattle.runs.proofs.prepare.start_steps.Given as goal

abbrev pub invariant-loop-i : goal.invariant-loop-i
invariant-loop-i l = ((u : ℕ) → u < l.i → cell l.work monitor_base 1 u ≡ u % 8) × (Outside monitor_base firsts_base l.initial.work l.work)
