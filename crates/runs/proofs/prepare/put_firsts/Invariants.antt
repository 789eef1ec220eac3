use mathlib.Core.Path.{◌≡◌}
use Prim.Native.Nat.{ℕ, ◌+◌, ◌<◌}
use Rattle.files.specs.Access.{first_edge}
use Rattle.files.specs.Cells.{cell}
use Rattle.files.specs.Decode.{decode_graph}
use Rattle.judging.specs.Chains.{Outside}
use Rattle.runs.specs.Regions.{firsts_base, label_heads_base}
use Rattle.runs.proofs.prepare.put_firsts.Given as goal

abbrev pub invariant-loop-g : goal.invariant-loop-g
invariant-loop-g l =
    (l.first ≡ first_edge (decode_graph l.graph) l.g)
    × ((u : ℕ) → u < l.g + 1 → cell l.work firsts_base 2 u ≡ first_edge (decode_graph l.graph) u)
    × (Outside firsts_base label_heads_base l.initial.work l.work)
