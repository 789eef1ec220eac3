use mathlib.Core.Path.{◌≡◌}
use Prim.Native.Nat.{ℕ, ◌<◌}
use lib.Dec.{T}
use Rattle.files.specs.Cells.{has_bit}
use Rattle.files.specs.Decode.{decode_graph}
use Rattle.files.specs.Places.{max_nodes}
use Rattle.judging.specs.Refinement.{rel, edge, Shrank}
use Rattle.judging.proofs.refine.drop_lacking_by.Given as goal

abbrev pub invariant-loop-v : goal.invariant-loop-v
invariant-loop-v l = Shrank (decode_graph l.first) (decode_graph l.second) l.initial.work l.work × ((e h : ℕ) → e < l.s.first.edges → (edge (decode_graph l.first) e).label ≡ l.label → (edge (decode_graph l.first) e).to < l.v → h < max_nodes → T (rel l.work (edge (decode_graph l.first) e).from h) → T (has_bit l.gone 0 h) → ⊥)
