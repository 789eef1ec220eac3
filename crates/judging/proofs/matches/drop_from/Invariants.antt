use mathlib.Core.Path.{◌≡◌}
use Prim.Native.Nat.{ℕ, ◌<◌}
use lib.Dec.{T}
use lib.ListN.{length}
use Rattle.files.specs.Decode.{decode_graph}
use Rattle.files.specs.Places.{max_nodes}
use Rattle.judging.specs.Chains.Laws.{Walk}
use Rattle.judging.specs.Refinement.{rel, edge, labelled_into, In, Shrank}
use Rattle.judging.proofs.matches.drop_from.Given as goal

abbrev pub invariant-loop-at : goal.invariant-loop-at
invariant-loop-at l = (length l.work ≡ length l.initial.work) × Shrank (decode_graph l.first) (decode_graph l.second) l.initial.work l.work × Walk (labelled_into (decode_graph l.first) l.slot) (length (decode_graph l.first).edges) l.at (λ e. (h : ℕ) → h < max_nodes → T (rel l.work (edge (decode_graph l.first) e).from h) → In l.gone h → ⊥)

abbrev pub decreases-loop-at : goal.decreases-loop-at
decreases-loop-at l = l.at
