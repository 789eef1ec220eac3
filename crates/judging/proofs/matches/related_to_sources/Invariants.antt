use mathlib.Core.Path.{◌≡◌}
use Prim.Native.Nat.{ℕ, ◌<◌}
use lib.Dec.{T}
use lib.ListN.{length}
use Rattle.files.specs.Decode.{decode_graph}
use Rattle.files.specs.Places.{line_bytes, max_nodes}
use Rattle.judging.specs.Chains.Laws.{Walk}
use Rattle.judging.specs.Refinement.{rel, edge, labelled_into, In, Within}
use Rattle.judging.proofs.matches.related_to_sources.Given as goal

abbrev pub invariant-loop-at : goal.invariant-loop-at
invariant-loop-at l = (length l.found ≡ line_bytes) × Within l.s.second.nodes l.found × Walk (labelled_into (decode_graph l.first) l.slot) (length (decode_graph l.first).edges) l.at (λ e. (h : ℕ) → h < max_nodes → T (rel l.work (edge (decode_graph l.first) e).from h) → In l.found h)

abbrev pub decreases-loop-at : goal.decreases-loop-at
decreases-loop-at l = l.at
