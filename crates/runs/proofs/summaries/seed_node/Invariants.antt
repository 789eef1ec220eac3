use Prim.Native.Nat.{ℕ, ◌<◌}
use lib.Dec.{T}
use Rattle.files.specs.Decode.{decode_graph, decode_rules}
use Rattle.files.specs.Rules.{watch}
use Rattle.maximal.specs.Masks.{member}
use Rattle.runs.specs.Worklist.{reach, Grew}
use Rattle.runs.proofs.summaries.seed_node.Given as goal

abbrev pub invariant-loop-p : goal.invariant-loop-p
invariant-loop-p l =
    (Grew (decode_graph l.graph) (watch (decode_rules l.rules)) l.tail l.end l.initial.work l.work) × ((i : ℕ) → i < l.p → T (member (reach l.work l.g i) i))
