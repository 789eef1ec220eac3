-- "5: limit on nodes, edges .. passed": a graph that a file could hold but for the limits is refused by 5, and by nothing lower. Assumes nothing.
use Rattle.std.specs.Prelude.{◌≡◌, refl, ◌⊎◌, List, ℕ, zero, suc, ◌<◌, length}
use Rattle.std.proofs.Common.{inl, inr, not-suc-le-zero, arith}
use Rattle.std.proofs.Math.Option.{some}
use Rattle.files.specs.Decode.{Filed, graph_bytes}
use Rattle.files.specs.Decode.Accepted.{accepted_bytes}
use Rattle.files.specs.Decode.Written.{nodes_bytes, edges_bytes}
use Rattle.files.specs.Graph.{Graph, size}
use Rattle.files.specs.Refusal.{Kind, graph, refusal}
use Rattle.files.specs.Refusal.Laws.{accepted_iff, refused_iff}
use Rattle.files.specs.Table.{Applies, Passed}
use Rattle.files.specs.declared.record.Limits.{Limits}

-- numbers 1 to 4 ask nothing of the limits
any_limits : (L M : Limits) (k : Kind) (l : List ℕ) (n i : ℕ) → n < 5 → Applies L k l n i → Applies M k l n i
any_limits L M k l zero i h a = a
any_limits L M k l (suc zero) i h a = a
any_limits L M k l (suc (suc zero)) i h a = a
any_limits L M k l (suc (suc (suc zero))) i h a = a
any_limits L M k l (suc (suc (suc (suc zero)))) i h a = a
any_limits L M k l (suc (suc (suc (suc (suc n))))) i h a = absurd (omega arith)

-- refused in the limits L; M are limits that hold the graph
pub crowded_refused : (L M : Limits) (G : Graph) → Filed M G → (L.nodes < size G) ⊎ (L.edges < length G.edges) → refusal L graph (graph_bytes G) ≡ some (5, 0)
crowded_refused L M G filed crowded =
    (refused_iff L graph (graph_bytes G) 5 0).1
    (record { from_k = omega arith; applies = (refl, passed crowded); first_record = λ j h a. not-suc-le-zero h; least_number = λ n h below i a. nothing_lower n i below a })
  where
    passed : (L.nodes < size G) ⊎ (L.edges < length G.edges) → Passed L graph (graph_bytes G)
    passed (inl h) = inl (omega (arith, nodes_bytes G))
    passed (inr h) = inr (omega (arith, edges_bytes G))

    nothing_lower : (n i : ℕ) → n < 5 → Applies L graph (graph_bytes G) n i → ⊥
    nothing_lower n i below a = (accepted_iff M graph (graph_bytes G)).0 (accepted_bytes M G filed) n i (any_limits L M graph (graph_bytes G) n i below a)
