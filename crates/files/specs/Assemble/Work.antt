-- What the code of assembling comes to: where the checks pass, the file is accepted; what it counts of the standing graph.
use Rattle.std.specs.Prelude.{◌≡◌, refl, false, List, ℕ, ◌≤◌, T, length}
use Rattle.std.proofs.Common.{subst}
use Rattle.files.specs.Assemble.{standing_graph, assemble_first, DeliveriesFile, assemble_said, from_standing, assembled_outcome}
use Rattle.files.specs.Deliveries.{decode_deliveries, repeated, Repeated}
use Rattle.files.specs.Deliveries.Repeats.{says_repeated}
use Rattle.files.specs.Graph.{size}
use Rattle.files.specs.Outcome.{answered, whole_check, Passed}
use Rattle.files.specs.Places.{max_edges, max_nodes}
use Rattle.files.specs.Settling.{Settles}
use Rattle.files.specs.Settling.Laws.{delivery_known, whole_known}
use Rattle.files.specs.declared.record.Limits.{Limits}
use Rattle.files.specs.declared.view.GraphView.{GraphView}

pub assembled_outcome_is : (L : Limits) (l : List ℕ) (out : ℕ) → assembled_outcome L l out ≡ answered (assemble_first L l (from_standing L l out)) (assemble_said L l out)
unfolding assembled_outcome
assembled_outcome_is L l out = refl

-- ---- the checks before the standing graph

-- where 14 passes, no two deliveries are alike
pub not_repeated : (l : List ℕ) → repeated (decode_deliveries l) ≡ false → Repeated (decode_deliveries l) → ⊥
not_repeated l e x = subst T e ((says_repeated (decode_deliveries l)).hear x)

pub assemble_known : (L : Limits) (l : List ℕ) → L.nodes ≤ max_nodes → L.edges ≤ max_edges → Settles (assemble_first L l) Passed → DeliveriesFile l
assemble_known L l n e s =
    let a = delivery_known (λ cs. whole_check 14 (repeated (decode_deliveries l)) cs) L 1 l s in
    let b = whole_known (λ cs. cs) 14 (repeated (decode_deliveries l)) a.1 in
    record { limits = L; nodes_fit = n; edges_fit = e; taken = record { no_number = a.0; no_repeat = not_repeated l b.0 } }

-- ---- the standing graph

-- the counts are those of the standing graph
pub record Counts (l : List ℕ) (v : GraphView) : Type 0 where
  pub nodes_are : v.nodes ≡ size (standing_graph l)
  pub edges_are : v.edges ≡ length (standing_graph l).edges
