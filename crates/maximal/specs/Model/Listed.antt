-- The model's nodes and edges as lists over its states.
use Rattle.std.specs.Prelude.{◌≡◌, List, map, ℕ, length, get_or}
use Rattle.std.proofs.Math.Path.{refl}
use Rattle.files.specs.Basics.Lists.{keep, each, span}
use Rattle.files.specs.Graph.{Node, Edge}
use Rattle.files.specs.Interface.{Interface}
use Rattle.files.specs.Property.{Row}
use Rattle.maximal.specs.Model.{State, no_state, is_entry, is_next, states, edges_between, graph_of, model}

module _ (I : Interface) (P : List Row) where
  abbrev pub made_node : State → Node
  made_node s = record { method = s.method; ret = s.flag; entry = is_entry I P s }

  abbrev pub made_edge : ℕ → ℕ → ℕ → Edge
  made_edge i l j = record { from = i; label = l; to = j }

  pub model_nodes : (model I P).nodes ≡ map made_node (states I P)
  unfolding model graph_of
  model_nodes = refl

  pub model_edges : (model I P).edges
      ≡ each (λ (i : ℕ). each (λ (l : ℕ). map (made_edge i l) (keep (λ (j : ℕ). is_next I P (get_or (states I P) i no_state) l (get_or (states I P) j no_state)) (span 0 (length (states I P))))) (span 0 9)) (span 0 (length (states I P)))
  unfolding model graph_of edges_between
  model_edges = refl
