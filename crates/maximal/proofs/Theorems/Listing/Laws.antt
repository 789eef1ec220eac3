-- The theorems of specs/Listing/Laws that rest on a definition which a must-fail edit turns: there they could not be read under the edit.
-- Laws: A model that stands in the buffer is the definition's: its nodes and edges by the states' order, their bytes, and how many edges there are.
use Rattle.std.specs.Prelude.{◌≡◌, List, [], ◌∷◌, ◌++◌, map, length, get_or}
use Rattle.std.proofs.Math.Path.{refl, ap}
use Rattle.std.proofs.Common.{sym, ap₂, ◌∙◌, arith, length-append}
use Prim.Native.Nat.{ℕ, ◌+◌, ◌*◌, ◌<◌}
use Rattle.std.proofs.lemmas.List.{length-map}
use Rattle.files.specs.Basics.Lists.{keep, each, each_map, span, length_each}
use Rattle.files.specs.Decode.{graph_bytes, node_rec, edge_rec}
use Rattle.files.specs.Decode.Written.{graph_bytes_is}
use Rattle.files.specs.Graph.{Edge, Node, size}
use Rattle.files.specs.Interface.{Interface}
use Rattle.files.specs.Places.{record_len}
use Rattle.files.specs.Property.{Row, Property}
use Rattle.files.specs.Record.{six, write}
use Rattle.maximal.specs.Charting.{order_at, Arranged, in_order}
use Rattle.maximal.proofs.Theorems.Charting.Order.{states_in_order, states_many, state_in_order}
use Rattle.maximal.specs.Listing.{leads, node_bytes}
use Rattle.maximal.specs.Model.{State, no_state, is_next, states, model}
use Rattle.maximal.specs.Model.Computed.{model_size}
use Rattle.maximal.specs.Model.Listed.{made_node, made_edge, model_nodes, model_edges}
use Rattle.maximal.specs.Listing.Laws.{each_each, each_same, edges_bytes, edges_length, keep_same, node_is, nodes_length, total}

module _ (I : Interface) (P : List Row) (wf : Property P) (c : ℕ) (w : List ℕ) (x : Arranged I P c w) where
  leads_is : (i l j : ℕ) → i < c → l < 9 → j < c → is_next I P (get_or (states I P) i no_state) l (get_or (states I P) j no_state) ≡ leads w i l j
  leads_is i l j hi hl hj =
      ap₂ (λ (s t : State). is_next I P s l t) (state_in_order I P wf c w x i hi) (state_in_order I P wf c w x j hj)
      ∙ sym (x.charted.follows_are (order_at w i) l (order_at w j) (x.ordered.below i hi) hl (x.ordered.below j hj))

  edges_are : (model I P).edges ≡ each (λ (i : ℕ). each (λ (l : ℕ). map (made_edge I P i l) (keep (leads w i l) (span 0 c))) (span 0 9)) (span 0 c)
  edges_are =
      model_edges I P
      ∙ ap (λ (m : ℕ). each (λ (i : ℕ). each (λ (l : ℕ). map (made_edge I P i l) (keep (λ (j : ℕ). is_next I P (get_or (states I P) i no_state) l (get_or (states I P) j no_state)) (span 0 m))) (span 0 9)) (span 0 m)) (states_many I P wf c w x)
      ∙ each_same _ _ 0 c (λ i a b. each_same _ _ 0 9 (λ l d e. ap (map (made_edge I P i l)) (keep_same _ (leads w i l) 0 c (λ j f g. leads_is i l j (omega arith) (omega arith) (omega arith)))))

  pub edge_bytes_are : write (map edge_rec (model I P).edges) ≡ edges_bytes w c c
  edge_bytes_are =
      ap (λ (es : List Edge). write (map edge_rec es)) edges_are
      ∙ each_map six edge_rec (each (λ (i : ℕ). each (λ (l : ℕ). map (made_edge I P i l) (keep (leads w i l) (span 0 c))) (span 0 9)) (span 0 c))
      ∙ each_each (λ (e : Edge). six (edge_rec e)) (λ (i : ℕ). each (λ (l : ℕ). map (made_edge I P i l) (keep (leads w i l) (span 0 c))) (span 0 9)) (span 0 c)
      ∙ each_same _ _ 0 c (λ i a b. each_each (λ (e : Edge). six (edge_rec e)) (λ (l : ℕ). map (made_edge I P i l) (keep (leads w i l) (span 0 c))) (span 0 9)
      ∙ each_same _ _ 0 9 (λ l d e. each_map (λ (e : Edge). six (edge_rec e)) (made_edge I P i l) (keep (leads w i l) (span 0 c))))

  pub node_bytes_are : write (map node_rec (model I P).nodes) ≡ each (node_bytes w) (span 0 c)
  node_bytes_are =
      ap (λ (ns : List Node). write (map node_rec ns)) (model_nodes I P ∙ ap (map (made_node I P)) (states_in_order I P wf c w x))
      ∙ each_nodes (span 0 c) ∙ each_same _ _ 0 c (λ i a b. (node_is I P wf c w x) i (omega arith))
    where
      each_nodes : (is : List ℕ) → each six (map node_rec (map (made_node I P) (map (in_order I P w) is))) ≡ each (λ (i : ℕ). six (node_rec (made_node I P (in_order I P w i)))) is
      each_nodes [] = refl
      each_nodes (i ∷ is) = ap (λ (ys : List ℕ). six (node_rec (made_node I P (in_order I P w i))) ++ ys) (each_nodes is)

  -- the bytes of the model: those of its nodes, then those of its edges
  pub model_bytes : graph_bytes (model I P) ≡ each (node_bytes w) (span 0 c) ++ edges_bytes w c c
  model_bytes = graph_bytes_is (model I P) ∙ ap₂ ◌++◌ node_bytes_are edge_bytes_are

  -- how many nodes and edges it has
  pub model_nodes_many : size (model I P) ≡ c
  model_nodes_many = model_size I P wf ∙ states_many I P wf c w x

  pub model_edges_many : length (model I P).edges ≡ total w c c
  model_edges_many =
      let a = length_each 6 six (λ r. refl) (map edge_rec (model I P).edges) in
      let b = length-map (model I P).edges edge_rec in
      let d : length (write (map edge_rec (model I P).edges)) ≡ record_len * total w c c = ap length edge_bytes_are ∙ edges_length w c c in
      omega (arith, a, b, d)

  pub model_length : length (graph_bytes (model I P)) ≡ record_len * (c + length (model I P).edges)
  model_length =
      ap length model_bytes ∙ length-append (each (node_bytes w) (span 0 c)) (edges_bytes w c c)
      ∙ omega (arith, nodes_length w c, edges_length w c c, model_edges_many)
