-- The joined graph in bytes, part by part, as the code stores them: the first graph's nodes, the second's, the first's edges, the second's moved.
use Rattle.std.specs.Prelude.{◌≡◌, List, ◌++◌, map, ℕ, ◌+◌, ◌*◌, ◌≤◌, length, take}
use Rattle.std.proofs.Common.{sym, ap, ap₂, ◌∙◌, append_assoc, arith, length-append, length-take-le}
use Rattle.std.proofs.lemmas.List.{map-append, length-map}
use Rattle.files.specs.Basics.Lists.{each_append}
use Rattle.files.specs.Cells.{put_at}
use Rattle.files.specs.Decode.{decode_graph, node_rec, edge_rec, graph_bytes}
use Rattle.files.specs.Decode.Canonical.{nodes_written, edges_written}
use Rattle.files.specs.Decode.Graphs.{few}
use Rattle.files.specs.Decode.Written.{graph_bytes_is, length_write}
use Rattle.files.specs.Graph.{Graph, Edge, size}
use Rattle.files.specs.Places.{record_len}
use Rattle.files.specs.Record.{part, six, write}
use Rattle.judging.specs.Refinement.{Both}
use Rattle.judging.specs.Refinement.Files.{first_size, second_size, first_edges}
use Rattle.judging.specs.Sheets.Walk.{put_next}
use Rattle.judging.specs.declared.sizes.Sizes.{Sizes}
use Rattle.files.specs.Join.{join, moved}
use Rattle.files.specs.Join.Laws.{join_is}

-- ---- all parts

join_parts : (K G : Graph)
    → graph_bytes (join K G)
    ≡ write (map node_rec K.nodes) ++ write (map node_rec G.nodes) ++ write (map edge_rec K.edges) ++ write (map edge_rec (map (moved (size K)) G.edges))
join_parts K G =
    let es = map (moved (size K)) G.edges in
    ap graph_bytes (join_is K G)
    ∙ graph_bytes_is (record { nodes = K.nodes ++ G.nodes; edges = K.edges ++ es })
    ∙ ap₂ ◌++◌ (ap write (map-append node_rec K.nodes G.nodes) ∙ each_append six (map node_rec K.nodes) (map node_rec G.nodes))
    (ap write (map-append edge_rec K.edges es) ∙ each_append six (map edge_rec K.edges) (map edge_rec es))
    ∙ sym (append_assoc (write (map node_rec K.nodes) ++ write (map node_rec G.nodes)) (write (map edge_rec K.edges)) (write (map edge_rec es)))

-- four runs stored one after another are one run
four_runs : (out a b c d : List ℕ) (p q r : ℕ) → p ≡ length a → q ≡ p + length b → r ≡ q + length c
    → put_at (put_at (put_at (put_at out 0 a) p b) q c) r d ≡ put_at out 0 (a ++ b ++ c ++ d)
four_runs out a b c d p q r ep eq er =
    let two : q ≡ length (a ++ b) = omega (arith, ep, eq, length-append a b) in
    let three : r ≡ length (a ++ b ++ c) = omega (arith, er, two, length-append (a ++ b) c) in
    ap (λ (l : List ℕ). put_at (put_at l q c) r d) (ap (λ (k : ℕ). put_at (put_at out 0 a) k b) ep ∙ put_next out a b)
    ∙ ap (λ (l : List ℕ). put_at l r d) (ap (λ (k : ℕ). put_at (put_at out 0 (a ++ b)) k c) two ∙ put_next out (a ++ b) c)
    ∙ ap (λ (k : ℕ). put_at (put_at out 0 (a ++ b ++ c)) k d) three
    ∙ put_next out (a ++ b ++ c) d

module _ (s : Sizes) (f g : List ℕ) (both : Both s f g) where
  abbrev K : Graph
  K = decode_graph f

  abbrev G : Graph
  G = decode_graph g

  -- the parts stand in their files
  pub first_room : record_len * (s.first.nodes + s.first.edges) ≤ length f
  first_room = omega (arith, both.first_held.views.nodes_are, both.first_held.views.edges_are, few both.first_held.views.graph_file.limits f both.first_held.views.graph_file.accepted)

  pub first_cut : length (take (record_len * s.first.nodes) f) ≡ record_len * s.first.nodes
  first_cut = length-take-le (record_len * s.first.nodes) f (omega (arith, first_room))

  pub second_cut : length (take (record_len * s.second.nodes) g) ≡ record_len * s.second.nodes
  second_cut = length-take-le (record_len * s.second.nodes) g (omega (arith, both.second_held.views.nodes_are, few both.second_held.views.graph_file.limits g both.second_held.views.graph_file.accepted))

  abbrev all_moved : List ℕ
  all_moved = write (map edge_rec (map (moved s.first.nodes) G.edges))

  nodes_first : take (record_len * s.first.nodes) f ≡ write (map node_rec K.nodes)
  nodes_first = ap (λ (n : ℕ). take (record_len * n) f) both.first_held.views.nodes_are ∙ nodes_written both.first_held.views.graph_file.limits f both.first_held.views.graph_file.accepted

  nodes_second : take (record_len * s.second.nodes) g ≡ write (map node_rec G.nodes)
  nodes_second = ap (λ (n : ℕ). take (record_len * n) g) both.second_held.views.nodes_are ∙ nodes_written both.second_held.views.graph_file.limits g both.second_held.views.graph_file.accepted

  edges_first : part f s.first.nodes s.first.edges ≡ write (map edge_rec K.edges)
  edges_first = ap₂ (part f) both.first_held.views.nodes_are both.first_held.views.edges_are ∙ edges_written both.first_held.views.graph_file.limits f both.first_held.views.graph_file.accepted

  edges_second : all_moved ≡ write (map edge_rec (map (moved (size K)) G.edges))
  edges_second = ap (λ (n : ℕ). write (map edge_rec (map (moved n) G.edges))) (sym (first_size s f g both))

  abbrev node_run : Graph → List ℕ
  node_run H = write (map node_rec H.nodes)

  abbrev edge_run : List Edge → List ℕ
  edge_run es = write (map edge_rec es)

  node_run_length : (H : Graph) → length (node_run H) ≡ record_len * size H
  node_run_length H = omega (arith, length_write (map node_rec H.nodes), length-map H.nodes node_rec)

  edge_run_length : (es : List Edge) → length (edge_run es) ≡ record_len * length es
  edge_run_length es = omega (arith, length_write (map edge_rec es), length-map es edge_rec)

  -- the four parts, stored one after another, are the joined graph
  pub join_stored : (out o₁ o₂ o₃ o₄ c : List ℕ) → o₁ ≡ put_at out 0 (take (record_len * s.first.nodes) f) → o₂ ≡ put_at o₁ (record_len * s.first.nodes) (take (record_len * s.second.nodes) g)
      → o₃ ≡ put_at o₂ (record_len * s.first.nodes + record_len * s.second.nodes) c → c ≡ part f s.first.nodes s.first.edges → o₄ ≡ put_at o₃ (record_len * (s.first.nodes + s.second.nodes + s.first.edges)) all_moved
      → o₄ ≡ put_at out 0 (graph_bytes (join K G))
  join_stored out o₁ o₂ o₃ o₄ c e₁ e₂ e₃ e e₄ =
      let d : List ℕ = edge_run (map (moved (size K)) G.edges) in
      let p : ℕ = record_len * s.first.nodes in
      let q : ℕ = record_len * s.first.nodes + record_len * s.second.nodes in
      let r : ℕ = record_len * (s.first.nodes + s.second.nodes + s.first.edges) in
      let one : o₁ ≡ put_at out 0 (node_run K) = e₁ ∙ ap (put_at out 0) nodes_first in
      let two : o₂ ≡ put_at (put_at out 0 (node_run K)) p (node_run G) = e₂ ∙ ap₂ (λ (l m : List ℕ). put_at l p m) one nodes_second in
      let three : o₃ ≡ put_at (put_at (put_at out 0 (node_run K)) p (node_run G)) q (edge_run K.edges) = e₃ ∙ ap₂ (λ (l m : List ℕ). put_at l q m) two (e ∙ edges_first) in
      e₄
      ∙ ap₂ (λ (l m : List ℕ). put_at l r m) three edges_second
      ∙ four_runs out (node_run K) (node_run G) (edge_run K.edges) d p q r
      (omega (arith, node_run_length K, first_size s f g both)) (omega (arith, node_run_length G, second_size s f g both)) (omega (arith, edge_run_length K.edges, first_edges s f g both))
      ∙ ap (put_at out 0) (sym (join_parts K G))
