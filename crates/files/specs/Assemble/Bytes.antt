-- The bytes of the standing graph as the code writes them: the nodes of methods 1 to 8, then the edges of methods 1 to 8, each counted on from the nodes before its own.
use Rattle.std.specs.Prelude.{◌≡◌, refl, List, [], ◌∷◌, map, ℕ, ◌+◌, ◌-◌, ◌*◌, ◌≤◌, length, take, drop}
use Rattle.std.proofs.Common.{sym, ap, ap₂, subst, ◌∙◌, zero-add, arith, length-append, take-take}
use Rattle.std.proofs.lemmas.List.{length-map}
use Rattle.files.specs.Assemble.Stood.{StandsAt, part_bytes, part_view, node_count, nodes_end, each_one, length_more, some_of_all}
use Rattle.files.specs.Basics.Lists.{each, span}
use Rattle.files.specs.Cells.{put_at}
use Rattle.files.specs.Cells.Laws.{put_after}
use Rattle.files.specs.Cells.Wrote.{Wrote, wrote_more}
use Rattle.files.specs.Decode.{decode_graph, graph_bytes, node_rec, edge_rec}
use Rattle.files.specs.Decode.Canonical.{nodes_written}
use Rattle.files.specs.Decode.Written.{length_write}
use Rattle.files.specs.Deliveries.{Delivery, decode_deliveries, assembled}
use Rattle.files.specs.Deliveries.Layout.{body_at, nodes_at, nodes_among, edges_at, assembled_sizes, assembled_bytes}
use Rattle.files.specs.Graph.{Graph, size}
use Rattle.files.specs.Join.{moved}
use Rattle.files.specs.Places.{record_len}
use Rattle.files.specs.Record.{write}
use Rattle.files.specs.View.{Views}
use Rattle.files.specs.declared.parts.Part.{Part}
use Rattle.files.specs.declared.record.Record.{Record}

-- ---- one method

-- the bytes that the code cuts out: its nodes, and the whole part
module _ (l : List ℕ) (m : ℕ) (p : Part) (at : StandsAt l m p) where
  abbrev node_run : List ℕ
  node_run = take (record_len * (p.start + p.nodes) - record_len * p.start) (drop (record_len * p.start) l)

  abbrev body_run : List ℕ
  body_run = take (record_len * p.end - record_len * p.start) (drop (record_len * p.start) l)

  pub node_cut : node_run ≡ write (map node_rec (nodes_at (decode_deliveries l) m))
  node_cut =
      let k : record_len * (p.start + p.nodes) - record_len * p.start ≡ record_len * p.nodes = omega arith in
      let within : record_len * p.nodes ≤ record_len * (p.end - p.start) = omega (arith, nodes_end at) in
      let views = at.held.views in
      ap (λ (q : ℕ). take q (drop (record_len * p.start) l)) k
      ∙ sym (take-take (record_len * p.nodes) (record_len * (p.end - p.start)) (drop (record_len * p.start) l) within)
      ∙ ap (λ (n : ℕ). take (record_len * n) (part_bytes l p)) views.nodes_are
      ∙ nodes_written views.graph_file.limits (part_bytes l p) views.graph_file.accepted
      ∙ ap (λ (G : Graph). write (map node_rec G.nodes)) at.is_body

  pub node_cut_length : length node_run ≡ record_len * p.nodes
  node_cut_length =
      omega (arith, ap length node_cut, length_write (map node_rec (nodes_at (decode_deliveries l) m)), length-map (nodes_at (decode_deliveries l) m) node_rec, node_count at)

  body_cut : body_run ≡ part_bytes l p
  body_cut = let k : record_len * p.end - record_len * p.start ≡ record_len * (p.end - p.start) = omega arith in ap (λ (q : ℕ). take q (drop (record_len * p.start) l)) k

  pub body_views : Views (part_view p) body_run
  body_views = subst (Views (part_view p)) (sym body_cut) at.held.views

  -- its edges, counted on from so many nodes, are those that the standing graph has of it
  pub body_moved : (before : ℕ) → before ≡ nodes_among (decode_deliveries l) 1 (m - 1) → write (map edge_rec (map (moved before) (decode_graph body_run).edges)) ≡ write (map edge_rec (edges_at (decode_deliveries l) 0 1 m))
  body_moved before e =
      ap₂ (λ (n : ℕ) (G : Graph). write (map edge_rec (map (moved n) G.edges))) (e ∙ sym (zero-add (nodes_among (decode_deliveries l) 1 (m - 1)))) (ap decode_graph body_cut ∙ at.is_body)

-- ---- the records of one method behind those of another

module _ (f : ℕ → List Record) where
  -- the records of methods 1 to k
  abbrev pub run : ℕ → List ℕ
  run k = each (λ m. write (f m)) (span 1 k)

  abbrev pub run_count : ℕ → ℕ
  run_count k = length (each f (span 1 k))

  run_length : (ms : List ℕ) → length (each (λ m. write (f m)) ms) ≡ record_len * length (each f ms)
  run_length [] = omega arith
  run_length (m ∷ ms) = omega (arith, length-append (write (f m)) (each (λ i. write (f i)) ms), length-append (f m) (each f ms), length_write (f m), run_length ms)

  module _ (out₀ out : List ℕ) (first end k m : ℕ) (x : Wrote out₀ out first end (run k)) (e : m ≡ 1 + k) where
    pub run_on : (out' : List ℕ) (end' : ℕ) → record_len * first ≤ length out₀ → out' ≡ put_at out (record_len * end) (write (f m)) → length out' ≡ length out → end' ≡ end + length (f m) → Wrote out₀ out' first end' (run (k + 1))
    run_on out' end' h a b d =
        wrote_more out₀ out out' first end end' (run k) (write (f m)) (run (k + 1)) h (each_one (λ i. write (f i)) k m e) x a b (omega (arith, d, length_write (f m)))

    -- there is room for one method more
    pub run_fits : m ≤ 8 → record_len * (first + run_count 8) ≤ length out₀ → record_len * (end + length (f m)) ≤ length out
    run_fits h room = omega (arith, e, room, x.as_long, x.up_to, run_length (span 1 k), length_more f k m e, some_of_all f (k + 1) (omega (arith, e, h)))

counts_same : {A B : Type 0} (f : ℕ → List A) (g : ℕ → List B) (ms : List ℕ) → ((m : ℕ) → length (f m) ≡ length (g m)) → length (each f ms) ≡ length (each g ms)
counts_same f g [] h = refl
counts_same f g (m ∷ ms) h = omega (arith, length-append (f m) (each f ms), length-append (g m) (each g ms), h m, counts_same f g ms h)

-- ---- the standing graph

module _ (ds : List Delivery) where
  abbrev pub node_recs : ℕ → List Record
  node_recs m = map node_rec (nodes_at ds m)

  abbrev pub edge_recs : ℕ → List Record
  edge_recs m = map edge_rec (edges_at ds 0 1 m)

  pub node_recs_count : (m : ℕ) → length (node_recs m) ≡ length (nodes_at ds m)
  node_recs_count m = length-map (nodes_at ds m) node_rec

  pub edge_recs_count : (m : ℕ) → length (edge_recs m) ≡ length (body_at ds m).edges
  edge_recs_count m = length-map (edges_at ds 0 1 m) edge_rec ∙ length-map (body_at ds m).edges (moved (0 + nodes_among ds 1 (m - 1)))

  -- the nodes before a method's and its own are among all
  pub nodes_on : (k m : ℕ) → m ≡ 1 + k → nodes_among ds 1 k + length (node_recs m) ≡ nodes_among ds 1 (k + 1)
  nodes_on k m e = omega (arith, node_recs_count m, length_more (nodes_at ds) k m e)

  pub nodes_before : (k m : ℕ) → m ≡ 1 + k → m ≤ 8 → nodes_among ds 1 k + length (node_recs m) ≤ size (assembled ds)
  nodes_before k m e h = omega (arith, e, h, nodes_on k m e, some_of_all (nodes_at ds) (k + 1) (omega (arith, e, h)), (assembled_sizes ds).0)

  pub all_nodes : run_count node_recs 8 ≡ size (assembled ds)
  all_nodes = counts_same node_recs (nodes_at ds) (span 1 8) node_recs_count ∙ sym (assembled_sizes ds).0

  pub all_edges : run_count edge_recs 8 ≡ length (assembled ds).edges
  all_edges = counts_same edge_recs (λ m. (body_at ds m).edges) (span 1 8) edge_recs_count ∙ sym (assembled_sizes ds).1

  -- nodes and edges, stored one behind the other, are its file
  pub assembled_stored : (out o₁ o₂ : List ℕ) (n : ℕ) → n ≡ size (assembled ds) → o₁ ≡ put_at out 0 (run node_recs 8) → o₂ ≡ put_at o₁ (record_len * n) (run edge_recs 8) → o₂ ≡ put_at out 0 (graph_bytes (assembled ds))
  assembled_stored out o₁ o₂ n e a b =
      let at : record_len * n ≡ 0 + length (run node_recs 8) = omega (arith, e, all_nodes, run_length node_recs (span 1 8)) in
      b
      ∙ ap₂ (λ (l : List ℕ) (k : ℕ). put_at l k (run edge_recs 8)) a at
      ∙ put_after out 0 (run node_recs 8) (run edge_recs 8) (omega arith)
      ∙ ap (put_at out 0) (sym (assembled_bytes ds))
