-- What stands of a method in an accepted file, as a part of the file that is a graph file by itself; and how many nodes and edges stand of all methods.
use Rattle.std.specs.Prelude.{◌≡◌, refl, List, [], ◌∷◌, ◌++◌, ℕ, zero, suc, ◌+◌, ◌-◌, ◌*◌, ◌≤◌, length}
use Rattle.std.proofs.Common.{sym, ap, ap₂, ◌∙◌, append-nil, add-one, arith, length-append}
use Rattle.std.proofs.Math.Option.{none}
use Rattle.files.specs.Assemble.{DeliveriesFile}
use Rattle.files.specs.Assemble.Work.{Counts}
use Rattle.files.specs.Basics.Lists.{each, each_append, span, span_append, span_more}
use Rattle.files.specs.Decode.{decode_graph, graph_bytes}
use Rattle.files.specs.Decode.Accepted.{accepted_bytes}
use Rattle.files.specs.Decode.Written.{decode_bytes, graph_bytes_is}
use Rattle.files.specs.Deliveries.{opened, own_end, empty_graph, decode_deliveries}
use Rattle.files.specs.Deliveries.Assembled.{empty_filed}
use Rattle.files.specs.Deliveries.Blocks.{body_of}
use Rattle.files.specs.Deliveries.Cuts.{accepted_cut}
use Rattle.files.specs.Deliveries.Latest.{latest, Latest, latest_stands, latest_opens, kept_delivery}
use Rattle.files.specs.Deliveries.Layout.{body_at, nodes_at, nodes_among, assembled_sizes}
use Rattle.files.specs.Deliveries.Names.{PartAt}
use Rattle.files.specs.Deliveries.Parts.{opened_count, end_from, end_to}
use Rattle.files.specs.Graph.{Graph, size}
use Rattle.files.specs.Places.{max_edges, max_nodes}
use Rattle.files.specs.Record.{count, part}
use Rattle.files.specs.Record.Laws.{part_length}
use Rattle.files.specs.Refusal.{graph, nodes_of, refusal}
use Rattle.files.specs.View.{Views, Held, view_held, view_size, view_edges, view_records}
use Rattle.files.specs.declared.parts.Part.{Part}
use Rattle.files.specs.declared.view.GraphView.{GraphView}

-- an accepted file, with the openings that one pass keeps of it
pub record StandsBy (l kept : List ℕ) : Type 0 where
  pub file : DeliveriesFile l
  pub kept_are : Latest l kept (count l)

-- a part's records, and how many of them are nodes and edges
abbrev pub part_bytes : List ℕ → Part → List ℕ
part_bytes l p = part l p.start (p.end - p.start)

abbrev pub part_view : Part → GraphView
part_view p = record { nodes = p.nodes; edges = p.end - p.start - p.nodes }

abbrev pub no_part : Part
no_part = record { start = 0; end = 0; nodes = 0 }

-- the part has the records of the delivery of method m that stands, or none
pub record StandsAt (l : List ℕ) (m : ℕ) (p : Part) : Type 0 where
  pub ends : p.start ≤ p.end
  pub within : p.end ≤ count l
  pub held : Held (part_view p) (part_bytes l p)
  pub is_body : decode_graph (part_bytes l p) ≡ body_at (decode_deliveries l) m

module _ {l : List ℕ} {m : ℕ} {p : Part} (at : StandsAt l m p) where
  pub node_count : p.nodes ≡ length (nodes_at (decode_deliveries l) m)
  node_count = sym (view_size at.held.views) ∙ ap size at.is_body

  pub edge_count : p.end - p.start - p.nodes ≡ length (body_at (decode_deliveries l) m).edges
  edge_count = sym (view_edges at.held.views) ∙ ap (λ (G : Graph). length G.edges) at.is_body

  -- its nodes are among its records
  pub nodes_end : p.start + p.nodes ≤ p.end
  nodes_end = omega (arith, at.ends, at.within, view_records at.held.views, part_length l p.start (p.end - p.start) (omega (arith, at.ends, at.within)))

-- ---- what one pass keeps stands

module _ (l : List ℕ) (file : DeliveriesFile l) (m : ℕ) where
  stands_kept : (a : ℕ) → latest l m (count l) ≡ a → body_at (decode_deliveries l) m ≡ body_of (kept_delivery l a)
  stands_kept a e = ap body_of (latest_stands file.limits l file.taken.no_number file.taken.no_repeat m ∙ ap (kept_delivery l) e)

  -- an empty file is the empty graph
  no_bytes : graph_bytes empty_graph ≡ []
  no_bytes = graph_bytes_is empty_graph

  pub none_stands : latest l m (count l) ≡ 0 → StandsAt l m no_part
  none_stands e =
      let accepted : refusal file.limits graph [] ≡ none = ap (refusal file.limits graph) (sym no_bytes) ∙ accepted_bytes file.limits empty_graph (empty_filed file.limits) in
      let decoded : decode_graph [] ≡ empty_graph = ap decode_graph (sym no_bytes) ∙ decode_bytes empty_graph in
      record {
        ends = omega arith;
        within = omega arith;
        held = record { views = record { graph_file = record { limits = file.limits; accepted = accepted }; nodes_are = refl; edges_are = refl }; few_nodes = omega arith; few_edges = omega arith };
        is_body = decoded ∙ sym (stands_kept 0 e);
      }

  module _ (p : Part) (o : ℕ) (e : latest l m (count l) ≡ suc o) (at : PartAt l (suc o) p) where
    open_at : (suc o ≤ count l)
    open_at = (latest_opens l m (count l) o e).0

    own_bytes : part_bytes l p ≡ opened l (suc o)
    own_bytes = ap₂ (λ (a b : ℕ). part l a (b - a)) at.start_at at.end_at

    own_accepted : refusal file.limits graph (part_bytes l p) ≡ none
    own_accepted =
        ap (refusal file.limits graph) own_bytes
        ∙ ((accepted_cut file.limits l).0 file.taken.no_number).part_accepted o open_at (latest_opens l m (count l) o e).1

    own_views : Views (part_view p) (part_bytes l p)
    own_views = record {
      graph_file = record { limits = file.limits; accepted = own_accepted };
      nodes_are = at.nodes_at ∙ ap nodes_of (sym own_bytes);
      edges_are =
          let c : count (part_bytes l p) ≡ own_end l (suc o) - suc o = ap count own_bytes ∙ opened_count l (suc o) open_at in
          let n : nodes_of (part_bytes l p) ≡ p.nodes = ap nodes_of own_bytes ∙ sym at.nodes_at in
          omega (arith, at.start_at, at.end_at, c, n);
    }

    opening_stands : StandsAt l m p
    opening_stands = record {
      ends = omega (arith, at.start_at, at.end_at, end_from l (suc o));
      within = omega (arith, at.end_at, end_to l (suc o) open_at);
      held = view_held file.limits file.nodes_fit file.edges_fit own_views own_accepted;
      is_body = ap decode_graph own_bytes ∙ sym (stands_kept (suc o) e);
    }

  pub part_stands : (p : Part) (a : ℕ) → latest l m (count l) ≡ a → (a ≡ 0 → ⊥) → PartAt l a p → StandsAt l m p
  part_stands p zero e f at = absurd (f refl)
  part_stands p (suc o) e f at = opening_stands p o e at

-- ---- all methods together

-- one method more
pub each_one : {B : Type 0} (f : ℕ → List B) (k m : ℕ) → m ≡ 1 + k → each f (span 1 (k + 1)) ≡ each f (span 1 k) ++ f m
each_one f k m e =
    ap (λ (n : ℕ). each f (span 1 n)) (add-one k)
    ∙ ap (each f) (span_more 1 k)
    ∙ each_append f (span 1 k) ((1 + k) ∷ [])
    ∙ ap (λ ys. each f (span 1 k) ++ ys) (append-nil (f (1 + k)) ∙ ap f (sym e))

-- so many of B stand of methods 1, 2, .., k
pub length_more : {B : Type 0} (f : ℕ → List B) (k m : ℕ) → m ≡ 1 + k → length (each f (span 1 (k + 1))) ≡ length (each f (span 1 k)) + length (f m)
length_more f k m e = ap length (each_one f k m e) ∙ length-append (each f (span 1 k)) (f m)

-- .. which are among those of all methods
pub some_of_all : {B : Type 0} (f : ℕ → List B) (k : ℕ) → k ≤ 8 → length (each f (span 1 k)) ≤ length (each f (span 1 8))
some_of_all f k h =
    let e : k + (8 - k) ≡ 8 = omega arith in
    let both : each f (span 1 8) ≡ each f (span 1 k) ++ each f (span (1 + k) (8 - k)) =
    ap (λ (n : ℕ). each f (span 1 n)) (sym e) ∙ ap (each f) (sym (span_append 1 k (8 - k))) ∙ each_append f (span 1 k) (span (1 + k) (8 - k)) in
    omega (arith, ap length both, length-append (each f (span 1 k)) (each f (span (1 + k) (8 - k))))

-- k methods are summed up
pub record Summed (l : List ℕ) (k nodes edges : ℕ) : Type 0 where
  pub nodes_so_far : nodes ≡ nodes_among (decode_deliveries l) 1 k
  pub edges_so_far : edges ≡ length (each (λ m. (body_at (decode_deliveries l) m).edges) (span 1 k))
  pub nodes_few : nodes ≤ max_nodes * k
  pub edges_few : edges ≤ max_edges * k

pub summed_none : (l : List ℕ) → Summed l 0 0 0
summed_none l = record { nodes_so_far = refl; edges_so_far = refl; nodes_few = omega arith; edges_few = omega arith }

pub summed_on : (l : List ℕ) (k m nodes edges : ℕ) (p : Part) → m ≡ 1 + k → Summed l k nodes edges → StandsAt l m p → Summed l (k + 1) (nodes + p.nodes) (edges + (p.end - p.start - p.nodes))
summed_on l k m nodes edges p e s at = record {
  nodes_so_far = omega (arith, s.nodes_so_far, node_count at, length_more (nodes_at (decode_deliveries l)) k m e);
  edges_so_far = omega (arith, s.edges_so_far, edge_count at, length_more (λ i. (body_at (decode_deliveries l) i).edges) k m e);
  nodes_few = omega (arith, s.nodes_few, at.held.few_nodes);
  edges_few = omega (arith, s.edges_few, at.held.few_edges);
}

pub summed_all : (l : List ℕ) (nodes edges : ℕ) → Summed l 8 nodes edges → Counts l (record { nodes = nodes; edges = edges })
summed_all l nodes edges s = let z = assembled_sizes (decode_deliveries l) in record { nodes_are = s.nodes_so_far ∙ sym z.0; edges_are = s.edges_so_far ∙ sym z.1 }
