-- The edges of a graph with its nodes counted on from others, in bytes, edge by edge and all together.
use Rattle.std.specs.Prelude.{◌≡◌, refl, List, [], ◌∷◌, ◌++◌, map, ℕ, suc, ◌+◌, ◌≤◌, ◌<◌, length, get_or}
use Rattle.std.proofs.Common.{sym, ap, ap₂, ◌∙◌, suc-le-suc, zero-add, add-zero, zero-lt-suc, arith}
use Rattle.files.specs.Access.{edge_held}
use Rattle.files.specs.Basics.Lists.{each, each_map, span}
use Rattle.files.specs.Decode.{decode_graph, edge_rec}
use Rattle.files.specs.Graph.{Graph, Edge, no_edge}
use Rattle.files.specs.Graph.Ends.{from_in, to_in}
use Rattle.files.specs.Join.{moved}
use Rattle.files.specs.Places.{max_nodes}
use Rattle.files.specs.Record.{six, write, edge_record}
use Rattle.files.specs.View.{Views, view_flow, view_size, view_edges}
use Rattle.files.specs.declared.graph.GraphEdge.{GraphEdge}
use Rattle.files.specs.declared.view.GraphView.{GraphView}

-- edge j as it is written, with its nodes counted on from n
abbrev pub moved_bytes : ℕ → Graph → ℕ → List ℕ
moved_bytes n G j = six (edge_rec (moved n (get_or G.edges j no_edge)))

-- an edge of an accepted graph, moved, has its ends in a byte
module _ (g : List ℕ) (v : GraphView) (x : Views v g) (n : ℕ) (fits : n + v.nodes ≤ max_nodes) (j : ℕ) (h : j < v.edges) (u : GraphEdge) (held : u ≡ edge_held (get_or (decode_graph g).edges j no_edge)) where
  inside : j < length (decode_graph g).edges
  inside = omega (arith, h, view_edges x)

  pub from_fits : n + u.from < 256
  from_fits = omega (arith, ap (λ (e : GraphEdge). e.from) held, from_in (decode_graph g) (view_flow x) j inside, view_size x, fits)

  pub to_fits : n + u.to < 256
  to_fits = omega (arith, ap (λ (e : GraphEdge). e.to) held, to_in (decode_graph g) (view_flow x) j inside, view_size x, fits)

  pub moved_is : (from to : ℕ) → from ≡ n + u.from → to ≡ n + u.to → six (edge_record from u.label to) ≡ moved_bytes n (decode_graph g) j
  moved_is from to a b = ap₂ (λ (x y : ℕ). six (edge_record x u.label y)) a b ∙ ap (λ (e : GraphEdge). six (edge_record (n + e.from) e.label (n + e.to))) held

-- each element of a list is each of its places
each_place : {A B : Type 0} (f : A → List B) (d : A) (xs : List A) (a : ℕ) (g : ℕ → List B) → ((i : ℕ) → i < length xs → g (a + i) ≡ f (get_or xs i d))
    → each g (span a (length xs)) ≡ each f xs
each_place f d [] a g h = refl
each_place f d (x ∷ xs) a g h =
    ap₂ ◌++◌ (ap g (sym (add-zero a)) ∙ h 0 (zero-lt-suc (length xs)))
    (each_place f d xs (suc a) g (λ i k. let e : suc a + i ≡ a + suc i = omega arith in ap g e ∙ h (suc i) (suc-le-suc k)))

pub moved_all : (n : ℕ) (G : Graph) → each (moved_bytes n G) (span 0 (length G.edges)) ≡ write (map edge_rec (map (moved n) G.edges))
moved_all n G =
    each_place (λ (e : Edge). six (edge_rec (moved n e))) no_edge G.edges 0 (moved_bytes n G) (λ i h. ap (moved_bytes n G) (zero-add i))
    ∙ sym (each_map six edge_rec (map (moved n) G.edges) ∙ each_map (λ (e : Edge). six (edge_rec e)) (moved n) G.edges)
