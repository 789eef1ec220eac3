-- 256 nodes and 4,096 edges are accepted under the desk's limits, one more of either is refused by 5. Assumes nothing.
use Rattle.std.specs.Prelude.{◌≡◌, refl, ◌⊎◌, true, false, ℕ, suc, ◌*◌, ◌/◌, ◌%◌, ◌≤◌, ◌<◌, length, get_or}
use Rattle.std.proofs.Common.{sym, ap, subst₂, ◌∙◌, inl, inr, zero-add, arith}
use mathlib.Core.List.{Memᴰ}
use Rattle.std.proofs.Math.Option.{none, some}
use Rattle.std.proofs.Math.Decide.{dec_lt}
use Rattle.files.specs.Basics.Lexical.{Before}
use Rattle.files.specs.Basics.Tables.{table, length_table, getD_table, table_e}
use Rattle.files.specs.Decode.{Filed, graph_bytes, key}
use Rattle.files.specs.Decode.Accepted.{accepted_bytes}
use Rattle.files.specs.Decode.Crowded.{crowded_refused}
use Rattle.files.specs.Decode.Written.{nodes_bytes, edges_bytes}
use Rattle.files.specs.Graph.{Node, Edge, Graph, Flow, node, no_node, size, no_edge}
use Rattle.files.specs.Limits.{desk}
use Rattle.files.specs.Refusal.{graph, nodes_of, edges_of, refusal}
use Rattle.files.specs.declared.record.Limits.{Limits}

abbrev pub wide_node : ℕ → Node
wide_node i = record { method = 1; ret = false; entry = true }

abbrev pub wide_edge : ℕ → Edge
wide_edge j = record { from = j / 32; label = 0; to = j % 32 }

-- n entries of one method, and k internal steps between them, 32 from each node in turn
abbrev pub wide : ℕ → ℕ → Graph
wide n k = record { nodes = table wide_node 0 n; edges = table wide_edge 0 k }

wide_ascends : (j : ℕ) → Before (key (wide_edge j)) (key (wide_edge (suc j)))
wide_ascends j = go (dec_lt (j / 32) (suc j / 32))
  where
    go : Dec (j / 32 < suc j / 32) → Before (key (wide_edge j)) (key (wide_edge (suc j)))
    go (yes h) = inl h
    go (no h) = inr (omega arith, inr (refl, inl (omega arith)))

module _ (n k : ℕ) where
  wide_size : size (wide n k) ≡ n
  wide_size = length_table wide_node 0 n

  wide_edges : length (wide n k).edges ≡ k
  wide_edges = length_table wide_edge 0 k

  -- the file of `wide n k` holds n nodes and k edges
  pub wide_counts : (nodes_of (graph_bytes (wide n k)) ≡ n) × (edges_of (graph_bytes (wide n k)) ≡ k)
  wide_counts = (nodes_bytes (wide n k) ∙ wide_size, edges_bytes (wide n k) ∙ wide_edges)

  method_is : (g : ℕ) → g < n → (node (wide n k) g).method ≡ 1
  method_is g h = ap (λ (v : Node). v.method) (getD_table wide_node 0 n g no_node h)

  edge_is : (j : ℕ) → j < k → get_or (wide n k).edges j no_edge ≡ wide_edge j
  edge_is j h = getD_table wide_edge 0 k j no_edge h ∙ ap wide_edge (zero-add j)

wide_flow : (n k : ℕ) → k ≤ 32 * n → 32 ≤ n → Flow (wide n k)
wide_flow n k room many =
    record { from_node = λ e m. omega (arith, wide_size n k, from_in e m); to_node = λ e m. omega (arith, wide_size n k, to_in e m); one_method = λ e m. method_is n k e.to (to_in e m) ∙ sym (method_is n k e.from (from_in e m)) }
  where
    from_in : (e : Edge) → Memᴰ e (wide n k).edges → e.from < n
    from_in e m =
        let r = table_e wide_edge 0 k e m in
        let f : r.0 / 32 ≡ e.from = ap (λ (x : Edge). x.from) r.3 in omega (arith, r.2)

    to_in : (e : Edge) → Memᴰ e (wide n k).edges → e.to < n
    to_in e m =
        let r = table_e wide_edge 0 k e m in
        let f : r.0 % 32 ≡ e.to = ap (λ (x : Edge). x.to) r.3 in omega arith

-- room for 32 edges from each node, and to 32 nodes
wide_filed : (M : Limits) (n k : ℕ) → k ≤ 32 * n → 32 ≤ n → n ≤ M.nodes → k ≤ M.edges → Filed M (wide n k)
wide_filed M n k room many nodes_fit edges_fit =
    record { flow = wide_flow n k room many; methods = methods_in; labels = λ e m. omega (arith, ap (λ (x : Edge). x.label) (table_e wide_edge 0 k e m).3); few_nodes = omega (arith, wide_size n k); few_edges = omega (arith, wide_edges n k); ascending = ascends }
  where
    methods_in : (v : Node) → Memᴰ v (wide n k).nodes → (1 ≤ v.method) × (v.method ≤ 8)
    methods_in v m = let e : 1 ≡ v.method = ap (λ (x : Node). x.method) (table_e wide_node 0 n v m).3 in (omega arith, omega arith)

    ascends : (j : ℕ) → suc j < length (wide n k).edges → Before (key (get_or (wide n k).edges j no_edge)) (key (get_or (wide n k).edges (suc j) no_edge))
    ascends j h =
        let l : suc j < k = omega (arith, wide_edges n k) in
        subst₂ (λ (x y : Edge). Before (key x) (key y)) (sym (edge_is n k j (omega arith))) (sym (edge_is n k (suc j) l)) (wide_ascends j)

wide_refused : (L : Limits) (n k : ℕ) → k ≤ 32 * n → 32 ≤ n → (L.nodes < n) ⊎ (L.edges < k) → refusal L graph (graph_bytes (wide n k)) ≡ some (5, 0)
wide_refused L n k room many passed = crowded_refused L enough (wide n k) (wide_filed enough n k room many (omega arith) (omega arith)) (crowded passed)
  where
    enough : Limits
    enough = record { nodes = n; edges = k; rows = 0; ors = 0 }

    crowded : (L.nodes < n) ⊎ (L.edges < k) → (L.nodes < size (wide n k)) ⊎ (L.edges < length (wide n k).edges)
    crowded (inl h) = inl (omega (arith, wide_size n k))
    crowded (inr h) = inr (omega (arith, wide_edges n k))

-- ---- the limits, and one past

pub nodes_256 : refusal desk graph (graph_bytes (wide 256 0)) ≡ none
nodes_256 = accepted_bytes desk (wide 256 0) (wide_filed desk 256 0 (omega arith) (omega arith) (omega arith) (omega arith))

pub nodes_257 : refusal desk graph (graph_bytes (wide 257 0)) ≡ some (5, 0)
nodes_257 = wide_refused desk 257 0 (omega arith) (omega arith) (inl (omega arith))

pub edges_4096 : refusal desk graph (graph_bytes (wide 256 4096)) ≡ none
edges_4096 = accepted_bytes desk (wide 256 4096) (wide_filed desk 256 4096 (omega arith) (omega arith) (omega arith) (omega arith))

pub edges_4097 : refusal desk graph (graph_bytes (wide 256 4097)) ≡ some (5, 0)
edges_4097 = wide_refused desk 256 4097 (omega arith) (omega arith) (inr (omega arith))
