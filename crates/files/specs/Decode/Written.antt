-- The bytes written of a graph are an accepted file, and it decodes to the graph. Assumes nothing.
use Rattle.std.specs.Prelude.{◌≡◌, refl, ◌⊎◌, Bool, true, false, List, [], ◌∷◌, ◌++◌, map, ℕ, zero, suc, ◌+◌, ◌-◌, ◌*◌, ◌≤◌, ◌<◌, eqb}
use Rattle.std.proofs.Common.{sym, ap₂, ◌∙◌, inl, inr, not-suc-le-zero, le_of_suc-le-suc, zero-add, arith, eqb→eq, length-append}
use Rattle.std.proofs.Math.Path.{ap}
use Rattle.std.proofs.Math.Decide.{dec_lt}
use Rattle.std.proofs.Math.Dec.{not_T}
use Rattle.std.proofs.Math.ListN.{length, get_or, length-map, get_or-append}
use Rattle.std.proofs.Math.Seq.{get_or-append-add}
use Rattle.files.specs.Basics.Lists.{each_append, get_d_map}
use Rattle.files.specs.Basics.Tables.{table, table_is, tally_is, tally_both}
use Rattle.files.specs.Basics.Tests.{eq_eqb, one}
use Rattle.files.specs.Decode.{to_node, to_edge, decode_graph, node_rec, edge_rec, graph_recs, graph_bytes}
use Rattle.files.specs.Decode.Graphs.{one_kind}
use Rattle.files.specs.Graph.{Node, Graph, node, no_node, size, no_edge}
use Rattle.files.specs.Places.{record_len}
use Rattle.files.specs.Record.{record_from, record_at, kind_at, count, six, write}
use Rattle.files.specs.Refusal.{of_kind, nodes_of, edges_of}
use Rattle.files.specs.declared.record.Record.{Record}

-- ---- records as bytes

abbrev no_record : Record
no_record = record { kind = 0; first = 0; second = 0; third = 0; fourth = 0; fifth = 0 }

pub length_write : (rs : List Record) → length (write rs) ≡ record_len * length rs
length_write [] = refl
length_write (r ∷ rs) = omega (arith, length-append (six r) (write rs), length_write rs)

pub count_write : (rs : List Record) → count (write rs) ≡ length rs
count_write rs = omega (arith, length_write rs)

skip : (r : Record) (l : List ℕ) (p k : ℕ) → get_or (six r ++ l) (6 + p + k) 0 ≡ get_or l (p + k) 0
skip r l p k =
    let e : 6 + p + k ≡ suc (suc (suc (suc (suc (suc (p + k)))))) = omega arith in
    ap (λ (q : ℕ). get_or (six r ++ l) q 0) e

skip_zero : (r : Record) (l : List ℕ) (p : ℕ) → get_or (six r ++ l) (6 + p) 0 ≡ get_or l p 0
skip_zero r l p =
    let e : 6 + p ≡ suc (suc (suc (suc (suc (suc p))))) = omega arith in
    ap (λ (q : ℕ). get_or (six r ++ l) q 0) e

pub skip_rec : (r : Record) (l : List ℕ) (p : ℕ) → record_from (six r ++ l) (6 + p) ≡ record_from l p
skip_rec r l p = λ i. record { kind = skip_zero r l p i; first = skip r l p 1 i; second = skip r l p 2 i; third = skip r l p 3 i; fourth = skip r l p 4 i; fifth = skip r l p 5 i }

pub record_at_write : (rs : List Record) (i : ℕ) → i < length rs → record_at (write rs) i ≡ get_or rs i no_record
record_at_write [] i h = absurd (not-suc-le-zero h)
record_at_write (r ∷ rs) zero h = refl
record_at_write (r ∷ rs) (suc i) h =
    let e : record_len * suc i ≡ 6 + record_len * i = omega arith in
    ap (record_from (write (r ∷ rs))) e ∙ skip_rec r (write rs) (record_len * i) ∙ record_at_write rs i (le_of_suc-le-suc h)

-- ---- what stands in the file of a graph

module _ (G : Graph) where
  length_recs : length (graph_recs G) ≡ size G + length G.edges
  length_recs = length-append (map node_rec G.nodes) (map edge_rec G.edges) ∙ ap₂ ◌+◌ (length-map G.nodes node_rec) (length-map G.edges edge_rec)

  -- the nodes' records, then the edges'
  pub graph_bytes_is : graph_bytes G ≡ write (map node_rec G.nodes) ++ write (map edge_rec G.edges)
  unfolding graph_bytes
  graph_bytes_is = each_append six (map node_rec G.nodes) (map edge_rec G.edges)

  pub count_bytes : count (graph_bytes G) ≡ size G + length G.edges
  unfolding graph_bytes
  count_bytes = count_write (graph_recs G) ∙ length_recs

  pub graph_length : length (graph_bytes G) ≡ record_len * (size G + length G.edges)
  unfolding graph_bytes
  graph_length = length_write (graph_recs G) ∙ ap (λ (n : ℕ). record_len * n) length_recs

  pub at_node : (i : ℕ) → i < size G → record_at (graph_bytes G) i ≡ node_rec (node G i)
  unfolding graph_bytes
  at_node i h =
      record_at_write (graph_recs G) i (omega (arith, length_recs))
      ∙ get_or-append (map node_rec G.nodes) (map edge_rec G.edges) no_record i (omega (arith, length-map G.nodes node_rec))
      ∙ get_d_map node_rec G.nodes i no_node no_record h

  pub at_edge : (j : ℕ) → j < length G.edges → record_at (graph_bytes G) (size G + j) ≡ edge_rec (get_or G.edges j no_edge)
  unfolding graph_bytes
  at_edge j h =
      let e : size G + j ≡ length (map node_rec G.nodes) + j = ap (λ (n : ℕ). n + j) (sym (length-map G.nodes node_rec)) in
      record_at_write (graph_recs G) (size G + j) (omega (arith, length_recs))
      ∙ ap (λ (n : ℕ). get_or (graph_recs G) n no_record) e
      ∙ get_or-append-add (map node_rec G.nodes) (map edge_rec G.edges) j no_record
      ∙ get_d_map edge_rec G.edges j no_edge no_record h

  pub kind_node : (i : ℕ) → i < size G → kind_at (graph_bytes G) i ≡ 1
  kind_node i h = ap (λ (r : Record). r.kind) (at_node i h)

  -- a record past the nodes is an edge
  pub past_nodes : (i : ℕ) → size G ≤ i → i < count (graph_bytes G) → (j : ℕ) × (j < length G.edges) × (i ≡ size G + j) × (record_at (graph_bytes G) i ≡ edge_rec (get_or G.edges j no_edge))
  past_nodes i h k =
      let a : i - size G < length G.edges = omega (arith, count_bytes) in
      let e : i ≡ size G + (i - size G) = omega arith in
      (i - size G, a, e, ap (record_at (graph_bytes G)) e ∙ at_edge (i - size G) a)

  pub kind_edge : (i : ℕ) → size G ≤ i → i < count (graph_bytes G) → kind_at (graph_bytes G) i ≡ 2
  kind_edge i h k = ap (λ (r : Record). r.kind) (past_nodes i h k).3

  pub nodes_bytes : nodes_of (graph_bytes G) ≡ size G
  nodes_bytes =
      tally_is (of_kind (graph_bytes G) 1) (size G) (count (graph_bytes G)) (omega (arith, count_bytes)) (λ i h. eq_eqb (kind_at (graph_bytes G) i) 1 (kind_node i h))
      (λ i h k. not_T (of_kind (graph_bytes G) 1 i) (λ t. absurd (omega (arith, eqb→eq (kind_at (graph_bytes G) i) 1 t, kind_edge i h k))))

  kind_cases : (i : ℕ) → i < count (graph_bytes G) → (kind_at (graph_bytes G) i ≡ 1) ⊎ (kind_at (graph_bytes G) i ≡ 2)
  kind_cases i k = go (dec_lt i (size G))
    where
      go : Dec (i < size G) → (kind_at (graph_bytes G) i ≡ 1) ⊎ (kind_at (graph_bytes G) i ≡ 2)
      go (yes h) = inl (kind_node i h)
      go (no h) = inr (kind_edge i (omega arith) k)

  pub edges_bytes : edges_of (graph_bytes G) ≡ length G.edges
  edges_bytes =
      omega (arith, nodes_bytes, count_bytes, tally_both (of_kind (graph_bytes G) 1) (of_kind (graph_bytes G) 2) (count (graph_bytes G)) (λ i h. one_kind (kind_at (graph_bytes G) i) (kind_cases i h)))

-- ---- it decodes to the graph

flag : (b : Bool) → eqb (one b) 1 ≡ b
flag true = refl
flag false = refl

node_back : (v : Node) → to_node (node_rec v) ≡ v
node_back v = λ i. record { method = v.method; ret = flag v.ret i; entry = flag v.entry i }

-- whatever the graph, its bytes decode to it
pub decode_bytes : (G : Graph) → decode_graph (graph_bytes G) ≡ G
unfolding decode_graph
decode_bytes G = λ i. record { nodes = ns i; edges = es i }
  where
    ns : table (λ i. to_node (record_at (graph_bytes G) i)) 0 (nodes_of (graph_bytes G)) ≡ G.nodes
    ns =
        ap (table (λ i. to_node (record_at (graph_bytes G) i)) 0) (nodes_bytes G)
        ∙ table_is (λ i. to_node (record_at (graph_bytes G) i)) 0 G.nodes no_node
        (λ i h. ap (λ (n : ℕ). to_node (record_at (graph_bytes G) n)) (zero-add i) ∙ ap to_node (at_node G i h) ∙ node_back (node G i))

    es : table (λ i. to_edge (record_at (graph_bytes G) i)) (nodes_of (graph_bytes G)) (count (graph_bytes G) - nodes_of (graph_bytes G)) ≡ G.edges
    es =
        let n : count (graph_bytes G) - nodes_of (graph_bytes G) ≡ length G.edges = omega (arith, nodes_bytes G, count_bytes G) in
        ap₂ (table (λ i. to_edge (record_at (graph_bytes G) i))) (nodes_bytes G) n
        ∙ table_is (λ i. to_edge (record_at (graph_bytes G) i)) (size G) G.edges no_edge (λ i h. ap to_edge (at_edge G i h))
