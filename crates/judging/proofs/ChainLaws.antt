-- For the code that builds the chains: one item, one edge or place more, and chains whose heads were cleared.
use mathlib.Core.Path.{◌≡◌, refl, sym, ap, subst, ◌∙◌}
use mathlib.Core.Bool.{false}
use mathlib.Core.List.{List}
use mathlib.Core.Option.{Option, none, some}
use Prim.Native.Nat.{ℕ, ◌+◌, ◌*◌, ◌-◌, ◌/◌, ◌%◌, ◌≤◌, ◌<◌}
use native.Mathlib.Numerals.{add-one}
use native.Mathlib.Omega.{arith}
use lib.Dec.{eqb}
use lib.ListN.{length, get_or, replicate}
use borrow.Rule.Slice.PartMut.{mid_of, put_mid}
use borrow.Author.Tests.{ne_eqb}
use Rattle.files.specs.Basics.Lists.{index_e}
use Rattle.files.specs.Graph.{Graph, size, no_edge}
use Rattle.files.specs.Places.{max_edges, two_bytes_last}
use Rattle.files.specs.Property.{Row, row}
use Rattle.files.specs.Access.{GraphFile}
use Rattle.files.specs.Cells.{cell, put_cell}
use Rattle.files.specs.Decode.{decode_graph, decode_property}
use Rattle.files.specs.Decode.Graphs.{decoded_size, decoded_edges, decoded_flow}
use Rattle.files.specs.Record.{count}
use Rattle.files.specs.Refusal.{nodes_of}
use Rattle.judging.specs.Places.{judge_room, node_heads_base, node_nexts_base, row_heads_base, row_nexts_base, node_heads_bytes}
use Rattle.judging.specs.declared.shape.Shape.{Shape}
use Rattle.judging.specs.Chains.{Chained, Outside, linked, into, uses, named, named_or, is_row, Index}
use Rattle.judging.specs.Chains.Laws.{chained_none, chained_kept, linked_is, linked_outside, test_turned, chain_more, chain_on, chain_skip, outside_both}
use Rattle.judging.specs.Ranking.{Ready}
use Rattle.judging.specs.Ranking.Files.{size_is, edges_is, rows_is}
use Rattle.judging.proofs.ClearedLaws.{cleared_outside, cleared_inside}

-- ---- one item, stored by two stores

pub linked_by : (w once twice : List ℕ) (heads nexts key item held : ℕ) → held ≡ cell w heads 2 key → once ≡ put_cell w nexts 2 item held → twice ≡ put_cell once heads 2 key (item + 1)
    → twice ≡ linked w heads nexts key item
linked_by w once twice heads nexts key item held a b c = c ∙ rw (b, a, add-one) (sym (linked_is w heads nexts key item))

-- ---- edges

module _ (g : List ℕ) (file : GraphFile g) (nodes edges : ℕ) (nodes_are : nodes ≡ nodes_of g) (edges_are : edges ≡ count g - nodes_of g) where
  abbrev G : Graph
  G = decode_graph g

  abbrev to_of : ℕ → ℕ
  to_of e = (get_or G.edges e no_edge).to

  node_count : size G ≡ nodes
  node_count = decoded_size file.limits g file.accepted ∙ sym nodes_are

  pub edge_count : length G.edges ≡ edges
  edge_count = decoded_edges file.limits g file.accepted ∙ sym edges_are

  to_below : (e : ℕ) → e < edges → to_of e < size G
  to_below e h = (decoded_flow file.limits g file.accepted).to_node (get_or G.edges e no_edge) (index_e no_edge G.edges e (omega (arith, edge_count)))

  module _ (heads nexts : ℕ) (apart : heads + 2 * nodes ≤ nexts) (few : edges ≤ max_edges) (w : List ℕ) (room : nexts + 2 * edges ≤ length w) (e key : ℕ) (is : key ≡ to_of e) (h : e < edges) where
    key_below : key < nodes
    key_below = omega (arith, is, to_below e h, node_count)

    -- where the edge is linked
    pub may_link : (heads + 2 * key + 2 ≤ length w) × ((nexts + 2 * e + 2 ≤ length w) × (e < two_bytes_last))
    may_link = (omega (arith, key_below), (omega arith, omega arith))

    -- one edge more
    pub edge_on : (w₀ w' : List ℕ) → Chained w heads nexts (into G) (size G) e → Outside heads (nexts + 2 * edges) w₀ w → w' ≡ linked w heads nexts key e
        → Chained w' heads nexts (into G) (size G) (e + 1) × Outside heads (nexts + 2 * edges) w₀ w'
    edge_on w₀ w' =
        chain_on to_of w₀ w w' heads nexts (size G) e key heads (nexts + 2 * edges) is (omega (arith, key_below, node_count)) (omega arith) (omega (arith, node_count)) (omega arith) room (omega arith)

module _ (s : Shape) (g p : List ℕ) (ready : Ready s g p) where
  -- ---- places

  module _ (w : List ℕ) (j key : ℕ) (h : j < 2 * s.rows) (c : Chained w row_heads_base row_nexts_base (uses (decode_property p)) s.rows j) where
    abbrev P : List Row
    P = decode_property p

    place_linked : judge_room ≤ length w → key ≡ named_or (named (row P (j / 2)) (j % 2)) s.rows → key < s.rows
        → Chained (linked w row_heads_base row_nexts_base key j) row_heads_base row_nexts_base (uses P) s.rows (j + 1)
    place_linked room e l =
        subst (Chained (linked w row_heads_base row_nexts_base key j) row_heads_base row_nexts_base (uses P) s.rows) (sym (add-one j))
        (chain_more w row_heads_base row_nexts_base (uses P) s.rows j key l
        (omega (arith, ready.few_rows))
        (omega (arith, ready.few_rows))
        (omega (arith, ready.few_rows))
        (λ k m. only (named (row P (j / 2)) (j % 2)) e k)
        c)
      where
        only : (o : Option ℕ) → key ≡ named_or o s.rows → (k : ℕ) → is_row o k ≡ eqb k key
        only none e k = absurd (omega arith)
        only (some q) e k = test_turned q k ∙ ap (eqb k) (sym e)

    place_outside : key < s.rows → Outside row_heads_base judge_room w (linked w row_heads_base row_nexts_base key j)
    place_outside l =
        linked_outside w row_heads_base row_nexts_base key j row_heads_base judge_room (omega arith) (omega (arith, ready.few_rows)) (omega arith) (omega (arith, ready.few_rows))

    -- a place that names a row
    pub place_on : (w' : List ℕ) → judge_room ≤ length w → key ≡ named_or (named (row P (j / 2)) (j % 2)) s.rows → key < s.rows → w' ≡ linked w row_heads_base row_nexts_base key j
        → Chained w' row_heads_base row_nexts_base (uses P) s.rows (j + 1) × Outside row_heads_base judge_room w w'
    place_on w' room e l d =
        subst (λ (v : List ℕ). Chained v row_heads_base row_nexts_base (uses P) s.rows (j + 1) × Outside row_heads_base judge_room w v) (sym d) (place_linked room e l, place_outside l)

    -- a place that names none
    pub place_skipped : key ≡ named_or (named (row P (j / 2)) (j % 2)) s.rows → s.rows ≤ key → Chained w row_heads_base row_nexts_base (uses P) s.rows (j + 1)
    place_skipped e l =
        subst (Chained w row_heads_base row_nexts_base (uses P) s.rows) (sym (add-one j)) (chain_skip w row_heads_base row_nexts_base (uses P) s.rows j (λ k m. skips (named (row P (j / 2)) (j % 2)) e k m) c)
      where
        skips : (o : Option ℕ) → key ≡ named_or o s.rows → (k : ℕ) → k < s.rows → is_row o k ≡ false
        skips none e k m = refl
        skips (some q) e k m = ne_eqb q k (λ d. omega arith)

  -- ---- both chains

  -- heads that were cleared
  module _ (w ys : List ℕ) (room : judge_room ≤ length w) where
    pub edges_none : ys ≡ replicate (length (mid_of node_heads_base node_heads_bytes w)) 0 → Chained (put_mid node_heads_base node_heads_bytes w ys) node_heads_base node_nexts_base (into (decode_graph g)) (size (decode_graph g)) 0
    edges_none z = chained_none (put_mid node_heads_base node_heads_bytes w ys) node_heads_base node_nexts_base (into (decode_graph g)) (size (decode_graph g))
        (λ q a b. cleared_inside node_heads_base node_heads_bytes w ys z (omega arith) q a (omega (arith, size_is s g p ready, ready.held.few_nodes)))

    pub places_none : ys ≡ replicate (length (mid_of row_heads_base 64 w)) 0 → Chained (put_mid row_heads_base 64 w ys) row_heads_base row_nexts_base (uses (decode_property p)) s.rows 0
    places_none z = chained_none (put_mid row_heads_base 64 w ys) row_heads_base row_nexts_base (uses (decode_property p)) s.rows
        (λ q a b. cleared_inside row_heads_base 64 w ys z (omega arith) q a (omega (arith, ready.few_rows)))

    -- places written where the heads of places were cleared
    pub beside_places : ys ≡ replicate (length (mid_of row_heads_base 64 w)) 0 → (w' : List ℕ) → Outside row_heads_base judge_room (put_mid row_heads_base 64 w ys) w' → Outside row_heads_base judge_room w w'
    beside_places z w' = outside_both row_heads_base row_nexts_base row_heads_base judge_room row_heads_base judge_room w (put_mid row_heads_base 64 w ys) w' (omega arith) (omega arith) (omega arith) (omega arith) (cleared_outside row_heads_base 64 w ys z (omega arith))

  pub indexed : (w w' : List ℕ) → Chained w node_heads_base node_nexts_base (into (decode_graph g)) (size (decode_graph g)) (length (decode_graph g).edges) → Outside row_heads_base judge_room w w'
      → Chained w' row_heads_base row_nexts_base (uses (decode_property p)) s.rows (2 * s.rows) → Index (decode_graph g) (decode_property p) w'
  indexed w w' c o d = record {
    by_node = chained_kept w w' node_heads_base node_nexts_base (into (decode_graph g)) (size (decode_graph g)) (length (decode_graph g).edges) row_heads_base judge_room (omega (arith, size_is s g p ready, ready.held.few_nodes)) (omega (arith, edges_is s g p ready, ready.held.few_edges)) o c;
    by_row = subst (λ (n : ℕ). Chained w' row_heads_base row_nexts_base (uses (decode_property p)) n (2 * n)) (sym (rows_is s g p ready)) d;
  }
