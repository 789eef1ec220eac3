-- For the code that prepares the search: the kind of a node and the slot of an edge as they are read, parts that are blank, and what stands in the buffer once all is put there.
use mathlib.Core.Path.{◌≡◌, refl, sym, ap, ap₂, subst, ◌∙◌}
use mathlib.Core.Logic.{inl, inr}
use mathlib.Core.Bool.{Bool, true, false, ◌&&◌}
use mathlib.Core.List.{List}
use Prim.Native.Nat.{ℕ, ◌+◌, ◌*◌, ◌/◌, ◌≤◌, ◌<◌}
use native.Mathlib.Decide.{ℕ_discrete}
use native.Mathlib.Omega.{arith}
use lib.Dec.{T, eqb, ltb, ltb→lt, lt→ltb}
use lib.ListN.{length, get_or}
use Rattle.files.specs.Access.{GraphFile, node_held, edge_held}
use Rattle.files.specs.Basics.Lists.{index_e}
use Rattle.files.specs.Basics.Tests.{and_l, and_r, and_i, one}
use Rattle.files.specs.Cells.{has_bit, put_bit}
use Rattle.files.specs.Cells.Laws.{zero_bit, bit_byte, cell_agree}
use Rattle.files.specs.Decode.{decode_graph}
use Rattle.files.specs.Decode.Graphs.{decoded_size, decoded_filed}
use Rattle.files.specs.Graph.{Graph, Node, node, no_node}
use Rattle.files.specs.Places.{two_bytes_last, line_bytes, max_nodes}
use Rattle.files.specs.Refusal.{nodes_of}
use Rattle.files.specs.declared.graph.GraphEdge.{GraphEdge}
use Rattle.files.specs.declared.graph.GraphNode.{GraphNode}
use Rattle.judging.specs.Places.{compare_room, cursors_base, heads_base, held_base, kinds_base, neighbours_base, neighbours_end, nexts_base}
use Rattle.judging.specs.declared.sizes.Sizes.{Sizes}
use Rattle.judging.specs.Chains.{Chained, Outside, linked}
use Rattle.judging.specs.Chains.Laws.{chained_none, chained_same, chain_on}
use Rattle.judging.specs.Refinement.{Both, rel, kind, of_kind, edge, neighbour, labelled_into, KindRows, Neighbours, Refining}
use Rattle.judging.specs.Refinement.Files.{first_size, second_size, first_edges, second_edges, first_flow, second_flow, second_fits, first_edge_in, second_edge_in}
use Rattle.judging.specs.Refinement.Preparing.{put_beside, kinds_none, kinds_more, kind_is, Putting, putting_none, putting_more, putting_end}
use Rattle.judging.specs.Simulation.{alike}
use Rattle.judging.specs.Simulation.Laws.{alike_i, related_e, related_simulation}

-- ---- the kind of a node

module _ (l : List ℕ) (file : GraphFile l) (g : ℕ) (h : g < nodes_of l) (u : GraphNode) (is : u ≡ node_held (node (decode_graph l) g)) where
  abbrev v : Node
  v = node (decode_graph l) g

  method_low : u.method ≤ 8
  method_low =
      let m = (decoded_filed file.limits l file.accepted).methods v (index_e no_node (decode_graph l).nodes g (omega (arith, h, decoded_size file.limits l file.accepted))) in
      omega (arith, m.1, ap (λ (z : GraphNode). z.method) is)

  pub kind_returns : u.returns ≡ true → (2 * u.method + 1 ≡ kind v) × (2 * u.method + 1 < 18)
  kind_returns e = (ap₂ (λ (m : ℕ) (b : Bool). 2 * m + one b) (ap (λ (z : GraphNode). z.method) is) (sym e ∙ ap (λ (z : GraphNode). z.returns) is), omega (arith, method_low))

  pub kind_goes_on : u.returns ≡ false → (2 * u.method ≡ kind v) × (2 * u.method < 18)
  kind_goes_on e = (plus (2 * u.method) ∙ ap₂ (λ (m : ℕ) (b : Bool). 2 * m + one b) (ap (λ (z : GraphNode). z.method) is) (sym e ∙ ap (λ (z : GraphNode). z.returns) is), omega (arith, method_low))
    where
      plus : (n : ℕ) → n ≡ n + 0
      plus n = omega arith

-- bits of bytes that are 0
blank_bit : (w : List ℕ) (a b base h : ℕ) → ((q : ℕ) → a ≤ q → q < b → get_or w q 0 ≡ 0) → a ≤ base → base + h / 8 < b → has_bit w base h ≡ false
blank_bit w a b base h z l m = zero_bit w base h (z (base + h / 8) (omega arith) m)

module _ (s : Sizes) (f g : List ℕ) (x : Both s f g) where
  abbrev G : Graph
  G = decode_graph f

  abbrev H : Graph
  H = decode_graph g

  -- ---- rows of kinds

  pub kinds_start : (w : List ℕ) → ((q : ℕ) → kinds_base ≤ q → q < heads_base → get_or w q 0 ≡ 0) → KindRows H 0 w
  kinds_start w z = kinds_none H w (λ k h a b. blank_bit w kinds_base heads_base (kinds_base + line_bytes * k) h z (omega arith) (omega arith))

  pub kinds_turn : (w₀ w w' : List ℕ) (h k : ℕ) → h < s.second.nodes → compare_room ≤ length w → (k ≡ kind (node H h)) × (k < 18) → w' ≡ put_bit w (kinds_base + line_bytes * k) h → KindRows H h w → Outside kinds_base heads_base w₀ w
      → KindRows H (h + 1) w' × Outside kinds_base heads_base w₀ w'
  kinds_turn w₀ w w' h k l room is put rows o =
      (kinds_more H h w w' k (omega (arith, x.second_held.few_nodes)) is.0 is.1 (omega arith) put rows, put_beside w₀ w w' (kinds_base + line_bytes * k) h kinds_base heads_base put (omega arith) (omega (arith, is.1, x.second_held.few_nodes)) o)

  -- ---- the relation at first

  -- the nodes below n are related to all of their kind
  abbrev pub Related : ℕ → List ℕ → Type 0
  Related n w = (u h : ℕ) → u < n → h < max_nodes → rel w u h ≡ (ltb h s.second.nodes && alike (node G u) (node H h))

  pub related_turn : (w₀ w w' r : List ℕ) (n k : ℕ) → n < s.first.nodes → KindRows H s.second.nodes w₀ → Outside 0 held_base w₀ w → Related n w → (k ≡ kind (node G n)) × (k < 18) → ((h : ℕ) → h < max_nodes → has_bit r 0 h ≡ of_kind w k h)
      → ((h : ℕ) → h < max_nodes → rel w' n h ≡ has_bit r 0 h) → Outside (32 * n) (32 * n + 32) w w' → Related (n + 1) w' × Outside 0 held_base w₀ w'
  related_turn w₀ w w' r n k l rows o before is row put beside = ((λ u h a b. go u h a b (ℕ_discrete u n)), out)
    where
      go : (u h : ℕ) → u < n + 1 → h < max_nodes → Dec (u ≡ n) → rel w' u h ≡ (ltb h s.second.nodes && alike (node G u) (node H h))
      go u h a b (yes e) =
          subst (λ (i : ℕ). rel w' i h ≡ (ltb h s.second.nodes && alike (node G i) (node H h))) (sym e)
          (put h b ∙ row h b ∙ bit_byte w w₀ (kinds_base + line_bytes * k) (kinds_base + line_bytes * k) h (o (kinds_base + line_bytes * k + h / 8) (inr (omega arith))) ∙ rows k h is.1 b
          ∙ ap (λ (t : Bool). ltb h s.second.nodes && t) (ap (eqb (kind (node H h))) is.0 ∙ kind_is (node G n) (node H h)))
      go u h a b (no f) = bit_byte w' w (32 * u) (32 * u) h (beside (32 * u + h / 8) (inl (omega arith))) ∙ before u h (omega arith) b

      out : Outside 0 held_base w₀ w'
      out q (inl i) = absurd (omega arith)
      out q (inr i) = beside q (inr (omega (arith, x.first_held.few_nodes))) ∙ o q (inr i)

  -- ---- slots

  pub slot_is : (e : ℕ) (u : GraphEdge) → e < s.first.edges → u ≡ edge_held (edge G e) → (9 * u.to + u.label ≡ 9 * (edge G e).to + (edge G e).label) × (u.to < max_nodes) × (u.label < 9)
  slot_is e u h is =
      let b = first_edge_in s f g x e h in
      let t = ap (λ (z : GraphEdge). z.to) is in
      let l = ap (λ (z : GraphEdge). z.label) is in
      (ap₂ (λ (m n : ℕ). 9 * m + n) t l, omega (arith, t, b.1, x.first_held.few_nodes), omega (arith, l, b.2))

  abbrev slot : ℕ → ℕ
  slot e = 9 * (edge G e).to + (edge G e).label

  slot_low : (e : ℕ) → e < s.first.edges → slot e < 9 * s.first.nodes
  slot_low e h = let b = first_edge_in s f g x e h in omega (arith, b.1, b.2)

  pub slots_start : (w : List ℕ) → ((q : ℕ) → heads_base ≤ q → q < nexts_base → get_or w q 0 ≡ 0) → Chained w heads_base nexts_base (labelled_into G) (9 * s.first.nodes) 0
  slots_start w z = chained_none w heads_base nexts_base (labelled_into G) (9 * s.first.nodes) (λ q a b. z q a (omega (arith, x.first_held.few_nodes)))

  pub may_slot : (w : List ℕ) (e k : ℕ) → e < s.first.edges → compare_room ≤ length w → k ≡ slot e → (heads_base + 2 * k + 2 ≤ length w) × ((nexts_base + 2 * e + 2 ≤ length w) × (e < two_bytes_last))
  may_slot w e k h room is = (omega (arith, is, slot_low e h, x.first_held.few_nodes), (omega (arith, x.first_held.few_edges), omega (arith, x.first_held.few_edges)))

  pub slots_turn : (w₀ w w' : List ℕ) (e k : ℕ) → e < s.first.edges → compare_room ≤ length w → k ≡ slot e → Chained w heads_base nexts_base (labelled_into G) (9 * s.first.nodes) e → Outside heads_base cursors_base w₀ w → w' ≡ linked w heads_base nexts_base k e
      → Chained w' heads_base nexts_base (labelled_into G) (9 * s.first.nodes) (e + 1) × Outside heads_base cursors_base w₀ w'
  slots_turn w₀ w w' e k h room is =
      chain_on slot w₀ w w' heads_base nexts_base (9 * s.first.nodes) e k heads_base cursors_base is (omega (arith, is, slot_low e h)) (omega arith) (omega (arith, x.first_held.few_nodes)) (omega (arith, x.first_held.few_edges)) (omega arith) (omega (arith, x.first_held.few_edges))

  -- ---- neighbours

  pub edge_fits : (j : ℕ) (u : GraphEdge) → j < s.second.edges → u ≡ edge_held (edge H j) → (u.from < max_nodes) × (u.to < max_nodes) × (u.label < 9)
  edge_fits j u h is =
      let b = second_edge_in s f g x j h in
      (omega (arith, ap (λ (z : GraphEdge). z.from) is, b.0, x.second_held.few_nodes), omega (arith, ap (λ (z : GraphEdge). z.to) is, b.1, x.second_held.few_nodes), omega (arith, ap (λ (z : GraphEdge). z.label) is, b.2))

  pub edge_put : (w w₁ w₂ : List ℕ) (j : ℕ) (u : GraphEdge) → u ≡ edge_held (edge H j) → w₁ ≡ put_bit w (neighbours_base + line_bytes * (10 * u.from + u.label)) u.to → w₂ ≡ put_bit w₁ (neighbours_base + line_bytes * (10 * u.to + 9)) u.from
      → w₂ ≡ put_bit (put_bit w (neighbours_base + line_bytes * (10 * (edge H j).from + (edge H j).label)) (edge H j).to) (neighbours_base + line_bytes * (10 * (edge H j).to + 9)) (edge H j).from
  edge_put w w₁ w₂ j u is a b =
      b ∙ ap (λ (v : List ℕ). put_bit v (neighbours_base + line_bytes * (10 * u.to + 9)) u.from) a
      ∙ ap (λ (z : GraphEdge). put_bit (put_bit w (neighbours_base + line_bytes * (10 * z.from + z.label)) z.to) (neighbours_base + line_bytes * (10 * z.to + 9)) z.from) is

  pub putting_start : (w : List ℕ) → ((q : ℕ) → neighbours_base ≤ q → q < neighbours_base + 320 * s.second.nodes → get_or w q 0 ≡ 0) → Putting H s.second.nodes 0 w
  putting_start w z = putting_none H s.second.nodes w (λ m y a c. blank_bit w neighbours_base (neighbours_base + 320 * s.second.nodes) (neighbours_base + line_bytes * m) y z (omega arith) (omega arith))

  narrow : (d : ℕ) → d < length H.edges → ((edge H d).from < max_nodes) × ((edge H d).to < max_nodes) × ((edge H d).label < 9)
  narrow d h = let b = second_edge_in s f g x d (omega (arith, h, second_edges s f g x)) in (omega (arith, b.0, x.second_held.few_nodes), omega (arith, b.1, x.second_held.few_nodes), b.2)

  pub putting_turn : (w₀ w w' : List ℕ) (j : ℕ) → j < s.second.edges → compare_room ≤ length w → Putting H s.second.nodes j w → Outside neighbours_base neighbours_end w₀ w
      → w' ≡ put_bit (put_bit w (neighbours_base + line_bytes * (10 * (edge H j).from + (edge H j).label)) (edge H j).to) (neighbours_base + line_bytes * (10 * (edge H j).to + 9)) (edge H j).from
      → Putting H s.second.nodes (j + 1) w' × Outside neighbours_base neighbours_end w₀ w'
  putting_turn w₀ w w' j h room p o is =
      let hj : j < length H.edges = omega (arith, h, second_edges s f g x) in
      let b = narrow j hj in
      let once = put_bit w (neighbours_base + line_bytes * (10 * (edge H j).from + (edge H j).label)) (edge H j).to in (
        putting_more H s.second.nodes j w hj (omega arith) narrow p w' is,
        put_beside w₀ once w' (neighbours_base + line_bytes * (10 * (edge H j).to + 9)) (edge H j).from neighbours_base neighbours_end is (omega arith) (omega (arith, b.0, b.1, b.2))
            (put_beside w₀ w once (neighbours_base + line_bytes * (10 * (edge H j).from + (edge H j).label)) (edge H j).to neighbours_base neighbours_end refl (omega arith) (omega (arith, b.0, b.1, b.2)) o),
      )

  pub putting_all : (w : List ℕ) (j : ℕ) → s.second.edges ≤ j → Putting H s.second.nodes j w → Neighbours H s.second.nodes w
  putting_all w j l p = putting_end H s.second.nodes j w (omega (arith, second_edges s f g x)) p

  -- ---- all together

  -- w₂ has kinds, w₃ slots, w₄ neighbours, and w₅ is related
  module _ (w₂ w₃ w₄ w₅ : List ℕ) (o₃ : Outside heads_base cursors_base w₂ w₃) (o₄ : Outside neighbours_base neighbours_end w₃ w₄) (o₅ : Outside 0 held_base w₄ w₅) where
    pub kinds_stay : KindRows H s.second.nodes w₂ → KindRows H s.second.nodes w₄
    kinds_stay rows k h a b = bit_byte w₄ w₂ (kinds_base + line_bytes * k) (kinds_base + line_bytes * k) h (o₄ (kinds_base + line_bytes * k + h / 8) (inl (omega arith)) ∙ o₃ (kinds_base + line_bytes * k + h / 8) (inl (omega arith))) ∙ rows k h a b

    pub prepared : compare_room ≤ length w₅ → Chained w₃ heads_base nexts_base (labelled_into G) (9 * s.first.nodes) s.first.edges → Neighbours H s.second.nodes w₄ → Related s.first.nodes w₅ → Refining G H w₅
    prepared room slots near rels = record {
      room = room;
      by_slot = subst (λ (n : ℕ). Chained w₅ heads_base nexts_base (labelled_into G) (9 * n) (length G.edges)) (sym (first_size s f g x)) (subst (Chained w₅ heads_base nexts_base (labelled_into G) (9 * s.first.nodes)) (sym (first_edges s f g x)) (chained_same w₃ w₅ heads_base nexts_base (labelled_into G) (9 * s.first.nodes) s.first.edges
          (λ k h. cell_agree w₅ w₃ heads_base 2 k (λ q a b. past q (omega arith) (omega (arith, x.first_held.few_nodes)))) (λ j h. cell_agree w₅ w₃ nexts_base 2 j (λ q a b. past q (omega arith) (omega (arith, x.first_held.few_edges)))) slots));
      neighbours = subst (λ (n : ℕ). Neighbours H n w₅) (sym (second_size s f g x)) (record {
        successors = λ k l y a b c. row_same (10 * k + l) y ∙ near.successors k l y a b c;
        predecessors = λ k y a c. row_same (10 * k + 9) y ∙ near.predecessors k y a c;
      });
      inside = λ u h a b t.
          let r = subst T (rels u h (omega (arith, a, first_size s f g x)) b) t in
          (omega (arith, second_size s f g x, ltb→lt h s.second.nodes (and_l (ltb h s.second.nodes) (alike (node G u) (node H h)) r)), and_r (ltb h s.second.nodes) (alike (node G u) (node H h)) r);
      contains = λ u h t.
          let b = related_e G H (first_flow s f g x) (second_flow s f g x) u h t in
          let z = related_simulation G H (first_flow s f g x) (second_flow s f g x) in
          subst T (sym (rels u h (omega (arith, b.0, first_size s f g x)) (omega (arith, b.1, second_fits s f g x))))
          (and_i (ltb h s.second.nodes) (alike (node G u) (node H h)) (lt→ltb h s.second.nodes (omega (arith, b.1, second_size s f g x))) (alike_i (node G u) (node H h) (z.same_method u h t) (z.same_ret u h t)));
    }
      where
        past : (q : ℕ) → heads_base ≤ q → q < cursors_base → get_or w₅ q 0 ≡ get_or w₃ q 0
        past q a b = o₅ q (inr (omega arith)) ∙ o₄ q (inl (omega arith))

        row_same : (m y : ℕ) → neighbour w₅ m y ≡ neighbour w₄ m y
        row_same m y = bit_byte w₅ w₄ (neighbours_base + line_bytes * m) (neighbours_base + line_bytes * m) y (o₅ (neighbours_base + line_bytes * m + y / 8) (inr (omega arith)))
