-- For the code that finds the levels: a rank given, a walk along a chain, a row that leans on a popped pair, and the places of the queue.
use mathlib.Core.Path.{◌≡◌, refl, sym, ap, subst, ◌∙◌}
use mathlib.Core.Logic.{◌⊎◌, inl, inr}
use mathlib.Core.Bool.{Bool, true, false, not, cond, ◌&&◌, ◌||◌}
use mathlib.Core.List.{List}
use mathlib.Core.Option.{none, some, none-ne-some}
use Prim.Native.Nat.{ℕ, zero, suc, ◌*◌, ◌/◌, ◌%◌, ◌≤◌, ◌<◌}
use native.Mathlib.Omega.{arith}
use lib.Dec.{T, eqb, leb}
use lib.ListN.{length, get_or}
use Rattle.files.specs.Access.{row_held, aims_along, operator_of, first_of, second_of}
use Rattle.files.specs.Access.Boxes.{boxed_if, boxed_operator}
use Rattle.files.specs.Basics.Lists.{index_e}
use Rattle.files.specs.Basics.Tables.{tally_le}
use Rattle.files.specs.Basics.Tests.{T_eq}
use Rattle.files.specs.Cells.{cell}
use Rattle.files.specs.Decode.{decode_graph, decode_property}
use Rattle.files.specs.Graph.{Graph, size, no_edge}
use Rattle.files.specs.Property.{Row, both, either, row, obliged, Boxed, is_box}
use Rattle.files.specs.declared.property.PropertyRow.{PropertyRow}
use Rattle.judging.specs.Places.{judge_room, max_pairs}
use Rattle.judging.specs.declared.shape.Shape.{Shape}
use Rattle.judging.specs.Levels.{level}
use Rattle.judging.specs.Ranking.{Ready, pair, rank_at, queue_at, Given, given, tail_after, Finding, Grew, RowDone, Done, Found, Ranked, Names}
use Rattle.judging.specs.Ranking.Stores.{give_room}
use Rattle.judging.proofs.Theorems.Ranking.Stores.{give_grew}
use Rattle.judging.specs.Ranking.Files.{size_is, edges_is, rows_is, is_flow, is_property, nodes_fit, rows_fit, Operands, operands, box_operand, both_falls, either_level}
use Rattle.judging.specs.Ranking.Laws.{row_done_kept, both_done, either_done}
use Rattle.judging.proofs.Theorems.Ranking.Laws.{rank_tells, next_finding, later_found, all_found}

-- ---- files

nor : (c d : Bool) → not c && not d ≡ not (c || d)
nor true d = refl
nor false d = refl

module _ (s : Shape) (g p : List ℕ) (ready : Ready s g p) where
  abbrev G : Graph
  G = decode_graph g

  abbrev P : List Row
  P = decode_property p

  pub node_in : (v : ℕ) → v < s.graph.nodes → v < size G
  node_in v h = omega (arith, size_is s g p ready)

  pub row_in : (r : ℕ) → r < s.rows → r < length P
  row_in r h = omega (arith, rows_is s g p ready)

  pub node_of : (v : ℕ) → v < size G → v < s.graph.nodes
  node_of v h = omega (arith, size_is s g p ready)

  pub row_of : (r : ℕ) → r < length P → r < s.rows
  row_of r h = omega (arith, rows_is s g p ready)

  pub from_in : (e : ℕ) → e < s.graph.edges → (get_or G.edges e no_edge).from < s.graph.nodes
  from_in e h =
      node_of (get_or G.edges e no_edge).from
      ((is_flow s g p ready).from_node (get_or G.edges e no_edge) (index_e no_edge G.edges e (omega (arith, edges_is s g p ready))))

  -- ---- a rank given

  module _ (k tail : ℕ) (w : List ℕ) (f : Finding G P k tail w) (v r : ℕ) (hv : v < s.graph.nodes) (hr : r < s.rows) where
    pair_fits : pair v r < max_pairs
    pair_fits = omega (arith, ready.held.few_nodes, ready.few_rows)

    module _ (turns : T (not (level G P (suc k) v r))) where
      pub may_give : (pair v r < max_pairs) × ((rank_at w v r ≡ 0 → tail < max_pairs) × ((judge_room ≤ length w) × (k ≤ max_pairs)))
      may_give = (
        pair_fits,
        (
          give_room G P (is_flow s g p ready) (is_property s g p ready) (nodes_fit s g p ready) (rows_fit s g p ready) k tail w f v r (node_in v hv) (row_in r hr) turns,
          (f.room, f.low),
        ),
      )

      pub gave : (t : ℕ) (w' : List ℕ) → (t ≡ tail_after w tail v r) × (w' ≡ given w tail v r k) → Grew G P k tail t w w' × Given w' v r
      gave t w' e =
          subst (λ (n : ℕ). Grew G P k tail n w w' × Given w' v r) (sym e.0)
          (subst (λ (u : List ℕ). Grew G P k tail (tail_after w tail v r) w u × Given u v r) (sym e.1)
          (give_grew G P (is_flow s g p ready) (is_property s g p ready) (nodes_fit s g p ready) (rows_fit s g p ready) k tail w f v r (node_in v hv) (row_in r hr) turns))

  -- ---- a row that names the row of a popped pair

  module _ (k tail : ℕ) (w : List ℕ) (f : Finding G P k tail w) (v r q : ℕ) (hv : v < s.graph.nodes) (hq : q < s.rows) (falls : T (not (level G P k v r))) (names : Names (row P q) r)
      (u : PropertyRow) (is : u ≡ row_held (row P q)) where
    -- a box obliges to the row where the code says that it looks along the edge, and only there
    module _ (e : is_box (operator_of u) ≡ true) where
      pub is_boxed : Boxed (row P q)
      is_boxed = boxed_if (row P q) (subst T (sym e ∙ ap (λ (y : PropertyRow). is_box (operator_of y)) is) tt)

      obliges : (l : ℕ) → obliged (row P q) l ≡ cond (aims_along u l) (some r) none
      obliges l = box_operand G P (row P q) r is_boxed names l ∙ ap (λ (y : PropertyRow). cond (aims_along y l) (some r) none) (sym is)

      pub aims_obliges : (l : ℕ) → T (aims_along u l) → obliged (row P q) l ≡ some r
      aims_obliges l t = obliges l ∙ ap (λ (b : Bool). cond b (some r) none) (T_eq (aims_along u l) t)

      pub obliges_aims : (l : ℕ) → obliged (row P q) l ≡ some r → T (aims_along u l)
      obliges_aims l d = go (aims_along u l) (sym (obliges l) ∙ d)
        where
          go : (b : Bool) → cond b (some r) none ≡ some r → T b
          go true x = tt
          go false x = absurd (none-ne-some _ x)

    module _ (n : is_box (operator_of u) ≡ false) where
      two : Operands G P (row P q) r
      two = operands G P (row P q) r ((is_property s g p ready).names_rows q (row_in q hq)) names (λ b. subst T (ap (λ (y : PropertyRow). is_box (operator_of y)) (sym is) ∙ n) (boxed_operator (row P q) b))

      a_is : first_of u ≡ two.a
      a_is = ap (λ (y : PropertyRow). first_of y) is ∙ two.is_a

      b_is : second_of u ≡ two.b
      b_is = ap (λ (y : PropertyRow). second_of y) is ∙ two.is_b

      pub a_fits : (pair v (first_of u) < max_pairs) × (judge_room ≤ length w)
      a_fits = (omega (arith, a_is, two.a_row, rows_fit s g p ready, ready.held.few_nodes), f.room)

      pub b_fits : (pair v (second_of u) < max_pairs) × (judge_room ≤ length w)
      b_fits = (omega (arith, b_is, two.b_row, rows_fit s g p ready, ready.held.few_nodes), f.room)

      -- it has a rank where the pair is, and so is done
      pub given_done : (w' : List ℕ) → Given w' v q → RowDone G P k w' v r q
      given_done w' d = go two.by_operator
        where
          go : ((row P q ≡ both two.a two.b) × (operator_of (row_held (row P q)) ≡ 7)) ⊎ ((row P q ≡ either two.a two.b) × (operator_of (row_held (row P q)) ≡ 8)) → RowDone G P k w' v r q
          go (inl e) = both_done G P k w' v r q two.a two.b e.0 d
          go (inr e) = either_done G P k w' v r q two.a two.b e.0 (λ t. d)

      module _ (x y : Bool) (ex : x ≡ (leb 1 (rank_at w v (first_of u)) && leb (rank_at w v (first_of u)) k)) (ey : y ≡ (leb 1 (rank_at w v (second_of u)) && leb (rank_at w v (second_of u)) k)) where
        x_is : x ≡ not (level G P k v two.a)
        x_is =
            ex ∙ ap (λ (m : ℕ). leb 1 (rank_at w v m) && leb (rank_at w v m) k) a_is
            ∙ rank_tells G P (is_flow s g p ready) (is_property s g p ready) k tail w f v two.a (node_in v hv) two.a_row

        y_is : y ≡ not (level G P k v two.b)
        y_is =
            ey ∙ ap (λ (m : ℕ). leb 1 (rank_at w v m) && leb (rank_at w v m) k) b_is
            ∙ rank_tells G P (is_flow s g p ready) (is_property s g p ready) k tail w f v two.b (node_in v hv) two.b_row

        says : (eqb (operator_of u) 7 || (x && y)) ≡ (eqb (operator_of (row_held (row P q))) 7 || (not (level G P k v two.a) && not (level G P k v two.b)))
        says =
            ap (λ (z : PropertyRow). eqb (operator_of z) 7 || (x && y)) is
            ∙ ap (λ (c : Bool). eqb (operator_of (row_held (row P q))) 7 || (c && y)) x_is
            ∙ ap (λ (c : Bool). eqb (operator_of (row_held (row P q))) 7 || (not (level G P k v two.a) && c)) y_is

        either_says : (row P q ≡ either two.a two.b) × (operator_of (row_held (row P q)) ≡ 8) → (eqb (operator_of u) 7 || (x && y)) ≡ not (level G P (suc k) v q)
        either_says e =
            says
            ∙ ap (λ (o : ℕ). eqb o 7 || (not (level G P k v two.a) && not (level G P k v two.b))) e.1
            ∙ nor (level G P k v two.a) (level G P k v two.b)
            ∙ ap not (sym (either_level G P k v q two.a two.b e.0))

        -- what the code asks is whether the row turns false
        pub row_turns : (eqb (operator_of u) 7 || (x && y)) ≡ true → T (not (level G P (suc k) v q))
        row_turns t = go two.by_operator
          where
            go : ((row P q ≡ both two.a two.b) × (operator_of (row_held (row P q)) ≡ 7)) ⊎ ((row P q ≡ either two.a two.b) × (operator_of (row_held (row P q)) ≡ 8)) → T (not (level G P (suc k) v q))
            go (inl e) = both_falls G P k v q two.a two.b r e.0 two.names_one falls
            go (inr e) = subst T (sym t ∙ either_says e) tt

        pub row_stays : (eqb (operator_of u) 7 || (x && y)) ≡ false → RowDone G P k w v r q
        row_stays t = go two.by_operator
          where
            go : ((row P q ≡ both two.a two.b) × (operator_of (row_held (row P q)) ≡ 7)) ⊎ ((row P q ≡ either two.a two.b) × (operator_of (row_held (row P q)) ≡ 8)) → RowDone G P k w v r q
            go (inl e) = absurd (subst T (sym (says ∙ ap (λ (o : ℕ). eqb o 7 || (not (level G P k v two.a) && not (level G P k v two.b))) e.1) ∙ t) tt)
            go (inr e) = either_done G P k w v r q two.a two.b e.0 (λ z. absurd (subst T (sym (either_says e) ∙ t) z))

  -- ---- places of the queue

  -- the queue has room
  pub tail_fits : (k head tail : ℕ) (w : List ℕ) → Found G P k head tail w → tail ≤ max_pairs
  tail_fits k head tail w f = omega (arith, f.counted, tally_le (λ (j : ℕ). not (eqb (cell w 0 2 j) 0)) (32 * size G), nodes_fit s g p ready)

  pub entry_finding : (k head tail : ℕ) (w : List ℕ) → Found G P k head tail w → head < tail → Finding G P k tail w
  entry_finding k head tail w f h = next_finding G P (is_flow s g p ready) (is_property s g p ready) k head tail w f h (tail_fits k head tail w f)

  -- done with a pair stays done
  pub done_kept : (k tail tail' : ℕ) (w w' : List ℕ) (v r : ℕ) → Grew G P k tail tail' w w' → Done G P k w v r → Done G P k w' v r
  done_kept k tail tail' w w' v r x d q hq = row_done_kept G P k tail tail' w w' v r q hq x (d q hq)

  module _ (k head tail end : ℕ) (w₀ w : List ℕ) (f : Found G P k head tail w₀) (x : Grew G P k tail end w₀ w) (i at : ℕ) (hi : i < tail) (is : at ≡ queue_at w i) where
    held : at ≡ pair (f.queued i hi).its_node (f.queued i hi).its_row
    held = is ∙ x.queue_kept i hi ∙ (f.queued i hi).is_there

    node_held_there : at / 32 ≡ (f.queued i hi).its_node
    node_held_there = omega (arith, held, (f.queued i hi).is_row, rows_fit s g p ready)

    row_held_there : at % 32 ≡ (f.queued i hi).its_row
    row_held_there = omega (arith, held, (f.queued i hi).is_row, rows_fit s g p ready)

    -- the pair that stands there may be popped
    pub popped : (at / 32 < s.graph.nodes) × (at % 32 < s.rows) × T (not (level G P k (at / 32) (at % 32)))
    popped = (
      node_of (at / 32) (subst (λ (n : ℕ). n < size G) (sym node_held_there) (f.queued i hi).is_node),
      row_of (at % 32) (subst (λ (n : ℕ). n < length P) (sym row_held_there) (f.queued i hi).is_row),
      subst (λ (n : ℕ). T (not (level G P k n (at % 32)))) (sym node_held_there)
          (subst (λ (n : ℕ). T (not (level G P k (f.queued i hi).its_node n))) (sym row_held_there) (f.queued i hi).is_false),
    )

    -- and is the one that the level asks for
    pub popped_done : (w' : List ℕ) → Done G P k w' (at / 32) (at % 32) → (v r : ℕ) → v < size G → r < length P → queue_at w₀ i ≡ pair v r → Done G P k w' v r
    popped_done w' d v r hv hr e =
        let a : at ≡ pair v r = is ∙ x.queue_kept i hi ∙ e in
        let n : at / 32 ≡ v = omega (arith, a, rows_fit s g p ready) in
        let m : at % 32 ≡ r = omega (arith, a, rows_fit s g p ready) in
        subst (λ (y : ℕ). Done G P k w' y r) n (subst (λ (y : ℕ). Done G P k w' (at / 32) y) m d)

  pub level_on : (k head tail tail' : ℕ) (w w' : List ℕ) → 1 ≤ k → Found G P k head tail w → head < tail → Grew G P k tail tail' w w'
      → ((i : ℕ) → head ≤ i → i < tail → (v r : ℕ) → v < size G → r < length P → queue_at w i ≡ pair v r → Done G P k w' v r) → Found G P (suc k) tail tail' w'
  level_on zero head tail tail' w w' l f h x d = absurd (omega arith)
  level_on (suc k) head tail tail' w w' l f h x d = later_found G P (is_flow s g p ready) (is_property s g p ready) k head tail tail' w w' f h x d

  pub levels_end : (k head tail : ℕ) (w : List ℕ) → 1 ≤ k → Found G P k head tail w → tail ≤ head → Ranked G P w
  levels_end zero head tail w l f h = absurd (omega arith)
  levels_end (suc k) head tail w l f h = all_found G P (is_flow s g p ready) (is_property s g p ready) k head tail w f h
