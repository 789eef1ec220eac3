-- For the code that finds causes: ranks and first edges as their cells hold them, targets as numbers, and causes by a row's operator.
use mathlib.Core.Path.{◌≡◌, refl, sym, ap, ap₂, subst, ◌∙◌}
use mathlib.Core.Logic.{inl}
use mathlib.Core.Bool.{Bool, true, false, not, cond, ◌&&◌, ◌||◌}
use mathlib.Core.List.{List, [], ◌∷◌}
use mathlib.Core.Option.{Option, none, some}
use Rattle.std.specs.Prelude.{Option as OptionOf, None, Some, IfSome, MatchOption}
use Rattle.std.specs.Option.{unwrap_or}
use Prim.Native.Nat.{ℕ, suc, ◌+◌, ◌*◌, ◌≤◌, ◌<◌}
use native.Mathlib.Nat.{mul-le-mul}
use native.Mathlib.Numerals.{add-one}
use native.Mathlib.Omega.{arith}
use lib.Dec.{T, eqb, ltb, leb, ltb→lt}
use lib.ListN.{length, get_or}
use borrow.Author.Tests.{le-leb, lt-leb}
use Rattle.files.specs.Access.{row_held, edge_held, first_edge, looked_at, aims_along, operator_of, first_of, second_of}
use Rattle.files.specs.Access.Boxes.{looks_obliged, boxed_if, boxed_operator, box_row_named}
use Rattle.files.specs.Access.Laws.{first_edge_le, leaves_in, in_leaves, scan_starts}
use Rattle.files.specs.Basics.First.{first_or}
use Rattle.files.specs.Basics.Lists.{index_e}
use Rattle.files.specs.Basics.Tests.{and_l, and_r}
use Rattle.files.specs.Cells.{cell, put_cell}
use Rattle.files.specs.Cells.Laws.{cells_on, cell_apart}
use Rattle.files.specs.Decode.{decode_graph, decode_property, row_of, Filed}
use Rattle.files.specs.Decode.Graphs.{decoded_filed}
use Rattle.files.specs.Graph.{Graph, size, no_edge}
use Rattle.files.specs.Places.{max_edges}
use Rattle.files.specs.Property.{Row, always, never, returns, not_returns, in_method, not_in_method, both, either, box, box_all, row, names, obliged, Boxed, is_box}
use Rattle.files.specs.declared.graph.GraphEdge.{GraphEdge}
use Rattle.files.specs.declared.property.PropertyRow.{PropertyRow}
use Rattle.judging.specs.Places.{firsts_base, judge_room, max_pairs}
use Rattle.judging.specs.declared.causes.Cause.{Cause}
use Rattle.judging.specs.declared.shape.Shape.{Shape}
use Rattle.judging.specs.Levels.{holds, rank}
use Rattle.judging.specs.Levels.Sheet.{no_cause, targets, lower, ahead, box_causes, causes, failing}
use Rattle.judging.specs.Levels.Sheet.Laws.{lower_is, ahead_is, box_none, box_some, causes_both, causes_box, causes_rest}
use Rattle.judging.proofs.Theorems.Levels.Sheet.Laws.{causes_either}
use Rattle.judging.specs.Ranking.{Ready, rank_at, Ranked}
use Rattle.judging.specs.Ranking.Files.{size_is, edges_is, rows_is, is_flow, is_property, nodes_fit, rows_fit}
use Rattle.judging.specs.Ranking.Laws.{ranked_e, ranked_i}
use Rattle.judging.specs.Sheets.{cause_held, AreCauses, as_causes, fails_at, best_target, better}
use Rattle.judging.specs.Sheets.Laws.{failing_at, failing_none, within, best_none, best_still, best_within, best_on, box_causes_are}
use Rattle.judging.proofs.Theorems.Sheets.Laws.{zero_holds, rank_zero, rank_found}

-- ---- ranks

module _ (s : Shape) (g p : List ℕ) (ready : Ready s g p) where
  abbrev G : Graph
  G = decode_graph g

  abbrev P : List Row
  P = decode_property p

  pub pairs_fit : s.graph.nodes * s.rows ≤ max_pairs
  pairs_fit = omega (arith, mul-le-mul ready.held.few_nodes ready.few_rows)

  as_node : (v : ℕ) → v < s.graph.nodes → v < size G
  as_node v h = omega (arith, size_is s g p ready)

  as_row : (r : ℕ) → r < s.rows → r < length P
  as_row r h = omega (arith, rows_is s g p ready)

  -- ---- the lowest failing entry, from what a search of the nodes gives

  pub lowest_failing : (r : OptionOf ℕ) → MatchOption r ((v : ℕ) → 0 ≤ v → v < s.graph.nodes → T (not (fails_at G P v))) (λ v. (0 ≤ v) × (v < s.graph.nodes) × T (fails_at G P v) × ((u : ℕ) → 0 ≤ u → u < v → T (not (fails_at G P u)))) → (unwrap_or r s.graph.nodes ≡ failing G P) × IfSome r (λ v. v < s.graph.nodes)
  lowest_failing None h = (sym (size_is s g p ready) ∙ sym (failing_none G P (λ v l. h v (omega arith) (omega (arith, l, size_is s g p ready)))), tt)
  lowest_failing (Some v) h = (sym (failing_at G P v (as_node v h.1) (λ u l. h.3 u (omega arith) l) h.2), h.1)

  module _ (w : List ℕ) (found : Ranked G P w) where
    module _ (v r x : ℕ) (hv : v < s.graph.nodes) (hr : r < s.rows) (is : x ≡ rank_at w v r) where
      pub rank_past : x ≡ 0 → s.graph.nodes * s.rows + 1 ≡ rank G P v r
      rank_past e =
          let a = rank_zero G P (is_flow s g p ready) (is_property s g p ready) w found v r (as_node v hv) (as_row r hr) (sym is ∙ e) in
          let b : size G * length P ≡ s.graph.nodes * s.rows = ap₂ ◌*◌ (size_is s g p ready) (rows_is s g p ready) in
          omega (arith, a, b)

      pub rank_read : (x ≡ 0 → ⊥) → x ≡ rank G P v r
      rank_read f = is ∙ rank_found G P (is_flow s g p ready) (is_property s g p ready) w found v r (as_node v hv) (as_row r hr) (λ e. f (is ∙ e))

    pub root_holds : (v x : ℕ) → v < s.graph.nodes → x ≡ cell w 0 2 (32 * v) → eqb x 0 ≡ holds G P v 0
    root_holds v x h is =
        let e : 32 * v ≡ 32 * v + 0 = omega arith in
        ap (λ (n : ℕ). eqb n 0) (is ∙ ap (cell w 0 2) e)
        ∙ zero_holds G P (is_flow s g p ready) (is_property s g p ready) w found v 0 (as_node v h) (is_property s g p ready).has_root

  -- ---- the first edges

  abbrev Firsts : List ℕ → ℕ → Type 0
  Firsts w v = (u : ℕ) → u < v → cell w firsts_base 2 u ≡ first_edge G u

  pub few_first : (v : ℕ) → first_edge G v ≤ max_edges
  few_first v = omega (arith, first_edge_le G v, edges_is s g p ready, ready.held.few_edges)

  module _ (w w' : List ℕ) (v first : ℕ) (put : w' ≡ put_cell w firsts_base 2 v first) where
    pub firsts_on : judge_room ≤ length w → v ≤ 256 → first ≡ first_edge G v → Firsts w v → Firsts w' (v + 1)
    firsts_on room few e = cells_on (first_edge G) w w' firsts_base 2 v first put (omega arith) (omega (arith, e, few_first v)) e

    pub ranked_kept : Ranked G P w → Ranked G P w'
    ranked_kept f = ranked_i G P w' (λ a r ha hr.
        ap (λ (l : List ℕ). rank_at l a r) put
        ∙ cell_apart w firsts_base 2 v first 0 2 (32 * a + r) (inl (omega (arith, nodes_fit s g p ready, rows_fit s g p ready)))
        ∙ ranked_e G P w f a r ha hr)

  -- ---- the edges of a node

  filed : Filed ready.held.views.graph_file.limits G
  filed = decoded_filed ready.held.views.graph_file.limits g ready.held.views.graph_file.accepted

  pub to_node : (j : ℕ) (u : GraphEdge) → j < s.graph.edges → u ≡ edge_held (get_or G.edges j no_edge) → u.to < s.graph.nodes
  to_node j u h e =
      let t : (get_or G.edges j no_edge).to < size G = (is_flow s g p ready).to_node (get_or G.edges j no_edge) (index_e no_edge G.edges j (omega (arith, edges_is s g p ready))) in
      let q : u.to ≡ (get_or G.edges j no_edge).to = ap (λ (x : GraphEdge). x.to) e in
      omega (arith, t, q, size_is s g p ready)

  module _ (v : ℕ) (l : ℕ → Bool) (b : ℕ) where
    next_is : first_edge G (v + 1) ≡ first_edge G (suc v)
    next_is = ap (first_edge G) (add-one v)

    pub edges_start : first_edge G v ≤ first_edge G (v + 1)
    edges_start = scan_starts g ready.held.views.graph_file v

    pub edge_there : (j : ℕ) → j < first_edge G (v + 1) → j < s.graph.edges
    edge_there j h = omega (arith, first_edge_le G (v + 1), edges_is s g p ready)

    pub best_start : s.graph.nodes ≡ first_or (best_target G P v l b (first_edge G v)) s.graph.nodes
    best_start =
        ap (λ (o : Option ℕ). first_or o s.graph.nodes)
        (sym (best_none G P v l b (first_edge G v) (λ i h e. absurd (omega (arith, h, (leaves_in ready.held.views.graph_file.limits G filed v i (omega (arith, first_edge_le G v)) e).0)))))

    is_within : (j : ℕ) → j ≤ s.graph.edges → T (within s.graph.nodes (best_target G P v l b j))
    is_within j h =
        subst (λ (n : ℕ). T (within n (best_target G P v l b j))) (size_is s g p ready)
        (best_within G P v l b (is_flow s g p ready) j (omega (arith, edges_is s g p ready)))

    module _ (j best : ℕ) (is : best ≡ first_or (best_target G P v l b j) s.graph.nodes) where
      pub best_le : j ≤ first_edge G (v + 1) → best ≤ s.graph.nodes
      best_le h = omega (arith, is, go (best_target G P v l b j) (is_within j (omega (arith, first_edge_le G (v + 1), edges_is s g p ready))))
        where
          go : (o : Option ℕ) → T (within s.graph.nodes o) → first_or o s.graph.nodes ≤ s.graph.nodes
          go none t = omega arith
          go (some x) t = omega (arith, ltb→lt x s.graph.nodes t)

      pub best_turn : (r : ℕ) → first_edge G v ≤ j → j < first_edge G (v + 1) → r ≡ better G P l b s.graph.nodes best j → r ≡ first_or (best_target G P v l b (j + 1)) s.graph.nodes
      best_turn r h k e =
          e
          ∙ best_on G P v l b s.graph.nodes j best
          (in_leaves ready.held.views.graph_file.limits G filed v j (omega (arith, edge_there j k, edges_is s g p ready)) h (omega (arith, next_is)))
          (is_within j (omega (arith, edge_there j k)))
          is
          ∙ ap (λ (n : ℕ). first_or (best_target G P v l b n) s.graph.nodes) (sym (add-one j))

      pub best_end : j ≡ first_edge G (v + 1) → best ≡ first_or (best_target G P v l b s.graph.edges) s.graph.nodes
      best_end e =
          is
          ∙ ap (λ (o : Option ℕ). first_or o s.graph.nodes)
          (sym (best_still G P v l b s.graph.edges j (omega (arith, e, first_edge_le G (v + 1), edges_is s g p ready))
          (λ i a c d. absurd (omega (arith, a, e, next_is, (leaves_in ready.held.views.graph_file.limits G filed v i (omega (arith, c, edges_is s g p ready)) d).1)))))

    -- ---- the cause of a box

    module _ (t : ℕ) (is : t ≡ first_or (best_target G P v l b s.graph.edges) s.graph.nodes) where
      pub box_found : t < s.graph.nodes → record { node = t; row = b } ≡ cause_held (get_or (as_causes b (best_target G P v l b s.graph.edges)) 0 no_cause)
      box_found h = go (best_target G P v l b s.graph.edges) is
        where
          go : (o : Option ℕ) → t ≡ first_or o s.graph.nodes → record { node = t; row = b } ≡ cause_held (get_or (as_causes b o) 0 no_cause)
          go none e = absurd (omega arith)
          go (some x) e = ap (λ (n : ℕ). record { node = n; row = b }) e

      pub box_not_found : s.graph.nodes ≤ t → record { node = 0; row = 255 } ≡ cause_held (get_or (as_causes b (best_target G P v l b s.graph.edges)) 0 no_cause)
      box_not_found h = go (best_target G P v l b s.graph.edges) is (is_within s.graph.edges (omega arith))
        where
          go : (o : Option ℕ) → t ≡ first_or o s.graph.nodes → T (within s.graph.nodes o) → record { node = 0; row = 255 } ≡ cause_held (get_or (as_causes b o) 0 no_cause)
          go none e m = refl
          go (some x) e m = absurd (omega (arith, e, ltb→lt x s.graph.nodes m))

-- ---- comparing

module _ (G : Graph) (P : List Row) where
  module _ (g a b m n : ℕ) (is_m : m ≡ rank G P g a) (is_n : n ≡ rank G P g b) where
    pub lower_a : m ≤ n → a ≡ lower G P g a b
    lower_a h = sym (lower_is G P g a b ∙ ap (λ (c : Bool). cond c a b) (ap₂ leb (sym is_m) (sym is_n) ∙ le-leb m n h))

    pub lower_b : n < m → b ≡ lower G P g a b
    lower_b h = sym (lower_is G P g a b ∙ ap (λ (c : Bool). cond c a b) (ap₂ leb (sym is_m) (sym is_n) ∙ lt-leb m n h))

  pub ahead_by : (x t b m n : ℕ) → m ≡ rank G P x b → n ≡ rank G P t b → ltb m n || (eqb m n && leb x t) ≡ ahead G P (x, b) (t, b)
  ahead_by x t b m n d e = ap₂ (λ (i j : ℕ). ltb i j || (eqb i j && leb x t)) d e ∙ sym (ahead_is G P (x, b) (t, b))

-- ---- a row by its operator

-- a row is told by its operator and its operands
row_told : (x : Row) → x ≡ row_of (operator_of (row_held x)) (first_of (row_held x)) (second_of (row_held x))
row_told always = refl
row_told never = refl
row_told returns = refl
row_told not_returns = refl
row_told (in_method a) = refl
row_told (not_in_method a) = refl
row_told (both a b) = refl
row_told (either a b) = refl
row_told (box l b) = refl
row_told (box_all a) = refl

-- row r, read as u
module _ (s : Shape) (g p : List ℕ) (ready : Ready s g p) (v r : ℕ) (hr : r < s.rows) (u : PropertyRow) (is : u ≡ row_held (row (decode_property p) r)) where
  operator_is : operator_of u ≡ operator_of (row_held (row (decode_property p) r))
  operator_is = ap (λ (x : PropertyRow). operator_of x) is

  by_operator : (o : ℕ) → operator_of u ≡ o → row (decode_property p) r ≡ row_of o (first_of u) (second_of u)
  by_operator o e = row_told (row (decode_property p) r) ∙ ap (λ (x : PropertyRow). row_of (operator_of x) (first_of x) (second_of x)) (sym is) ∙ ap (λ (n : ℕ). row_of n (first_of u) (second_of u)) e

  both_read : operator_of u ≡ 7 → row (decode_property p) r ≡ both (first_of u) (second_of u)
  both_read = by_operator 7

  either_read : operator_of u ≡ 8 → row (decode_property p) r ≡ either (first_of u) (second_of u)
  either_read = by_operator 8

  named_rows : T (names s.rows (row (decode_property p) r))
  named_rows =
      subst (λ (n : ℕ). T (names n (row (decode_property p) r))) (rows_is s g p ready)
      ((is_property s g p ready).names_rows r (omega (arith, rows_is s g p ready)))

  pub both_rows : operator_of u ≡ 7 → (first_of u < s.rows) × (second_of u < s.rows)
  both_rows e =
      let t : T (ltb (first_of u) s.rows && ltb (second_of u) s.rows) = subst (λ (x : Row). T (names s.rows x)) (both_read e) named_rows in
      (ltb→lt (first_of u) s.rows (and_l (ltb (first_of u) s.rows) (ltb (second_of u) s.rows) t), ltb→lt (second_of u) s.rows (and_r (ltb (first_of u) s.rows) (ltb (second_of u) s.rows) t))

  -- a box, of one label or of all: its operand is a row, and it obliges to it where the code says that it looks along the edge
  module _ (e : is_box (operator_of u) ≡ true) where
    boxed : Boxed (row (decode_property p) r)
    boxed = boxed_if (row (decode_property p) r) (subst T (sym e ∙ ap (λ (y : PropertyRow). is_box (operator_of y)) is) tt)

    pub box_row_in : looked_at u < s.rows
    box_row_in = subst (λ (y : PropertyRow). looked_at y < s.rows) (sym is) (box_row_named s.rows (row (decode_property p) r) boxed named_rows)

    box_only : (l : ℕ) → obliged (row (decode_property p) r) l ≡ cond (aims_along u l) (some (looked_at u)) none
    box_only l = subst (λ (y : PropertyRow). obliged (row (decode_property p) r) l ≡ cond (aims_along y l) (some (looked_at y)) none) (sym is) (looks_obliged (row (decode_property p) r) l)

  -- a and b are what the code answers as the causes
  abbrev Answers : Cause → Cause → Type 0
  Answers = AreCauses (decode_graph g) (decode_property p) (v, r)

  as_listed : (xs : List (ℕ × ℕ)) → causes (decode_graph g) (decode_property p) (v, r) ≡ xs → Answers (cause_held (get_or xs 0 no_cause)) (cause_held (get_or xs 1 no_cause))
  as_listed xs e =
      (ap (λ (ys : List (ℕ × ℕ)). cause_held (get_or ys 0 no_cause)) (sym e), ap (λ (ys : List (ℕ × ℕ)). cause_held (get_or ys 1 no_cause)) (sym e))

  pub both_causes : (c : ℕ) → operator_of u ≡ 7 → c ≡ lower (decode_graph g) (decode_property p) v (first_of u) (second_of u) → Answers (record { node = v; row = c }) (cause_held no_cause)
  both_causes c e q =
      let x = as_listed ((v, lower (decode_graph g) (decode_property p) v (first_of u) (second_of u)) ∷ []) (causes_both (decode_graph g) (decode_property p) v r (first_of u) (second_of u) (both_read e)) in
      (ap (λ (n : ℕ). record { node = v; row = n }) q ∙ x.0, x.1)

  pub either_causes : operator_of u ≡ 8 → Answers (record { node = v; row = first_of u }) (record { node = v; row = second_of u })
  either_causes e = as_listed ((v, first_of u) ∷ (v, second_of u) ∷ []) (causes_either (decode_graph g) (decode_property p) v r (first_of u) (second_of u) (either_read e))

  pub box_causes_of : (c : Cause) → is_box (operator_of u) ≡ true
      → c ≡ cause_held (get_or (as_causes (looked_at u) (best_target (decode_graph g) (decode_property p) v (aims_along u) (looked_at u) s.graph.edges)) 0 no_cause)
      → Answers c (cause_held no_cause)
  box_causes_of c e q =
      let b = looked_at u in
      let x = as_listed _ (causes_box (decode_graph g) (decode_property p) v r (boxed e)) in (
        q
            ∙ ap (λ (n : ℕ). cause_held (get_or (as_causes b (best_target (decode_graph g) (decode_property p) v (aims_along u) b n)) 0 no_cause)) (sym (edges_is s g p ready))
            ∙ ap (λ (xs : List (ℕ × ℕ)). cause_held (get_or xs 0 no_cause))
            (sym (box_causes_are (decode_graph g) (decode_property p) v (aims_along u) b (row (decode_property p) r) (box_only e)))
            ∙ x.0,
        ap cause_held (one_at_most (targets (decode_graph g) v (row (decode_property p) r))) ∙ x.1,
      )
    where
      one_at_most : (xs : List (ℕ × ℕ)) → no_cause ≡ get_or (box_causes (decode_graph g) (decode_property p) xs) 1 no_cause
      one_at_most [] = ap (λ (ys : List (ℕ × ℕ)). get_or ys 1 no_cause) (sym (box_none (decode_graph g) (decode_property p)))
      one_at_most (x ∷ xs) = ap (λ (ys : List (ℕ × ℕ)). get_or ys 1 no_cause) (sym (box_some (decode_graph g) (decode_property p) x xs))

  no_box : is_box (operator_of u) ≡ false → Boxed (row (decode_property p) r) → ⊥
  no_box n b = subst T (ap (λ (y : PropertyRow). is_box (operator_of y)) (sym is) ∙ n) (boxed_operator (row (decode_property p) r) b)

  pub no_causes : (operator_of u ≡ 7 → ⊥) → (operator_of u ≡ 8 → ⊥) → is_box (operator_of u) ≡ false → Answers (cause_held no_cause) (cause_held no_cause)
  no_causes d e f = as_listed [] (causes_rest (decode_graph g) (decode_property p) v r (λ q. d (operator_is ∙ q)) (λ q. e (operator_is ∙ q)) (no_box f))
