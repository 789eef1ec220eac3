-- Laws of accepted files: each record holds what the decoded value has at its place; the edges of a node are those from its first edge to the next node's.
-- Assumes nothing.
use Rattle.std.specs.Prelude.{◌≡◌, refl, Bool, true, false, cond, ◌&&◌, List, ℕ, suc, ◌+◌, ◌-◌, ◌≤◌, ◌<◌, eqb, get_or, drop}
use Rattle.std.proofs.Common.{sym, ap, ◌∙◌, inl, inr, add-one, arith, drop_of_length-le, drop-cons, eqb-true}
use Rattle.std.proofs.Math.Decide.{dec_lt}
use Rattle.std.proofs.Math.Dec.{T, not_T, ltb, ltb→lt, lt→ltb}
use Rattle.std.proofs.Math.ListN.{length}
use Rattle.std.proofs.lemmas.Bool.{eqb-false}
use Rattle.files.specs.Basics.Tables.{tally_le, tally_down, tally_is}
use Rattle.files.specs.Basics.Lexical.{Before, all_ascend}
use Rattle.files.specs.Graph.{Graph, node, no_edge}
use Rattle.files.specs.Property.{Row, always, never, returns, not_returns, in_method, not_in_method, both, either, box, box_all, row}
use Rattle.files.specs.Rules.{Event, Rule, no_rule, same_event, by_rule}
use Rattle.files.specs.Interface.{Interface}
use Rattle.files.specs.Record.{record_at, count}
use Rattle.files.specs.Refusal.{graph, property, rules, interface, nodes_of}
use Rattle.files.specs.Decode.{decode_graph, decode_property, decode_rules, decode_interface, to_node, to_edge, to_rule, row_rec, key, Filed}
use Rattle.files.specs.Decode.Graphs.{few, decoded_node, decoded_edge, decoded_edges, decoded_filed}
use Rattle.files.specs.Decode.Properties.{is_row, right, decoded_row}
use Rattle.files.specs.Decode.RuleFiles.{decoded_count, decoded_rule}
use Rattle.files.specs.Decode.Interfaces.{one_record, decoded_interface}
use Rattle.files.specs.Decode.Values.{row_same, of_kind_three}
use Rattle.files.specs.Access.{AcceptedAs, node_held, edge_held, row_held, row_by, operator_of, first_of, second_of, rule_held, first_edge}
use Rattle.files.specs.declared.record.Limits.{Limits}
use Rattle.files.specs.declared.record.Record.{Record}
use Rattle.files.specs.declared.property.PropertyRow.{PropertyRow}
use Rattle.files.specs.declared.rules.MonitorRule.{MonitorRule}

-- ---- what stands at a record of an accepted file

module _ (l : List ℕ) (a : AcceptedAs graph l) where
  pub nodes_few : nodes_of l ≤ count l
  nodes_few = few a.limits l a.accepted

  pub reads_node : (g : ℕ) → g < nodes_of l → (r : Record) → r ≡ record_at l g → node_held (to_node r) ≡ node_held (node (decode_graph l) g)
  reads_node g h r e = ap (λ (x : Record). node_held (to_node x)) e ∙ ap node_held (sym (decoded_node a.limits l a.accepted g h))

  pub reads_edge : (n j : ℕ) → n ≡ nodes_of l → j < count l - n → (r : Record) → r ≡ record_at l (n + j)
      → edge_held (to_edge r) ≡ edge_held (get_or (decode_graph l).edges j no_edge)
  reads_edge n j d h r e =
      let k : j < count l - nodes_of l = omega (arith, d) in
      ap (λ (x : Record). edge_held (to_edge x)) (e ∙ ap (λ (m : ℕ). record_at l (m + j)) d)
      ∙ ap edge_held (sym (decoded_edge a.limits l a.accepted j k))

-- a row that is held has the operator and the operands of its record
pub held_record : (x : Row) → (operator_of (row_held x) ≡ (row_rec x).first) × ((first_of (row_held x) ≡ (row_rec x).second) × (second_of (row_held x) ≡ (row_rec x).third))
held_record always = (refl, (refl, refl))
held_record never = (refl, (refl, refl))
held_record returns = (refl, (refl, refl))
held_record not_returns = (refl, (refl, refl))
held_record (in_method a) = (refl, (refl, refl))
held_record (not_in_method a) = (refl, (refl, refl))
held_record (both a b) = (refl, (refl, refl))
held_record (either a b) = (refl, (refl, refl))
held_record (box l b) = (refl, (refl, refl))
held_record (box_all a) = (refl, (refl, refl))

pub reads_row : (l : List ℕ) → AcceptedAs property l → (i : ℕ) → i < count l → (r : Record) → r ≡ record_at l i
    → (row_by r.first r.second r.third ≡ row_held (row (decode_property l) i)) × ((r.first ≡ operator_of (row_held (row (decode_property l) i)))
    × ((r.second ≡ first_of (row_held (row (decode_property l) i))) × (r.third ≡ second_of (row_held (row (decode_property l) i)))))
reads_row l a i h r e =
    let x = row (decode_property l) i in (
      ap row_read as_record ∙ held x,
      (ap (λ (y : Record). y.first) as_record ∙ sym (held_record x).0, (ap (λ (y : Record). y.second) as_record ∙ sym (held_record x).1.0, ap (λ (y : Record). y.third) as_record ∙ sym (held_record x).1.1)),
    )
  where
    row_read : Record → PropertyRow
    row_read x = row_by x.first x.second x.third

    held : (x : Row) → row_read (row_rec x) ≡ row_held x
    held always = refl
    held never = refl
    held returns = refl
    held not_returns = refl
    held (in_method a) = refl
    held (not_in_method a) = refl
    held (both a b) = refl
    held (either a b) = refl
    held (box l b) = refl
    held (box_all a) = refl

    same : row_rec (row (decode_property l) i) ≡ record_at l i
    same =
        ap row_rec (decoded_row a.limits l a.accepted i h)
        ∙ row_same _ _ _ (record_at l i).fourth (record_at l i).fifth (right a.limits l a.accepted i h)
        ∙ of_kind_three (record_at l i) (is_row a.limits l a.accepted i h)

    as_record : r ≡ row_rec (row (decode_property l) i)
    as_record = e ∙ sym same

pub reads_rule : (l : List ℕ) → AcceptedAs rules l → (j : ℕ) → j < count l → (r : Record) → r ≡ record_at l j
    → rule_held (to_rule r) ≡ rule_held (get_or (decode_rules l) j no_rule)
reads_rule l a j h r e = ap (λ (x : Record). rule_held (to_rule x)) e ∙ ap rule_held (sym (decoded_rule a.limits l a.accepted j h))

module _ (l : List ℕ) (a : AcceptedAs interface l) where
  pub interface_count : count l ≡ 1
  interface_count = one_record a.limits l a.accepted

  pub reads_interface : (r : Record) → r ≡ record_at l 0 → (r.first ≡ (decode_interface l).provided) × (r.second ≡ (decode_interface l).required)
  reads_interface r e =
      let d = decoded_interface a.limits l a.accepted in
      (ap (λ (x : Record). x.first) e ∙ ap (λ (I : Interface). I.provided) (sym d), ap (λ (x : Record). x.second) e ∙ ap (λ (I : Interface). I.required) (sym d))

-- ---- a scan of the rules from rule j on

module _ (us : List Rule) (q : ℕ) (v : Event) (j : ℕ) where
  rule_here : j < length us
      → by_rule (drop j us) q v
      ≡ cond (eqb (get_or us j no_rule).state q && same_event (get_or us j no_rule).event v) (get_or us j no_rule).next (by_rule (drop (suc j) us) q v)
  rule_here h = ap (λ (ws : List Rule). by_rule ws q v) (drop-cons us j no_rule h)

  pub rule_hit : j < length us → (eqb (get_or us j no_rule).state q && same_event (get_or us j no_rule).event v) ≡ true → by_rule (drop j us) q v ≡ (get_or us j no_rule).next
  rule_hit h e = rule_here h ∙ ap (λ (b : Bool). cond b (get_or us j no_rule).next (by_rule (drop (suc j) us) q v)) e

  pub rule_miss : j < length us → (eqb (get_or us j no_rule).state q && same_event (get_or us j no_rule).event v) ≡ false → by_rule (drop j us) q v ≡ by_rule (drop (j + 1) us) q v
  rule_miss h e =
      rule_here h
      ∙ ap (λ (b : Bool). cond b (get_or us j no_rule).next (by_rule (drop (suc j) us) q v)) e
      ∙ ap (λ (n : ℕ). by_rule (drop n us) q v) (sym (add-one j))

  pub rule_end : length us ≤ j → by_rule (drop j us) q v ≡ q
  rule_end h = ap (λ (ws : List Rule). by_rule ws q v) (drop_of_length-le us h)

-- rule j, taken or passed over, by the test b on it

module _ (us : List Rule) (q k m n j : ℕ) (u : MonitorRule) (e : u ≡ rule_held (get_or us j no_rule)) (b : Bool)
    (f : b ≡ (eqb u.state q && (eqb u.event k && (eqb u.m1 m && eqb u.m2 n)))) (h : j < length us) where
  test : b ≡ (eqb (get_or us j no_rule).state q && same_event (get_or us j no_rule).event (record { kind = k; m1 = m; m2 = n }))
  test = f ∙ ap (λ (w : MonitorRule). eqb w.state q && (eqb w.event k && (eqb w.m1 m && eqb w.m2 n))) e

  pub rule_taken : b ≡ true → u.next ≡ by_rule (drop j us) q (record { kind = k; m1 = m; m2 = n })
  rule_taken t = ap (λ (w : MonitorRule). w.next) e ∙ sym (rule_hit us q (record { kind = k; m1 = m; m2 = n }) j h (sym test ∙ t))

  pub rule_passed : b ≡ false → by_rule (drop (j + 1) us) q (record { kind = k; m1 = m; m2 = n }) ≡ by_rule (drop j us) q (record { kind = k; m1 = m; m2 = n })
  rule_passed t = sym (rule_miss us q (record { kind = k; m1 = m; m2 = n }) j h (sym test ∙ t))

pub rules_count : (l : List ℕ) → AcceptedAs rules l → length (decode_rules l) ≡ count l
rules_count l a = decoded_count a.limits l a.accepted

-- ---- the edges of a node

-- no edge leaves a node below 0
pub first_edge_zero : (G : Graph) → first_edge G 0 ≡ 0
unfolding first_edge
first_edge_zero G =
    tally_is (λ j. ltb (get_or G.edges j no_edge).from 0) 0 (length G.edges) (omega arith) (λ i h. absurd (omega arith))
    (λ i h k. not_T (ltb (get_or G.edges i no_edge).from 0) (λ t. absurd (omega (arith, ltb→lt (get_or G.edges i no_edge).from 0 t))))

pub first_edge_le : (G : Graph) (g : ℕ) → first_edge G g ≤ length G.edges
unfolding first_edge
first_edge_le G g = tally_le (λ j. ltb (get_or G.edges j no_edge).from g) (length G.edges)

module _ (L : Limits) (G : Graph) (filed : Filed L G) where
  abbrev from_of : ℕ → ℕ
  from_of j = (get_or G.edges j no_edge).from

  -- later edges leave no earlier node
  ascends : (i j : ℕ) → i < j → j < length G.edges → from_of i ≤ from_of j
  ascends i j h k = go (all_ascend (λ n. key (get_or G.edges n no_edge)) (length G.edges) filed.ascending i j h k)
    where
      go : Before (key (get_or G.edges i no_edge)) (key (get_or G.edges j no_edge)) → from_of i ≤ from_of j
      go (inl m) = omega arith
      go (inr m) = omega (arith, m.0)

  below_first : (g j : ℕ) → j < length G.edges → (from_of j < g → j < first_edge G g) × (j < first_edge G g → from_of j < g)
  unfolding first_edge
  below_first g j h =
      let t = tally_down (λ n. ltb (from_of n) g) (length G.edges) down j h in
      ((λ m. t.0 (lt→ltb (from_of j) g m)), λ m. ltb→lt (from_of j) g (t.1 m))
    where
      down : (i j : ℕ) → j < i → i < length G.edges → T (ltb (from_of i) g) → T (ltb (from_of j) g)
      down i j m k t = lt→ltb (from_of j) g (omega (arith, ltb→lt (from_of i) g t, ascends j i m k))

  -- an edge leaves node g exactly when it stands from the first edge of g on and before that of the next node
  pub leaves_in : (g j : ℕ) → j < length G.edges → (get_or G.edges j no_edge).from ≡ g → (first_edge G g ≤ j) × (j < first_edge G (suc g))
  leaves_in g j h e = (at_least (dec_lt j (first_edge G g)), (below_first (suc g) j h).0 (omega arith))
    where
      at_least : Dec (j < first_edge G g) → first_edge G g ≤ j
      at_least (yes m) = absurd (omega (arith, (below_first g j h).1 m))
      at_least (no m) = omega arith

  pub in_leaves : (g j : ℕ) → j < length G.edges → first_edge G g ≤ j → j < first_edge G (suc g) → (get_or G.edges j no_edge).from ≡ g
  in_leaves g j h a b = go (dec_lt (from_of j) g)
    where
      go : Dec (from_of j < g) → from_of j ≡ g
      go (yes m) = absurd (omega (arith, (below_first g j h).0 m))
      go (no m) = omega (arith, (below_first (suc g) j h).1 b)

  first_edge_up : (g : ℕ) → first_edge G g ≤ first_edge G (suc g)
  first_edge_up g = go (dec_lt (first_edge G (suc g)) (first_edge G g))
    where
      at : ℕ
      at = first_edge G (suc g)

      go : Dec (first_edge G (suc g) < first_edge G g) → first_edge G g ≤ first_edge G (suc g)
      go (yes m) =
          let k : at < length G.edges = omega (arith, first_edge_le G g) in
          absurd (omega (arith, (below_first (suc g) at k).0 (omega (arith, (below_first g at k).1 m))))
      go (no m) = omega arith

-- ---- the same of an accepted file, as a scan from the first edge of node g finds it

module _ (l : List ℕ) (a : AcceptedAs graph l) where
  filed : Filed a.limits (decode_graph l)
  filed = decoded_filed a.limits l a.accepted

  edges_are : length (decode_graph l).edges ≡ count l - nodes_of l
  edges_are = decoded_edges a.limits l a.accepted

  next : (g : ℕ) → first_edge (decode_graph l) (g + 1) ≡ first_edge (decode_graph l) (suc g)
  next g = ap (first_edge (decode_graph l)) (add-one g)

  pub scan_starts : (g : ℕ) → first_edge (decode_graph l) g ≤ first_edge (decode_graph l) (g + 1)
  scan_starts g = omega (arith, next g, first_edge_up a.limits (decode_graph l) filed g)

  -- past an edge of g
  pub scan_on : (g j : ℕ) → j < count l - nodes_of l → eqb (get_or (decode_graph l).edges j no_edge).from g ≡ true → j + 1 ≤ first_edge (decode_graph l) (g + 1)
  scan_on g j h e = omega (arith, next g, (leaves_in a.limits (decode_graph l) filed g j (omega (arith, edges_are)) (eqb-true _ g e)).1)

  -- at the first edge that does not leave g
  pub scan_stops : (g j : ℕ) → j < count l - nodes_of l → first_edge (decode_graph l) g ≤ j → j ≤ first_edge (decode_graph l) (g + 1)
      → eqb (get_or (decode_graph l).edges j no_edge).from g ≡ false → j ≡ first_edge (decode_graph l) (g + 1)
  scan_stops g j h b k e = go (dec_lt j (first_edge (decode_graph l) (suc g)))
    where
      go : Dec (j < first_edge (decode_graph l) (suc g)) → j ≡ first_edge (decode_graph l) (g + 1)
      go (yes m) = absurd (eqb-false _ g e (in_leaves a.limits (decode_graph l) filed g j (omega (arith, edges_are)) b m))
      go (no m) = omega (arith, next g)

  -- past the last edge
  pub scan_ends : (g j : ℕ) → count l - nodes_of l ≤ j → j ≤ first_edge (decode_graph l) (g + 1) → j ≡ first_edge (decode_graph l) (g + 1)
  scan_ends g j h k = omega (arith, edges_are, first_edge_le (decode_graph l) (g + 1))
