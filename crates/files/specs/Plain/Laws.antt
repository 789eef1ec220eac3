-- A graph file that is plainly in order and within the limits is accepted: no number applies. Edges ascend with their numbers. Assumes nothing.
use Rattle.std.specs.Prelude.{◌≡◌, ◌⊎◌, Bool, false, not, ◌&&◌, ◌||◌, List, ℕ, zero, suc, ◌-◌, ◌/◌, ◌%◌, ◌≤◌, ◌<◌, T, eqb, length}
use Rattle.std.proofs.Common.{sym, ap, subst, ◌∙◌, inl, inr, arith, eqb→eq, T_not}
use Rattle.std.proofs.Math.Bool.{or-false}
use Rattle.std.proofs.Math.Decide.{dec_lt}
use Rattle.std.proofs.Math.Dec.{not_T}
use Rattle.files.specs.Basics.Lexical.{Before}
use Rattle.files.specs.Basics.Says.{says_lt, says_or}
use Rattle.files.specs.Basics.Tables.{tally_is}
use Rattle.files.specs.Basics.Tests.{eq_eqb}
use Rattle.files.specs.Checking.{checked, checked_by, over_with}
use Rattle.files.specs.Checking.Laws.{checked_is}
use Rattle.files.specs.Decode.Graphs.{edges_rest}
use Rattle.files.specs.Plain.{PlainNode, PlainEdge, PlainEdges, edge_number}
use Rattle.files.specs.Record.{record_at, kind_at, count, node_wrong, edge_wrong, row_wrong, rule_wrong, interface_wrong, wrong}
use Rattle.files.specs.Refusal.{graph, of_kind, nodes_of, edges_of, edge_key}
use Rattle.files.specs.Refusal.Laws.{accepted_iff, says_wrong}
use Rattle.files.specs.Table.{Applies, Misplaced, Wrong, Disordered}
use Rattle.files.specs.declared.record.Limits.{Limits}
use Rattle.files.specs.declared.record.Record.{Record}
use Rattle.files.specs.Outcome.{Accepted}

-- a lower number comes before, as fields are bytes
pub number_before : (r s : Record) → r.second < 256 → r.third < 256 → s.second < 256 → s.third < 256 → edge_number r < edge_number s
    → Before (edge_key r) (edge_key s)
number_before r s b c y z h = go (dec_lt r.first s.first) (dec_lt r.second s.second)
  where
    go : Dec (r.first < s.first) → Dec (r.second < s.second) → Before (edge_key r) (edge_key s)
    go (yes p) q = inl p
    go (no p) (yes q) = inr (omega arith, inl q)
    go (no p) (no q) = inr (omega arith, inr (omega arith, inl (omega arith)))

-- whether a record of a known kind is wrong is told by that kind's fields
abbrev wrong_by : ℕ → Record → Bool
wrong_by k r =
    (eqb k 1 && node_wrong r) || ((eqb k 2 && edge_wrong r) || ((eqb k 3 && row_wrong r) || ((eqb k 4 && rule_wrong r) || (eqb k 5 && interface_wrong r))))

wrong_of : (k : ℕ) (r : Record) → r.kind ≡ k → wrong r ≡ wrong_by k r
wrong_of k r e = ap (λ (n : ℕ). wrong_by n r) e

not_wrong : (r : Record) (b : Bool) → T (not b) → wrong r ≡ (b || false) → Wrong r → ⊥
not_wrong r b f e w = T_not b f (subst T (or-false b) (subst T e ((says_wrong r).hear w)))

module _ (l : List ℕ) (m : ℕ) (few : m ≤ count l) (nodes : (i : ℕ) → i < m → PlainNode l i) (edges : PlainEdges l m (count l)) where
  -- a record is one of the nodes or one of the edges
  abbrev Either : ℕ → Type 0
  Either i = PlainNode l i ⊎ ((m ≤ i) × PlainEdge l m i)

  is_either : (i : ℕ) → i < count l → Either i
  is_either i h = go (dec_lt i m)
    where
      go : Dec (i < m) → Either i
      go (yes k) = inl (nodes i k)
      go (no k) = inr (omega arith, edges.edges_right i (omega arith) h)

  -- one of kind 2 is one of the edges
  is_edge : (i : ℕ) → i < count l → kind_at l i ≡ 2 → (m ≤ i) × PlainEdge l m i
  is_edge i h e = go (is_either i h)
    where
      go : Either i → (m ≤ i) × PlainEdge l m i
      go (inl x) = absurd (omega (arith, x.0))
      go (inr x) = x

  no_misplaced : (i : ℕ) → i < count l → Misplaced graph l i → ⊥
  no_misplaced i h (inl f) = go (is_either i h)
    where
      go : Either i → ⊥
      go (inl x) = f (inl x.0)
      go (inr x) = f (inr x.1.0)
  no_misplaced i h (inr (e, (j, k, f))) = go (dec_lt i m)
    where
      go : Dec (i < m) → ⊥
      go (yes p) = omega (arith, (is_edge j (omega arith) f).0)
      go (no p) = omega (arith, e, (edges.edges_right i (omega arith) h).0)

  no_wrong : (i : ℕ) → i < count l → Wrong (record_at l i) → ⊥
  no_wrong i h w = go (is_either i h)
    where
      go : Either i → ⊥
      go (inl x) = not_wrong (record_at l i) (node_wrong (record_at l i)) x.1 (wrong_of 1 (record_at l i) x.0) w
      go (inr x) = not_wrong (record_at l i) (edge_wrong (record_at l i)) x.1.1.0 (wrong_of 2 (record_at l i) x.1.0) w

  no_disordered : (i : ℕ) → i < count l → Disordered graph l i → ⊥
  no_disordered zero h d = d
  no_disordered (suc i) h (e, (f, g)) = g (edges.edges_ascend i (is_edge i (omega arith) e).0 h)

  nodes_are : nodes_of l ≡ m
  nodes_are =
      tally_is (of_kind l 1) m (count l) few (λ i h. eq_eqb (kind_at l i) 1 (nodes i h).0)
      (λ i h k. not_T (of_kind l 1 i) (λ t. absurd (omega (arith, eqb→eq (kind_at l i) 1 t, (edges.edges_right i h k).0))))

  module _ (L : Limits) (whole : length l % 6 ≡ 0) (within : over_with L graph m (count l) ≡ false) where
    nothing_applies : (n i : ℕ) → Applies L graph l n i → ⊥
    nothing_applies zero i a = a
    nothing_applies (suc zero) i a = a.1 (length l / 6) (omega arith)
    nothing_applies (suc (suc zero)) i a = no_misplaced i a.0 a.1
    nothing_applies (suc (suc (suc zero))) i a = no_wrong i a.0 a.1
    nothing_applies (suc (suc (suc (suc zero)))) i a = no_disordered i a.0 a.1
    nothing_applies (suc (suc (suc (suc (suc zero))))) i a = passed_not a.1
      where
        passed_not : (L.nodes < nodes_of l) ⊎ (L.edges < edges_of l) → ⊥
        passed_not p =
            let over = (says_or (says_lt L.nodes m) (says_lt L.edges (count l - m))).hear (there p) in
            subst (λ (b : Bool). T b → ⊥) (sym within) (λ t. t) over
          where
            there : (L.nodes < nodes_of l) ⊎ (L.edges < edges_of l) → (L.nodes < m) ⊎ (L.edges < count l - m)
            there (inl h) = inl (omega (arith, nodes_are))
            there (inr h) = inr (omega (arith, nodes_are, edges_rest l no_misplaced))
    nothing_applies (suc (suc (suc (suc (suc (suc zero)))))) i a = a.1
    nothing_applies (suc (suc (suc (suc (suc (suc (suc zero))))))) i (h, (e, inl p)) = omega (arith, nodes_are, (is_edge i h e).1.1.1.0)
    nothing_applies (suc (suc (suc (suc (suc (suc (suc zero))))))) i (h, (e, inr p)) = omega (arith, nodes_are, (is_edge i h e).1.1.1.1.0)
    nothing_applies (suc (suc (suc (suc (suc (suc (suc (suc zero)))))))) i (h, (e, (p, (q, f)))) = f (is_edge i h e).1.1.1.1.1
    nothing_applies (suc (suc (suc (suc (suc (suc (suc (suc (suc n))))))))) i a = a

    -- such a file within the limits is accepted
    pub plain_accepted : (position : ℕ) → Accepted m (count l) ≡ checked L graph l position
    plain_accepted position =
        let None_found = (accepted_iff L graph l).1 nothing_applies in
        sym (checked_is L graph l position ∙ ap (checked_by graph l position) None_found ∙ ap (λ (n : ℕ). Accepted n (count l)) nodes_are)
