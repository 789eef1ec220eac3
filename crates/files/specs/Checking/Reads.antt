-- What the records of a file read as in which 2 and 3 find nothing; and a record parsed as one kind that does not read so, or does. Assumes nothing.
use Rattle.std.specs.Prelude.{◌≡◌, refl, ◌⊎◌, Bool, true, false, not, ◌||◌, List, ℕ, ◌≤◌, ◌<◌, T, ltb, eqb}
use Rattle.std.proofs.Common.{sym, ap, subst, ◌∙◌, arith}
use Rattle.std.proofs.Math.Option.{Option}
use Rattle.std.proofs.Math.Decide.{ℕ_discrete}
use Rattle.std.proofs.Math.Dec.{not_T}
use Rattle.files.specs.Basics.First.{Finds, first_never}
use Rattle.files.specs.Basics.Says.{says_eq, says_sure}
use Rattle.files.specs.Basics.Tables.{tally_le}
use Rattle.files.specs.Checking.{Sound, counted, over}
use Rattle.files.specs.Decode.Graphs.{either_kind, nodes_first, edges_rest}
use Rattle.files.specs.Record.{record_at, count, kind_at, wrong, parsed, parsed_as}
use Rattle.files.specs.Record.Laws.{parsed_wrong, parsed_node, parsed_edge, parsed_row, parsed_rule, parsed_interface, kind_read, as_kind, as_other}
use Rattle.files.specs.Refusal.{Kind, graph, property, rules, interface, of_kind, nodes_of, passed}
use Rattle.files.specs.Refusal.Laws.{misplaced_finds}
use Rattle.files.specs.Table.{Misplaced}
use Rattle.files.specs.declared.record.Limits.{Limits}
use Rattle.files.specs.declared.record.Parsed.{Parsed}
use Rattle.files.specs.declared.record.Parsed.TheVariants.{Node, Edge, Row}
use Rattle.files.specs.declared.record.Record.{Record}

-- ---- a record parsed as kind k

-- a record of kind k that is not wrong reads as one of kind k
pub right_kind : (k : ℕ) → 1 ≤ k → k ≤ 5 → (r : Record) → r.kind ≡ k → T (not (wrong r)) → kind_read (parsed r) ≡ k
right_kind k a b r e t = go (ℕ_discrete k 1) (ℕ_discrete k 2) (ℕ_discrete k 3) (ℕ_discrete k 4)
  where
    go : Dec (k ≡ 1) → Dec (k ≡ 2) → Dec (k ≡ 3) → Dec (k ≡ 4) → kind_read (parsed r) ≡ k
    go (yes d) w x y = ap kind_read (parsed_node r t (e ∙ d)) ∙ sym d
    go (no v) (yes d) x y = ap kind_read (parsed_edge r t (e ∙ d)) ∙ sym d
    go (no v) (no w) (yes d) y = ap kind_read (parsed_row r t (e ∙ d)) ∙ sym d
    go (no v) (no w) (no x) (yes d) = ap kind_read (parsed_rule r t (e ∙ d)) ∙ sym d
    go (no v) (no w) (no x) (no y) = let d : k ≡ 5 = omega arith in ap kind_read (parsed_interface r t (e ∙ d)) ∙ sym d

-- what is parsed as kind k and reads as such is of that kind, and not wrong
pub read_right : (k : ℕ) → 1 ≤ k → (r : Record) (p : Parsed) → p ≡ parsed_as k r → kind_read p ≡ k → (r.kind ≡ k) × (wrong r ≡ false)
read_right k a r p e d = go (ℕ_discrete r.kind k)
  where
    go : Dec (r.kind ≡ k) → (r.kind ≡ k) × (wrong r ≡ false)
    go (no n) = absurd (nothing (sym d ∙ ap kind_read (e ∙ as_other k r n)))
      where
        nothing : k ≡ 0 → ⊥
        nothing q = omega arith
    go (yes q) = (q, fine (wrong r) refl)
      where
        fine : (b : Bool) → wrong r ≡ b → b ≡ false
        fine false w = refl
        fine true w = absurd (nothing (sym d ∙ ap kind_read (e ∙ as_kind k r q ∙ parsed_wrong r (subst T (sym w) tt))))
          where
            nothing : k ≡ 0 → ⊥
            nothing z = omega arith

-- ---- the records of such a file

module _ (k : Kind) (l : List ℕ) (sound : Sound k l) where
  in_place : (i : ℕ) → i < count l → Misplaced k l i → ⊥
  in_place i h m = subst (λ (o : Option ℕ). Finds o (λ j. (j < count l) × Misplaced k l j)) sound.none_misplaced (misplaced_finds k l) i (h, m)

  right : (i : ℕ) → i < count l → T (not (wrong (record_at l i)))
  right i h = not_T (wrong (record_at l i)) (first_never (λ i. wrong (record_at l i)) (count l) sound.none_wrong i h)

module _ (l : List ℕ) (sound : Sound graph l) where
  pub node_or_edge : (i : ℕ) → i < count l → (kind_at l i ≡ 1) ⊎ (kind_at l i ≡ 2)
  node_or_edge = either_kind l (in_place graph l sound)

  pub sound_node : (g : ℕ) → g < nodes_of l → parsed_as 1 (record_at l g) ≡ Node (record_at l g).first (eqb (record_at l g).second 1) (eqb (record_at l g).third 1)
  sound_node g h =
      let k = nodes_first l (in_place graph l sound) g h in
      as_kind 1 (record_at l g) k ∙ parsed_node (record_at l g) (right graph l sound g (omega (arith, tally_le (of_kind l 1) (count l)))) k

  pub sound_edge : (i : ℕ) → i < count l → kind_at l i ≡ 2 → parsed_as 2 (record_at l i) ≡ Edge (record_at l i).first (record_at l i).second (record_at l i).third
  sound_edge i h k = as_kind 2 (record_at l i) k ∙ parsed_edge (record_at l i) (right graph l sound i h) k

pub sound_row : (l : List ℕ) → Sound property l → (i : ℕ) → i < count l → parsed_as 3 (record_at l i) ≡ Row (record_at l i).first (record_at l i).second (record_at l i).third
sound_row l sound i h =
    let k = says_sure (says_eq (kind_at l i) 3) (in_place property l sound i h) in
    as_kind 3 (record_at l i) k ∙ parsed_row (record_at l i) (right property l sound i h) k

-- 5: all records of a graph but the nodes are edges
pub five_agrees : (L : Limits) (k : Kind) (l : List ℕ) → Sound k l → over L k l ≡ passed L k l
unfolding counted
five_agrees L graph l sound = ap (λ (n : ℕ). ltb L.nodes (nodes_of l) || ltb L.edges n) (sym (edges_rest l (in_place graph l sound)))
five_agrees L property l sound = refl
five_agrees L rules l sound = refl
five_agrees L interface l sound = refl
