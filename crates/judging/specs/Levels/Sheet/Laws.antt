-- What the fault sheet lists: it starts at the lowest failing entry, and has what is reached from there by causes, breadth first, each pair once, and
-- nothing else. Each of its records is a pair that is listed, with its causes.
-- Its theorems that rest on a definition which a must-fail edit turns stand in proofs/Theorems/Levels/Sheet/Laws.
use Rattle.std.specs.Prelude.{◌≡◌, ◌⊎◌, Bool, not, ◌&&◌, ◌||◌, ℕ, suc, ◌*◌, ◌<◌, eqb, ltb, leb}
use Rattle.std.proofs.Math.Path.{refl, ap, subst}
use Rattle.std.proofs.Common.{ap₂, ◌∙◌, inl, inr, eqb→eq, T_not}
use Rattle.std.proofs.Math.Bool.{true, false, cond}
use mathlib.Core.List.Memᴰ
use mathlib.Core.List.{List, [], ◌∷◌, map, Memᴰ}
use Rattle.std.proofs.Math.Dec.{T, eqb_refl}
use Rattle.std.proofs.Math.ListN.{length, get_or}
use Rattle.std.proofs.lemmas.List.{length-map}
use Rattle.files.specs.Access.{row_held, operator_of}
use Rattle.files.specs.Basics.Least.{least, least_passes, least_before, least_lt}
use Rattle.files.specs.Basics.Lists.{keep, each, each_map, length_each}
use Rattle.files.specs.Basics.Queue.{breadth_first}
use Rattle.files.specs.Basics.Tests.{and_l, and_r, and_i, any, any_e, any_i, upto, upto_i, upto_e, grid, length_grid, decide, not_not, not_and}
use Rattle.files.specs.Decode.Listed.{decode_each}
use Rattle.files.specs.Graph.{Graph, Edge, size, node, Flow}
use Rattle.files.specs.Places.{record_len}
use Rattle.files.specs.Property.{Row, always, never, returns, not_returns, in_method, not_in_method, both, either, box, box_all, row, obliged, Boxed, by_label, by_any, Property}
use Rattle.judging.specs.Levels.{level, holds, satisfies, rank}
use Rattle.judging.specs.Levels.Laws.{satisfies_iff}
use Rattle.judging.specs.Levels.Sheet.{same_pair, Fault, no_cause, obliged_pair, targets, lower, ahead, foremost, box_causes, row_causes, causes, failing, pairs, fault, sheet, fault_bytes, fault_record, fault_of, read_sheet, sheet_bytes}
use Rattle.judging.specs.Levels.Sheet.Meaning.{Wrong}

pub same_pair_e : (x y : ℕ × ℕ) → T (same_pair x y) → x ≡ y
same_pair_e x y t =
    let a : x.0 ≡ y.0 = eqb→eq _ _ (and_l (eqb x.0 y.0) (eqb x.1 y.1) t) in
    let b : x.1 ≡ y.1 = eqb→eq _ _ (and_r (eqb x.0 y.0) (eqb x.1 y.1) t) in
    ap₂ (λ (i j : ℕ). (i, j)) a b

pub same_pair_refl : (x : ℕ × ℕ) → T (same_pair x x)
same_pair_refl x = and_i (eqb x.0 x.0) (eqb x.1 x.1) (eqb_refl x.0) (eqb_refl x.1)

module _ (G : Graph) (P : List Row) (flow : Flow G) (wf : Property P) where
  -- ---- the start

  abbrev fails : ℕ → Bool
  fails g = (node G g).entry && not (holds G P g 0)

  some_fails : T (not (satisfies G P)) → (g : ℕ) × (g < size G) × T (fails g)
  some_fails t = go (decide (any fails (upto (size G))))
    where
      go : T (any fails (upto (size G))) ⊎ T (not (any fails (upto (size G)))) → (g : ℕ) × (g < size G) × T (fails g)
      go (inl s) = let a = any_e fails (upto (size G)) s in (a.0, upto_e (size G) a.0 a.1, a.2)
      go (inr s) = absurd (T_not (satisfies G P) t ((satisfies_iff G P).1 (λ g h e. on g h e (decide (holds G P g 0)))))
        where
          on : (g : ℕ) → g < size G → T (node G g).entry → T (holds G P g 0) ⊎ T (not (holds G P g 0)) → T (holds G P g 0)
          on g h e (inl k) = k
          on g h e (inr k) =
              absurd (T_not (any fails (upto (size G))) s (any_i fails (upto (size G)) g (upto_i (size G) g h) (and_i (node G g).entry (not (holds G P g 0)) e k)))

  -- entries below the one that is named do not fail
  pub failing_lowest : (g : ℕ) → g < failing G P → T (node G g).entry → T (holds G P g 0)
  unfolding failing
  failing_lowest g h e = go (not_and (node G g).entry (not (holds G P g 0)) (least_before fails (size G) g h))
    where
      go : T (not (node G g).entry) ⊎ T (not (not (holds G P g 0))) → T (holds G P g 0)
      go (inl n) = absurd (T_not (node G g).entry n e)
      go (inr n) = not_not (holds G P g 0) n

  module _ (bad : T (not (satisfies G P))) where
    failing_passes : T (fails (failing G P))
    unfolding failing
    failing_passes = let a = some_fails bad in least_passes fails (size G) a.0 a.1 a.2

    failing_le : failing G P < size G
    unfolding failing
    failing_le = let a = some_fails bad in least_lt fails (size G) a.0 a.1 a.2

    -- the one that is named is an entry, and row 0 is false there
    pub failing_entry : T (node G (failing G P)).entry
    failing_entry = and_l (node G (failing G P)).entry (not (holds G P (failing G P) 0)) failing_passes

    pub failing_wrong : Wrong G P (failing G P, 0)
    failing_wrong = record {
      is_node = failing_le;
      is_row = wf.has_root;
      is_false = and_r (node G (failing G P)).entry (not (holds G P (failing G P) 0)) failing_passes;
    }

  -- ---- the pairs listed

  pub pairs_some : T (not (satisfies G P)) → breadth_first same_pair (causes G P) (size G * length P) (failing G P, 0) ≡ pairs G P
  unfolding pairs
  pairs_some t = go (satisfies G P) t
    where
      go : (b : Bool) → T (not b)
          → breadth_first same_pair (causes G P) (size G * length P) (failing G P, 0) ≡ cond b [] (breadth_first same_pair (causes G P) (size G * length P) (failing G P, 0))
      go true t = absurd t
      go false t = refl

  module _ (bad : T (not (satisfies G P))) where
    -- there are as many steps as there are pairs to meet
    pub walked : breadth_first same_pair (causes G P) (length (grid (size G) (length P))) (failing G P, 0) ≡ pairs G P
    walked = ap (λ (n : ℕ). breadth_first same_pair (causes G P) n (failing G P, 0)) (length_grid (size G) (length P)) ∙ pairs_some bad

  -- ---- the records

  pub sheet_pairs : map (λ (f : Fault). f.pair) (sheet G P) ≡ pairs G P
  unfolding sheet fault
  sheet_pairs = go (pairs G P)
    where
      go : (xs : List (ℕ × ℕ)) → map (λ (f : Fault). f.pair) (map (fault G P) xs) ≡ xs
      go [] = refl
      go (x ∷ xs) = ap (λ (ys : List (ℕ × ℕ)). x ∷ ys) (go xs)

  pub sheet_causes : (f : Fault) → Memᴰ f (sheet G P) → (f.first ≡ get_or (causes G P f.pair) 0 no_cause) × (f.second ≡ get_or (causes G P f.pair) 1 no_cause)
  unfolding sheet fault
  sheet_causes f m =
      let a = Memᴰ.of_map (fault G P) (pairs G P) m in
      subst (λ (x : Fault). (x.first ≡ get_or (causes G P x.pair) 0 no_cause) × (x.second ≡ get_or (causes G P x.pair) 1 no_cause)) a.2 (refl, refl)

-- ---- the definitions, as the code meets them

module _ (G : Graph) (P : List Row) where
  pub rank_is : (g r : ℕ) → rank G P g r ≡ least (λ k. not (level G P k g r)) (suc (size G * length P))
  unfolding rank
  rank_is g r = refl

  pub failing_is : failing G P ≡ least (λ (g : ℕ). (node G g).entry && not (holds G P g 0)) (size G)
  unfolding failing
  failing_is = refl

  pub lower_is : (g a b : ℕ) → lower G P g a b ≡ cond (leb (rank G P g a) (rank G P g b)) a b
  unfolding lower
  lower_is g a b = refl

  pub ahead_is : (x y : ℕ × ℕ)
      → ahead G P x y
      ≡ ltb (rank G P x.0 x.1) (rank G P y.0 y.1) || (eqb (rank G P x.0 x.1) (rank G P y.0 y.1) && leb x.0 y.0)
  unfolding ahead
  ahead_is x y = refl

  pub targets_are : (g : ℕ) (x : Row)
      → targets G g x ≡ each (λ (e : Edge). obliged_pair e.to (obliged x e.label)) (keep (λ (e : Edge). eqb e.from g) G.edges)
  unfolding targets
  targets_are g x = refl

  pub foremost_one : (x : ℕ × ℕ) → foremost G P x [] ≡ x
  unfolding foremost
  foremost_one x = refl

  pub foremost_more : (x y : ℕ × ℕ) (ys : List (ℕ × ℕ)) → foremost G P x (y ∷ ys) ≡ foremost G P (cond (ahead G P x y) x y) ys
  unfolding foremost
  foremost_more x y ys = refl

  pub box_none : box_causes G P [] ≡ []
  unfolding box_causes
  box_none = refl

  pub box_some : (x : ℕ × ℕ) (xs : List (ℕ × ℕ)) → box_causes G P (x ∷ xs) ≡ foremost G P x xs ∷ []
  unfolding box_causes
  box_some x xs = refl

  module _ (g r : ℕ) where
    pub causes_both : (a b : ℕ) → row P r ≡ both a b → causes G P (g, r) ≡ (g, lower G P g a b) ∷ []
    unfolding causes row_causes
    causes_both a b e = ap (row_causes G P g) e

    pub causes_box : Boxed (row P r) → causes G P (g, r) ≡ box_causes G P (targets G g (row P r))
    unfolding causes row_causes
    causes_box = go (row P r)
      where
        go : (x : Row) → Boxed x → row_causes G P g x ≡ box_causes G P (targets G g x)
        go x (by_label l b) = refl
        go x (by_any a) = refl

    pub causes_rest : (operator_of (row_held (row P r)) ≡ 7 → ⊥) → (operator_of (row_held (row P r)) ≡ 8 → ⊥) → (Boxed (row P r) → ⊥) → causes G P (g, r) ≡ []
    unfolding causes row_causes
    causes_rest = go (row P r)
      where
        go : (x : Row) → (operator_of (row_held x) ≡ 7 → ⊥) → (operator_of (row_held x) ≡ 8 → ⊥) → (Boxed x → ⊥) → row_causes G P g x ≡ []
        go always e f h = refl
        go never e f h = refl
        go returns e f h = refl
        go not_returns e f h = refl
        go (in_method a) e f h = refl
        go (not_in_method a) e f h = refl
        go (both a b) e f h = absurd (e refl)
        go (either a b) e f h = absurd (f refl)
        go (box l b) e f h = absurd (h (by_label l b))
        go (box_all a) e f h = absurd (h (by_any a))

-- ---- the bytes

pub fault_is : (G : Graph) (P : List Row) (x : ℕ × ℕ) → fault G P x ≡ record { pair = x; first = get_or (causes G P x) 0 no_cause; second = get_or (causes G P x) 1 no_cause }
unfolding fault
fault_is G P x = refl

pub sheet_bytes_are : (G : Graph) (P : List Row) → sheet_bytes G P ≡ each (λ (x : ℕ × ℕ). fault_bytes (fault G P x)) (pairs G P)
unfolding sheet_bytes sheet
sheet_bytes_are G P = each_map fault_bytes (fault G P) (pairs G P)

-- the sheet has as many records as there are pairs
pub sheet_length : (G : Graph) (P : List Row) → length (sheet G P) ≡ length (pairs G P)
unfolding sheet
sheet_length G P = length-map (pairs G P) (fault G P)

-- six bytes a record
pub sheet_bytes_length : (G : Graph) (P : List Row) → length (sheet_bytes G P) ≡ record_len * length (sheet G P)
unfolding sheet_bytes
sheet_bytes_length G P = length_each 6 fault_bytes (λ f. refl) (sheet G P)

-- the bytes hold the sheet
pub sheet_read : (G : Graph) (P : List Row) → read_sheet (sheet_bytes G P) ≡ sheet G P
unfolding sheet_bytes read_sheet
sheet_read G P = decode_each fault_record fault_of (record { pair = no_cause; first = no_cause; second = no_cause }) (λ f. refl) (sheet G P)
