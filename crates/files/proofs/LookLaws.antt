-- For the checks of a record: what is found where it is misplaced, wrong or out of order, where it does not read as its place asks for, and where it does; and
-- what is found of the nodes and rows that it names.
use Rattle.std.specs.Prelude.{Err, Some, None, Option}
use Rattle.std.specs.Ordering.{is_ge, is_some_and, nat_cmp, partial_ordering_then}
use Rattle.std.proofs.Common.{Ordering, Less, Equal, Greater}
use mathlib.Core.Path.{◌≡◌, refl, sym, ap, subst, ◌∙◌}
use mathlib.Core.Logic.{◌⊎◌, inl, inr}
use mathlib.Core.Bool.{Bool, true, false, not, cond, or-false, ◌&&◌, ◌||◌}
use mathlib.Core.List.{List, [], ◌∷◌}
use Prim.Native.Nat.{ℕ, zero, suc, ◌+◌, ◌-◌, ◌≤◌, ◌<◌}
use native.Mathlib.Decide.{ℕ_discrete, dec_lt}
use native.Mathlib.Omega.{arith}
use lib.Dec.{T, leb, ltb, eqb}
use borrow.Author.Tests.{eq-eqb, ne_eqb, le-leb, lt-leb, lt-ltb}
use Rattle.files.specs.Basics.Lexical.{before, before_three, before_four}
use Rattle.files.specs.Checking.{test, found_at, unread_number, names_past, Sound}
use Rattle.files.specs.Checking.Laws.{looked_is, named_is}
use Rattle.files.specs.Checking.Reads.{right_kind, read_right, node_or_edge, sound_node, sound_edge, sound_row}
use Rattle.files.specs.Outcome.{refusal_at, Passed}
use Rattle.files.specs.Record.{record_at, count, kind_at, wrong, parsed, parsed_as}
use Rattle.files.specs.Record.Laws.{kind_read, parsed_wrong, as_kind, as_other}
use Rattle.files.specs.Refusal.{Kind, graph, property, interface, of_kind, nodes_of, edge_before, misplaced, disordered, past, method_at, crossing}
use Rattle.files.specs.declared.record.Parsed.{Parsed}
use Rattle.files.specs.declared.record.Parsed.TheVariants.{Node, Edge, Row, Wrong, Other}
use Rattle.files.specs.declared.record.Record.{Record}
use Rattle.files.specs.declared.refusal.Refusal.{Refusal}
use Rattle.files.proofs.Tags.{never}

-- ---- 2 to 4

module _ (k : Kind) (l : List ℕ) (first position i : ℕ) where
  pub two_found : (x : Refusal) → misplaced k l i ≡ true → x ≡ refusal_at 2 position (first + i) → Err x ≡ found_at 3 2 (test k l) first position i
  two_found x a d = rw (looked_is k l first position i, a) (ap Err d)

  three_found : (x : Refusal) → misplaced k l i ≡ false → wrong (record_at l i) ≡ true → x ≡ refusal_at 3 position (first + i) → Err x ≡ found_at 3 2 (test k l) first position i
  three_found x a b d = rw (looked_is k l first position i, a, b) (ap Err d)

  pub four_found : (x : Refusal) → (misplaced k l i ≡ false) × (wrong (record_at l i) ≡ false) → disordered k l i ≡ true → x ≡ refusal_at 4 position (first + i)
      → Err x ≡ found_at 3 2 (test k l) first position i
  four_found x a c d = rw (looked_is k l first position i, a.0, a.1, c) (ap Err d)

  pub nothing_found : (misplaced k l i ≡ false) × (wrong (record_at l i) ≡ false) → disordered k l i ≡ false → Passed ≡ found_at 3 2 (test k l) first position i
  nothing_found a c = rw (looked_is k l first position i, a.0, a.1, c) refl

  -- where a record of kind n alone is in its place
  module _ (n : ℕ) (n_low : 1 ≤ n) (n_high : n ≤ 5) (place : misplaced k l i ≡ not (eqb (kind_at l i) n)) (p : Parsed) (is : p ≡ parsed_as n (record_at l i)) where
    abbrev numbered : Parsed → Refusal
    numbered q = refusal_at (unread_number 2 q) position (first + i)

    pub unread_found : (kind_read p ≡ n → ⊥) → (x : Refusal) → x ≡ numbered p → Err x ≡ found_at 3 2 (test k l) first position i
    unread_found o x d = go (ℕ_discrete (kind_at l i) n) (wrong (record_at l i)) refl
      where
        go : Dec (kind_at l i ≡ n) → (b : Bool) → wrong (record_at l i) ≡ b → Err x ≡ found_at 3 2 (test k l) first position i
        go (no h) b w = two_found x (place ∙ ap not (ne_eqb (kind_at l i) n h)) (d ∙ ap numbered (is ∙ as_other n (record_at l i) h))
        go (yes h) true w =
            three_found x (place ∙ ap not (eq-eqb (kind_at l i) n h)) w
            (d ∙ ap numbered (is ∙ as_kind n (record_at l i) h ∙ parsed_wrong (record_at l i) (subst T (sym w) tt)))
        go (yes h) false w =
            absurd (never n p (parsed (record_at l i)) (is ∙ as_kind n (record_at l i) h) (right_kind n n_low n_high (record_at l i) h (subst (λ (b : Bool). T (not b)) (sym w) tt)) o)

    pub read_found : kind_read p ≡ n → (misplaced k l i ≡ false) × (wrong (record_at l i) ≡ false)
    read_found e = let r = read_right n n_low (record_at l i) p is e in (place ∙ ap not (eq-eqb (kind_at l i) n r.0), r.1)

-- ---- which kind alone is in its place

pub node_place : (l : List ℕ) (i : ℕ) → kind_at l i ≡ 1 → edge_before l i ≡ false → misplaced graph l i ≡ not (eqb (kind_at l i) 1)
node_place l i e d = rw (e, d) refl

pub after_edge : (l : List ℕ) (i : ℕ) → kind_at l i ≡ 1 → edge_before l i ≡ true → misplaced graph l i ≡ true
after_edge l i e d = rw (e, d) refl

pub edge_place : (l : List ℕ) (i : ℕ) → (kind_at l i ≡ 1 → ⊥) → misplaced graph l i ≡ not (eqb (kind_at l i) 2)
edge_place l i h = rw (ne_eqb (kind_at l i) 1 h) (or-false (not (eqb (kind_at l i) 2)))

pub interface_place : (l : List ℕ) (i : ℕ) → i < 1 → misplaced interface l i ≡ not (eqb (kind_at l i) 5)
interface_place l i h = rw (lt-leb 1 i h) (or-false (not (eqb (kind_at l i) 5)))

pub second_interface : (l : List ℕ) (i : ℕ) → 1 ≤ i → misplaced interface l i ≡ true
second_interface l i h = rw (le-leb 1 i h) (go (not (eqb (kind_at l i) 5)))
  where
    go : (b : Bool) → (b || true) ≡ true
    go true = refl
    go false = refl

-- ---- order

pub node_ordered : (l : List ℕ) (i : ℕ) → kind_at l i ≡ 1 → disordered graph l i ≡ false
node_ordered l zero e = refl
node_ordered l (suc i) e = rw e (go (of_kind l 2 i))
  where
    go : (b : Bool) → (b && false) ≡ false
    go true = refl
    go false = refl

-- ---- order of keys, which the library compares as tuples and the definitions as lists

-- the library's order of two numbers
abbrev of_two : ℕ → ℕ → Option Ordering
of_two x y = Some (nat_cmp x y)

then_then : (a b c : Option Ordering) → partial_ordering_then (partial_ordering_then a b) c ≡ partial_ordering_then a (partial_ordering_then b c)
then_then None b c = refl
then_then (Some Less) b c = refl
then_then (Some Equal) b c = refl
then_then (Some Greater) b c = refl

-- one number more: what is known of the numbers after it tells of all
not_ascending : (x y : ℕ) (o : Option Ordering) (w : Bool) → is_some_and is_ge o ≡ not w
    → is_some_and is_ge (partial_ordering_then (of_two x y) o) ≡ not (ltb x y || (eqb x y && w))
not_ascending x y o w h = go (ltb x y) (eqb x y)
  where
    go : (a b : Bool) → is_some_and is_ge (partial_ordering_then (Some (cond a Less (cond b Equal Greater))) o) ≡ not (a || (b && w))
    go true b = refl
    go false true = h
    go false false = refl

last_not_ascending : (x y : ℕ) → is_some_and is_ge (of_two x y) ≡ not (ltb x y)
last_not_ascending x y = go (ltb x y) (eqb x y)
  where
    go : (a b : Bool) → is_some_and is_ge (Some (cond a Less (cond b Equal Greater))) ≡ not a
    go true b = refl
    go false true = refl
    go false false = refl

pub three_not_ascending : (a b c x y z : ℕ)
    → is_some_and is_ge (partial_ordering_then (partial_ordering_then (of_two a x) (of_two b y)) (of_two c z)) ≡ not (before (a ∷ b ∷ c ∷ []) (x ∷ y ∷ z ∷ []))
three_not_ascending a b c x y z =
    ap (is_some_and is_ge) (then_then (of_two a x) (of_two b y) (of_two c z)) ∙ not_ascending a x _ _ (not_ascending b y _ _ (last_not_ascending c z))
    ∙ ap not (before_three a b c x y z)

pub four_not_ascending : (a b c d w x y z : ℕ)
    → is_some_and is_ge (partial_ordering_then (partial_ordering_then (partial_ordering_then (of_two a w) (of_two b x)) (of_two c y)) (of_two d z))
    ≡ not (before (a ∷ b ∷ c ∷ d ∷ []) (w ∷ x ∷ y ∷ z ∷ []))
four_not_ascending a b c d w x y z =
    ap (is_some_and is_ge)
    (then_then (partial_ordering_then (of_two a w) (of_two b x)) (of_two c y) (of_two d z) ∙ then_then (of_two a w) (of_two b x) (partial_ordering_then (of_two c y) (of_two d z)))
    ∙ not_ascending a w _ _ (not_ascending b x _ _ (not_ascending c y _ _ (last_not_ascending d z))) ∙ ap not (before_four a b c d w x y z)

-- the record before i, and i: two of kind n, which has this key
pub neighbours_disordered : (k : Kind) (l : List ℕ) (n : ℕ) (key : Record → List ℕ)
    → ((j : ℕ) → (of_kind l n j && (of_kind l n (suc j) && not (before (key (record_at l j)) (key (record_at l (suc j)))))) ≡ disordered k l (suc j))
    → (r s : Record) (b : Bool) (i : ℕ) → (i ≡ 0 → ⊥) → r ≡ record_at l (i - 1) → s ≡ record_at l i → b ≡ not (before (key r) (key s))
    → (eqb r.kind n && (eqb s.kind n && b)) ≡ disordered k l i
neighbours_disordered k l n key is r s b zero h d e f = absurd (h refl)
neighbours_disordered k l n key is r s b (suc i) h d e f = let q : suc i - 1 ≡ i = omega arith in rw (f, d, e, q) (is i)

-- ---- 7 and 8 of an edge

-- what reads as no record reads as no node
not_nothing : (q : Parsed) (m : ℕ) (r e : Bool) → q ≡ Node m r e → kind_read q ≡ 0 → ⊥
not_nothing q m r e d z = let f : ◌≡◌ {A = ℕ} 1 0 = sym (ap kind_read d) ∙ z in omega arith

module _ (l : List ℕ) (sound : Sound graph l) (first position i : ℕ) (h : i < count l) where
  pub node_names_none : (p : Parsed) → p ≡ parsed_as 2 (record_at l i) → (kind_read p ≡ 2 → ⊥) → Passed ≡ found_at 2 7 (test graph l) first position i
  node_names_none p is o = go (node_or_edge l sound i h)
    where
      go : (kind_at l i ≡ 1) ⊎ (kind_at l i ≡ 2) → Passed ≡ found_at 2 7 (test graph l) first position i
      go (inl e) = rw (named_is graph l first position i, e) refl
      go (inr e) = absurd (never 2 p _ (is ∙ sound_edge l sound i h e) refl o)

  module _ (N from label to : ℕ) (N_is : N ≡ nodes_of l) (p : Parsed) (is : p ≡ parsed_as 2 (record_at l i)) (edge : p ≡ Edge from label to) where
    an_edge : kind_at l i ≡ 2
    an_edge = (read_right 2 (omega arith) (record_at l i) p is (ap kind_read edge)).0

    fields : Edge from label to ≡ Edge (record_at l i).first (record_at l i).second (record_at l i).third
    fields = sym edge ∙ is ∙ sound_edge l sound i h an_edge

    from_is : from ≡ (record_at l i).first
    from_is = let f = fields in cc

    to_is : to ≡ (record_at l i).third
    to_is = let f = fields in cc

    past_is : past graph l i ≡ (leb N from || leb N to)
    past_is = rw (an_edge, from_is, to_is, N_is) refl

    crossing_is : crossing graph l i ≡ (ltb from N && (ltb to N && not (eqb (method_at l to) (method_at l from))))
    crossing_is = rw (an_edge, from_is, to_is, N_is) refl

    sound_at : (g : ℕ) → g < N → parsed_as 1 (record_at l g) ≡ Node (method_at l g) (eqb (record_at l g).second 1) (eqb (record_at l g).third 1)
    sound_at g b = sound_node l sound g (omega (arith, N_is))

    -- the node that the edge leaves
    module _ (q : Parsed) (q_is : q ≡ cond (leb N from) Other (parsed_as 1 (record_at l from))) where
      from_read : from < N → q ≡ Node (method_at l from) (eqb (record_at l from).second 1) (eqb (record_at l from).third 1)
      from_read b = q_is ∙ ap (λ (t : Bool). cond t Other (parsed_as 1 (record_at l from))) (lt-leb N from b) ∙ sound_at from b

      pub from_past : (kind_read q ≡ 1 → ⊥) → (x : Refusal) → x ≡ refusal_at 7 position (first + i) → Err x ≡ found_at 2 7 (test graph l) first position i
      from_past o x d = go (dec_lt from N)
        where
          go : Dec (from < N) → Err x ≡ found_at 2 7 (test graph l) first position i
          go (yes b) = absurd (never 1 q _ (from_read b) refl o)
          go (no b) = rw (named_is graph l first position i, past_is, le-leb N from (omega arith)) (ap Err d)

      pub from_there : (m : ℕ) (r e : Bool) → q ≡ Node m r e → (from < N) × (m ≡ method_at l from)
      from_there m r e node = go (dec_lt from N)
        where
          go : Dec (from < N) → (from < N) × (m ≡ method_at l from)
          go (yes b) = let f = sym node ∙ from_read b in (b, cc)
          go (no b) = absurd (not_nothing q m r e node (ap kind_read q_is ∙ (rw (le-leb N from (omega arith)) refl)))

    -- the node that it leads to, beside the first
    module _ (m : ℕ) (there : (from < N) × (m ≡ method_at l from)) (b : Parsed)
        (b_is : b ≡ cond (leb N to) Other (cond (eqb (method_at l to) m) (parsed_as 1 (record_at l to)) Wrong)) where
      abbrev past_or_apart : Parsed → Refusal
      past_or_apart q = refusal_at (unread_number 7 q) position (first + i)

      past_to : to < N → past graph l i ≡ false
      past_to t = past_is ∙ (rw (lt-leb N from there.0, lt-leb N to t) refl)

      crossing_to : to < N → crossing graph l i ≡ not (eqb (method_at l to) m)
      crossing_to t = crossing_is ∙ (rw (lt-ltb from N there.0, lt-ltb to N t, there.1) refl)

      -- past the last, in another method, or there
      gone : (to < N → ⊥) → b ≡ Other
      gone t = b_is ∙ (rw (le-leb N to (omega arith)) refl)

      apart : to < N → (method_at l to ≡ m → ⊥) → b ≡ Wrong
      apart t d = b_is ∙ (rw (lt-leb N to t, ne_eqb (method_at l to) m d) refl)

      beside : to < N → method_at l to ≡ m → b ≡ parsed_as 1 (record_at l to)
      beside t d = b_is ∙ (rw (lt-leb N to t, eq-eqb (method_at l to) m d) refl)

      pub to_missing : (kind_read b ≡ 1 → ⊥) → (x : Refusal) → x ≡ past_or_apart b → Err x ≡ found_at 2 7 (test graph l) first position i
      to_missing o x d = go (dec_lt to N) (ℕ_discrete (method_at l to) m)
        where
          go : Dec (to < N) → Dec (method_at l to ≡ m) → Err x ≡ found_at 2 7 (test graph l) first position i
          go (no t) e = rw (named_is graph l first position i, past_is, lt-leb N from there.0, le-leb N to (omega arith)) (ap Err (d ∙ ap past_or_apart (gone t)))
          go (yes t) (no e) =
              rw (named_is graph l first position i, past_to t, crossing_to t, ne_eqb (method_at l to) m e) (ap Err (d ∙ ap past_or_apart (apart t e)))
          go (yes t) (yes e) = absurd (never 1 b _ (beside t e ∙ sound_at to t) refl o)

      pub nodes_there : (n : ℕ) (r e : Bool) → b ≡ Node n r e → Passed ≡ found_at 2 7 (test graph l) first position i
      nodes_there n r e node = go (dec_lt to N) (ℕ_discrete (method_at l to) m)
        where
          go : Dec (to < N) → Dec (method_at l to ≡ m) → Passed ≡ found_at 2 7 (test graph l) first position i
          go (no t) d = absurd (not_nothing b n r e node (ap kind_read (gone t)))
          go (yes t) (no d) = absurd (not_nothing b n r e node (ap kind_read (apart t d)))
          go (yes t) (yes d) = rw (named_is graph l first position i, past_to t, crossing_to t, eq-eqb (method_at l to) m d) refl

-- ---- 7 of a row

module _ (l : List ℕ) (sound : Sound property l) (first position i : ℕ) (h : i < count l) (N : ℕ) (N_is : N ≡ count l) (p : Parsed)
    (is : p ≡ cond (names_past N (record_at l i)) Other (parsed_as 3 (record_at l i))) where
  past_row : past property l i ≡ names_past N (record_at l i)
  past_row = rw N_is refl

  pub row_past : (kind_read p ≡ 3 → ⊥) → (x : Refusal) → x ≡ refusal_at 7 position (first + i) → Err x ≡ found_at 2 7 (test property l) first position i
  row_past o x d = go (names_past N (record_at l i)) refl
    where
      go : (b : Bool) → names_past N (record_at l i) ≡ b → Err x ≡ found_at 2 7 (test property l) first position i
      go true e = rw (named_is property l first position i, past_row ∙ e) (ap Err d)
      go false e = absurd (never 3 p _ (is ∙ ap (λ (b : Bool). cond b Other (parsed_as 3 (record_at l i))) e ∙ sound_row l sound i h) refl o)

  pub rows_there : (o a b : ℕ) → p ≡ Row o a b → Passed ≡ found_at 2 7 (test property l) first position i
  rows_there o a b row = go (names_past N (record_at l i)) refl
    where
      go : (t : Bool) → names_past N (record_at l i) ≡ t → Passed ≡ found_at 2 7 (test property l) first position i
      go false e = rw (named_is property l first position i, past_row ∙ e) refl
      go true e = absurd (nothing (sym (ap kind_read row) ∙ ap kind_read (is ∙ ap (λ (t : Bool). cond t Other (parsed_as 3 (record_at l i))) e)))
        where
          nothing : ◌≡◌ {A = ℕ} 3 0 → ⊥
          nothing z = omega arith
