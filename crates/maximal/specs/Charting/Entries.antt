-- The entries of a model entered kind by kind: what is known once those of the kinds below k are there, from a blank row on to that of all entries.
use Rattle.std.specs.Prelude.{◌≡◌, refl, ◌⊎◌, Bool, false, ◌&&◌, ◌||◌, List, ℕ, ◌+◌, ◌^◌, ◌<◌, T, eqb, ltb, length}
use Rattle.std.proofs.Common.{sym, ap, ap₂, subst, ◌∙◌, inl, inr, arith, eqb→eq, ltb→lt, lt→ltb}
use Rattle.std.proofs.Math.Decide.{ℕ_discrete, dec_lt}
use Rattle.files.specs.Basics.Binary.{value}
use Rattle.files.specs.Basics.Tests.{same_test, eq_eqb, and_l, and_r, and_i, or_e, or_l, or_r, any, any_e}
use Rattle.files.specs.Interface.{Interface}
use Rattle.files.specs.Property.{Row, Property}
use Rattle.maximal.specs.Charting.{kind_at, set_at, state_of, stored, target, Holds, Admitted, Charting}
use Rattle.maximal.specs.Charting.Kept.{off}
use Rattle.maximal.specs.Charting.Entering.{same_place, still_there, tested}
use Rattle.maximal.specs.Charting.States.{kind_of, kind_of_is, kind_provided, state_of_is}
use Rattle.maximal.specs.Masks.{member}
use Rattle.maximal.specs.Masks.Laws.{value_lt}
use Rattle.maximal.specs.Model.{State, Entry, is_entry}
use Rattle.maximal.specs.Model.Computed.{entry_e, entry_i}
use Rattle.maximal.specs.Model.Supports.{length_tab}
use Rattle.maximal.specs.Places.{entries_slot, max_states}

module _ (I : Interface) (P : List Row) where
  abbrev n : ℕ
  n = length P

  -- an entry of a kind below k
  abbrev early : ℕ → State → Bool
  early k s = is_entry I P s && ltb (kind_of s) k

  -- those are there, and marked
  pub record EntriesBelow (k c : ℕ) (w : List ℕ) : Type 0 where
    pub holds : Holds I P c w
    pub bits : (t : ℕ) → t < max_states → target w entries_slot t ≡ (ltb t c && early k (stored n w t))
    pub there : (s : State) → Entry I P s → kind_of s < k → (t : ℕ) × (t < c) × (stored n w t ≡ s)

  -- ---- before all kinds

  pub entries_none : (w : List ℕ) → ((t : ℕ) → t < max_states → target w entries_slot t ≡ false) → EntriesBelow 2 0 w
  entries_none w blank = record {
    holds = record { few = omega arith; known = λ i l. absurd (omega arith); once = λ i j l m. absurd (omega arith) };
    bits = λ t l. blank t l ∙ sym (off (ltb t 0 && early 2 (stored n w t)) (λ z. absurd (below_none t (ltb→lt t 0 (and_l (ltb t 0) (early 2 (stored n w t)) z)))));
    there = λ s e l. absurd (omega (arith, (kind_provided I s e.provided).0));
  }
    where
      below_none : (t : ℕ) → t < 0 → ⊥
      below_none t l = omega arith

  -- ---- one kind more

  -- A has the sets of the entries of kind k
  module _ (wf : Property P) (k c c' : ℕ) (A : List ℕ) (w w' : List ℕ) (e : EntriesBelow k c w) (x : Admitted I P c c' k A entries_slot w w')
      (entries : (u : ℕ) → u < 2 ^ n → is_entry I P (state_of n k u) ≡ any (λ (y : ℕ). eqb u y) A) where
    abbrev at : ℕ → State
    at t = stored n w' t

    abbrev in_list : ℕ → Bool
    in_list t = eqb (kind_at w' t) k && any (λ (y : ℕ). eqb (set_at w' t) y) A

    is_entry_e : (t : ℕ) → T (is_entry I P (at t)) → Entry I P (at t)
    is_entry_e t z = entry_e I P wf (at t) (length_tab (member (set_at w' t)) n) z

    kind_is : (t : ℕ) → kind_of (at t) ≡ kind_at w' t
    kind_is t = kind_of_is n (kind_at w' t) (set_at w' t)

    -- a state of kind k is in the list exactly where it is an entry
    listed_is : (t : ℕ) → t < c' → kind_at w' t ≡ k → any (λ (y : ℕ). eqb (set_at w' t) y) A ≡ is_entry I P (at t)
    listed_is t l d = sym (ap (λ (i : ℕ). is_entry I P (state_of n i (set_at w' t))) d ∙ entries (set_at w' t) (x.holds.known t l).of_rows)

    one_more : (t : ℕ) → ((ltb t c' && early k (at t)) || (ltb t c' && in_list t)) ≡ (ltb t c' && early (k + 1) (at t))
    one_more t = same_test ((ltb t c' && early k (at t)) || (ltb t c' && in_list t)) (ltb t c' && early (k + 1) (at t))
        (λ z. forth (or_e (ltb t c' && early k (at t)) (ltb t c' && in_list t) z))
        (λ z. back (ltb→lt t c' (and_l (ltb t c') (early (k + 1) (at t)) z)) (and_l (is_entry I P (at t)) (ltb (kind_of (at t)) (k + 1)) (rest z)) (ltb→lt (kind_of (at t)) (k + 1) (and_r (is_entry I P (at t)) (ltb (kind_of (at t)) (k + 1)) (rest z))))
      where
        rest : T (ltb t c' && early (k + 1) (at t)) → T (early (k + 1) (at t))
        rest z = and_r (ltb t c') (early (k + 1) (at t)) z

        to : t < c' → T (is_entry I P (at t)) → kind_of (at t) < k + 1 → T (ltb t c' && early (k + 1) (at t))
        to l z m = and_i (ltb t c') (early (k + 1) (at t)) (lt→ltb t c' l) (and_i (is_entry I P (at t)) (ltb (kind_of (at t)) (k + 1)) z (lt→ltb (kind_of (at t)) (k + 1) m))

        forth : T (ltb t c' && early k (at t)) ⊎ T (ltb t c' && in_list t) → T (ltb t c' && early (k + 1) (at t))
        forth (inl z) =
            let y = and_r (ltb t c') (early k (at t)) z in
            let m = ltb→lt (kind_of (at t)) k (and_r (is_entry I P (at t)) (ltb (kind_of (at t)) k) y) in
            to (ltb→lt t c' (and_l (ltb t c') (early k (at t)) z)) (and_l (is_entry I P (at t)) (ltb (kind_of (at t)) k) y) (omega arith)
        forth (inr z) =
            let l = ltb→lt t c' (and_l (ltb t c') (in_list t) z) in
            let y = and_r (ltb t c') (in_list t) z in
            let d = eqb→eq (kind_at w' t) k (and_l (eqb (kind_at w' t) k) (any (λ (y : ℕ). eqb (set_at w' t) y) A) y) in
            to l (subst T (listed_is t l d) (and_r (eqb (kind_at w' t) k) (any (λ (y : ℕ). eqb (set_at w' t) y) A) y)) (omega (arith, d, kind_is t))

        back : t < c' → T (is_entry I P (at t)) → kind_of (at t) < k + 1 → T ((ltb t c' && early k (at t)) || (ltb t c' && in_list t))
        back l z m = go (ℕ_discrete (kind_at w' t) k)
          where
            go : Dec (kind_at w' t ≡ k) → T ((ltb t c' && early k (at t)) || (ltb t c' && in_list t))
            go (yes d) = or_r (ltb t c' && early k (at t)) (ltb t c' && in_list t) (and_i (ltb t c') (in_list t) (lt→ltb t c' l)
                (and_i (eqb (kind_at w' t) k) (any (λ (y : ℕ). eqb (set_at w' t) y) A) (eq_eqb (kind_at w' t) k d) (subst T (sym (listed_is t l d)) z)))
            go (no d) =
                let s : kind_of (at t) < k = omega (arith, kind_is t, d) in
                or_l (ltb t c' && early k (at t)) (ltb t c' && in_list t) (and_i (ltb t c') (early k (at t)) (lt→ltb t c' l) (and_i (is_entry I P (at t)) (ltb (kind_of (at t)) k) z (lt→ltb (kind_of (at t)) k s)))

    -- an early state was there before
    was_there : (t : ℕ) → t < c' → T (early k (at t)) → t < c
    was_there t l z =
        same_place I P wf c c' k A entries_slot w w' x t (at t) l refl
        (e.there (at t) (is_entry_e t (and_l (is_entry I P (at t)) (ltb (kind_of (at t)) k) z)) (ltb→lt (kind_of (at t)) k (and_r (is_entry I P (at t)) (ltb (kind_of (at t)) k) z)))

    found : (s : State) → Entry I P s → kind_of s < k + 1 → Dec (kind_of s < k) → (t : ℕ) × (t < c') × (stored n w' t ≡ s)
    found s y l (yes m) = still_there I P wf c c' k A entries_slot w w' x s (e.there s y m)
    found s y l (no m) =
        let d : kind_of s ≡ k = omega arith in
        let r : length s.rows ≡ n = y.minimal.support.of_rows in
        let is : state_of n k (value s.rows) ≡ s = ap (λ (i : ℕ). state_of n i (value s.rows)) (sym d) ∙ state_of_is n s r in
        let z : T (any (λ (y : ℕ). eqb (value s.rows) y) A) = subst T (entries (value s.rows) (subst (λ (i : ℕ). value s.rows < 2 ^ i) r (value_lt s.rows))) (subst (λ (u : State). T (is_entry I P u)) (sym is) (entry_i I P wf s y)) in
        let u = any_e (λ (y : ℕ). eqb (value s.rows) y) A z in
        let i = x.there u.0 u.1 in
        (i.0, i.1, ap₂ (λ (a b : ℕ). state_of n a b) i.2 (i.3 ∙ sym (eqb→eq (value s.rows) u.0 u.2)) ∙ is)

    pub entries_more : EntriesBelow (k + 1) c' w'
    entries_more = record {
      holds = x.holds;
      bits = λ t l.
          x.marked t l
          ∙ ap (λ (z : Bool). z || (ltb t c' && in_list t)) (e.bits t l ∙ tested I P wf c c' k A entries_slot w w' x (early k) was_there t)
          ∙ one_more t;
      there = λ s y l. found s y l (dec_lt (kind_of s) k);
    }

  -- ---- after all kinds

  pub entries_all : (c : ℕ) (w : List ℕ) → EntriesBelow 18 c w → Charting I P c 0 w
  entries_all c w e = record {
    holds = e.holds;
    entry_bits = λ t l. e.bits t l ∙ same_test (ltb t c && early 18 (stored n w t)) (ltb t c && is_entry I P (stored n w t)) (forth t) (back t);
    entries_there = λ s y. e.there s y (kind_provided I s y.provided).1;
    followed = λ p l. absurd (omega arith);
  }
    where
      forth : (t : ℕ) → T (ltb t c && early 18 (stored n w t)) → T (ltb t c && is_entry I P (stored n w t))
      forth t z =
          and_i (ltb t c) (is_entry I P (stored n w t)) (and_l (ltb t c) (early 18 (stored n w t)) z)
          (and_l (is_entry I P (stored n w t)) (ltb (kind_of (stored n w t)) 18) (and_r (ltb t c) (early 18 (stored n w t)) z))

      back : (t : ℕ) → T (ltb t c && is_entry I P (stored n w t)) → T (ltb t c && early 18 (stored n w t))
      back t z =
          let l = and_l (ltb t c) (is_entry I P (stored n w t)) z in
          and_i (ltb t c) (early 18 (stored n w t)) l (and_i (is_entry I P (stored n w t)) (ltb (kind_of (stored n w t)) 18) (and_r (ltb t c) (is_entry I P (stored n w t)) z)
          (lt→ltb (kind_of (stored n w t)) 18 (omega (arith, (e.holds.known t (ltb→lt t c l)).method_to, kind_of_is n (kind_at w t) (set_at w t)))))
