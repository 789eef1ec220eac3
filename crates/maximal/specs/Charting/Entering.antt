-- What entering states keeps: lists entered one after another are one list entered, and slots and entries that were right stay right.
-- Its theorems that rest on a definition which a must-fail edit turns stand in proofs/Theorems/Charting/Entering.
use Rattle.std.specs.Prelude.{◌≡◌, refl, ◌⊎◌, Bool, true, false, ◌&&◌, ◌||◌, ℕ, ◌≤◌, ◌<◌, T, eqb, ltb, length}
use Rattle.std.proofs.Common.{sym, ap, ap₂, subst, ◌∙◌, inl, inr, arith, eqb→eq, ltb→lt, lt→ltb}
use mathlib.Core.List.Memᴰ
use mathlib.Core.List.{List, [], ◌++◌, Memᴰ}
use Rattle.std.proofs.Math.Decide.{dec_lt}
use Rattle.files.specs.Basics.Tests.{same_test, T_eq, and_l, and_r, or_e, or_l, or_r, any, any_i, any_e}
use Rattle.files.specs.Cells.Laws.{cell_agree}
use Rattle.files.specs.Interface.{Interface}
use Rattle.files.specs.Property.{Row, Property}
use Rattle.maximal.specs.Charting.{kind_at, set_at, stored, method_at, asked_at, target, Elsewhere, Holds, Admitted}
use Rattle.maximal.specs.Charting.Kept.{off, stored_same}
use Rattle.maximal.specs.Charting.States.{state_same}
use Rattle.maximal.specs.Masks.{member}
use Rattle.maximal.specs.Model.{State, Entry, is_entry}
use Rattle.maximal.specs.Model.Computed.{entry_e}
use Rattle.maximal.specs.Model.Supports.{length_tab}
use Rattle.maximal.specs.Places.{asked_base, entries_slot, methods_base, slots, max_states}

module _ (I : Interface) (P : List Row) where
  abbrev pub n : ℕ
  n = length P

  -- ---- the same states

  pub stored_once : (c : ℕ) (w : List ℕ) → Holds I P c w → (i j : ℕ) → i < c → j < c → stored n w i ≡ stored n w j → i ≡ j
  stored_once c w h i j a b e =
      let s = state_same n (kind_at w i) (kind_at w j) (set_at w i) (set_at w j) (h.known i a).of_rows (h.known j b).of_rows e in
      h.once i j a b s.0 s.1

  -- ---- entering one list after another

  -- nothing is marked where the rows of bits stay
  pub admitted_unmarked : (c c' kind q : ℕ) (w w' : List ℕ) → Holds I P c' w' → c ≤ c' → ((i : ℕ) → i < c → kind_at w' i ≡ kind_at w i) → ((i : ℕ) → i < c → set_at w' i ≡ set_at w i) → q ≤ entries_slot
      → ((p t : ℕ) → p ≤ entries_slot → t < max_states → target w' p t ≡ target w p t) → Elsewhere w w' → Admitted I P c c' kind [] q w w'
  admitted_unmarked c c' kind q w w' h more kinds sets hq bits rest = record {
    holds = h;
    more = more;
    kinds_kept = kinds;
    sets_kept = sets;
    there = λ u i. absurd (Memᴰ.not-nil i);
    marked = λ t l. bits q t hq l ∙ sym (or_none (target w q t) (ltb t c') (eqb (kind_at w' t) kind));
    others_kept = λ p t a b d. bits p t a b;
    elsewhere = rest;
  }
    where
      or_none : (a b c : Bool) → (a || (b && (c && false))) ≡ a
      or_none true b c = refl
      or_none false true true = refl
      or_none false true false = refl
      or_none false false c = refl

  pub admitted_none : (c kind q : ℕ) (w : List ℕ) → Holds I P c w → q ≤ entries_slot → Admitted I P c c kind [] q w w
  admitted_none c kind q w h hq = admitted_unmarked c c kind q w w h (omega arith) (λ i l. refl) (λ i l. refl) hq (λ p t a b. refl) (λ b d. refl)

  module _ (c a b kind : ℕ) (A B : List ℕ) (q : ℕ) (u v w : List ℕ) (x : Admitted I P c a kind A q u v) (y : Admitted I P a b kind B q v w) where
    any_append : (t : ℕ) → any (λ e. eqb t e) (A ++ B) ≡ (any (λ e. eqb t e) A || any (λ e. eqb t e) B)
    any_append t = same_test (any (λ e. eqb t e) (A ++ B)) (any (λ e. eqb t e) A || any (λ e. eqb t e) B)
        (λ z. let s = any_e (λ e. eqb t e) (A ++ B) z in go s.0 s.2 (Memᴰ.append_cases A s.1))
        (λ z. back (or_e (any (λ e. eqb t e) A) (any (λ e. eqb t e) B) z))
      where
        go : (e : ℕ) → T (eqb t e) → Memᴰ e A ⊎ Memᴰ e B → T (any (λ e. eqb t e) A || any (λ e. eqb t e) B)
        go e z (inl i) = or_l (any (λ e. eqb t e) A) (any (λ e. eqb t e) B) (any_i (λ e. eqb t e) A e i z)
        go e z (inr i) = or_r (any (λ e. eqb t e) A) (any (λ e. eqb t e) B) (any_i (λ e. eqb t e) B e i z)

        back : T (any (λ e. eqb t e) A) ⊎ T (any (λ e. eqb t e) B) → T (any (λ e. eqb t e) (A ++ B))
        back (inl z) = let s = any_e (λ e. eqb t e) A z in any_i (λ e. eqb t e) (A ++ B) s.0 (Memᴰ.append_left B s.1) s.2
        back (inr z) = let s = any_e (λ e. eqb t e) B z in any_i (λ e. eqb t e) (A ++ B) s.0 (Memᴰ.append_right A s.1) s.2

    -- a state that was there before is marked by either list; one that was not can only be of the second
    either_marked : (t : ℕ) → t < max_states → target w q t ≡ (target u q t || (ltb t b && (eqb (kind_at w t) kind && any (λ e. eqb (set_at w t) e) (A ++ B))))
    either_marked t l =
        y.marked t l ∙ ap (λ (z : Bool). z || (ltb t b && (eqb (kind_at w t) kind && any (λ e. eqb (set_at w t) e) B))) (x.marked t l)
        ∙ go (dec_lt t a)
      where
        joins : (p l₁ l₂ k e f : Bool) → (T l₁ → T l₂) → (T e → T l₂ → T k → T l₁) → ((p || (l₁ && (k && e))) || (l₂ && (k && f))) ≡ (p || (l₂ && (k && (e || f))))
        joins true l₁ l₂ k e f g h = refl
        joins false true true true true f g h = refl
        joins false true true true false f g h = refl
        joins false true true false e f g h = refl
        joins false true false k e f g h = absurd (g tt)
        joins false false true true true f g h = absurd (h tt tt tt)
        joins false false true true false f g h = refl
        joins false false true false e f g h = refl
        joins false false false k e f g h = refl

        go : Dec (t < a)
            → ((target u q t || (ltb t a && (eqb (kind_at v t) kind && any (λ e. eqb (set_at v t) e) A))) || (ltb t b && (eqb (kind_at w t) kind && any (λ e. eqb (set_at w t) e) B)))
            ≡ (target u q t || (ltb t b && (eqb (kind_at w t) kind && any (λ e. eqb (set_at w t) e) (A ++ B))))
        go (yes h) =
            ap₂ (λ (k s : ℕ). (target u q t || (ltb t a && (eqb k kind && any (λ e. eqb s e) A))) || (ltb t b && (eqb (kind_at w t) kind && any (λ e. eqb (set_at w t) e) B))) (sym (y.kinds_kept t h)) (sym (y.sets_kept t h))
            ∙ joins (target u q t) (ltb t a) (ltb t b) (eqb (kind_at w t) kind) (any (λ e. eqb (set_at w t) e) A) (any (λ e. eqb (set_at w t) e) B)
            (λ z. lt→ltb t b (omega (arith, y.more))) (λ z z₂ z₃. lt→ltb t a h)
            ∙ ap (λ (z : Bool). target u q t || (ltb t b && (eqb (kind_at w t) kind && z))) (sym (any_append (set_at w t)))
        go (no h) =
            ap (λ (z : Bool). (target u q t || (z && (eqb (kind_at v t) kind && any (λ e. eqb (set_at v t) e) A))) || (ltb t b && (eqb (kind_at w t) kind && any (λ e. eqb (set_at w t) e) B))) (off (ltb t a) (λ z. h (ltb→lt t a z)))
            ∙ joins (target u q t) false (ltb t b) (eqb (kind_at w t) kind) (any (λ e. eqb (set_at w t) e) A) (any (λ e. eqb (set_at w t) e) B) (λ z. absurd z) before
            ∙ ap (λ (z : Bool). target u q t || (ltb t b && (eqb (kind_at w t) kind && z))) (sym (any_append (set_at w t)))
          where
            -- what the first list has was there already
            before : T (any (λ e. eqb (set_at w t) e) A) → T (ltb t b) → T (eqb (kind_at w t) kind) → ⊥
            before z z₂ z₃ =
                let s = any_e (λ e. eqb (set_at w t) e) A z in
                let i = x.there s.0 s.1 in
                h (subst (λ (m : ℕ). m < a) (y.holds.once i.0 t (omega (arith, i.1, y.more)) (ltb→lt t b z₂)
                (y.kinds_kept i.0 i.1 ∙ i.2 ∙ sym (eqb→eq (kind_at w t) kind z₃)) (y.sets_kept i.0 i.1 ∙ i.3 ∙ sym (eqb→eq (set_at w t) s.0 s.2))) i.1)

    -- two lists entered one after the other
    pub admitted_both : Admitted I P c b kind (A ++ B) q u w
    admitted_both = record {
      holds = y.holds;
      more = omega (arith, x.more, y.more);
      kinds_kept = λ i l. y.kinds_kept i (omega (arith, x.more)) ∙ x.kinds_kept i l;
      sets_kept = λ i l. y.sets_kept i (omega (arith, x.more)) ∙ x.sets_kept i l;
      there = λ e i. one_of e (Memᴰ.append_cases A i);
      marked = either_marked;
      others_kept = λ p t h l d. y.others_kept p t h l d ∙ x.others_kept p t h l d;
      elsewhere = λ i d. y.elsewhere i d ∙ x.elsewhere i d;
    }
      where
        one_of : (e : ℕ) → Memᴰ e A ⊎ Memᴰ e B → (i : ℕ) × (i < b) × (kind_at w i ≡ kind) × (set_at w i ≡ e)
        one_of e (inl i) = let s = x.there e i in (s.0, omega (arith, s.1, y.more), y.kinds_kept s.0 s.1 ∙ s.2, y.sets_kept s.0 s.1 ∙ s.3)
        one_of e (inr i) = y.there e i

  -- ---- what entering states in row q keeps

  module _ (wf : Property P) (c c' kind : ℕ) (A : List ℕ) (q : ℕ) (w w' : List ℕ) (x : Admitted I P c c' kind A q w w') where
    pub stored_kept : (i : ℕ) → i < c → stored n w' i ≡ stored n w i
    stored_kept = stored_same I P c w w' x.kinds_kept x.sets_kept

    pub method_kept : (p : ℕ) → p < slots → method_at w' p ≡ method_at w p
    method_kept p l = cell_agree w' w methods_base 1 p (λ b h k. x.elsewhere b (inr (omega arith, omega arith)))

    pub asked_kept : (p : ℕ) → p < slots → asked_at w' p ≡ asked_at w p
    asked_kept p l = cell_agree w' w asked_base 4 p (λ b h k. x.elsewhere b (inr (omega arith, omega arith)))

    -- a state that is there was there, if it was
    pub same_place : (t : ℕ) (s : State) → t < c' → stored n w' t ≡ s → (i : ℕ) × (i < c) × (stored n w i ≡ s) → t < c
    same_place t s h e i = subst (λ (m : ℕ). m < c) (stored_once c' w' x.holds i.0 t (omega (arith, i.1, x.more)) h (stored_kept i.0 i.1 ∙ i.2 ∙ sym e)) i.1

    pub still_there : (s : State) → (t : ℕ) × (t < c) × (stored n w t ≡ s) → (t : ℕ) × (t < c') × (stored n w' t ≡ s)
    still_there s t = (t.0, omega (arith, t.1, x.more), stored_kept t.0 t.1 ∙ t.2)

    -- a test that only states that were there pass reads the same
    pub tested : (p : State → Bool) → ((t : ℕ) → t < c' → T (p (stored n w' t)) → t < c) → (t : ℕ) → (ltb t c && p (stored n w t)) ≡ (ltb t c' && p (stored n w' t))
    tested p old t = go (dec_lt t c)
      where
        go : Dec (t < c) → (ltb t c && p (stored n w t)) ≡ (ltb t c' && p (stored n w' t))
        go (yes h) = ap₂ (λ (l : Bool) (s : State). l && p s) (T_eq (ltb t c) (lt→ltb t c h) ∙ sym (T_eq (ltb t c') (lt→ltb t c' (omega (arith, x.more))))) (sym (stored_kept t h))
        go (no h) =
            off (ltb t c && p (stored n w t)) (λ z. h (ltb→lt t c (and_l (ltb t c) (p (stored n w t)) z)))
            ∙ sym (off (ltb t c' && p (stored n w' t)) (λ z. h (old t (ltb→lt t c' (and_l (ltb t c') (p (stored n w' t)) z)) (and_r (ltb t c') (p (stored n w' t)) z))))

    pub rows_of : (t : ℕ) → length (stored n w' t).rows ≡ n
    rows_of t = length_tab (member (set_at w' t)) n

    pub entry_bits_kept : (q ≡ entries_slot → ⊥) → ((t : ℕ) → t < max_states → target w entries_slot t ≡ (ltb t c && is_entry I P (stored n w t)))
        → ((s : State) → Entry I P s → (t : ℕ) × (t < c) × (stored n w t ≡ s)) → (t : ℕ) → t < max_states → target w' entries_slot t ≡ (ltb t c' && is_entry I P (stored n w' t))
    entry_bits_kept d f g t m =
        x.others_kept entries_slot t (omega arith) m (λ e. d (sym e)) ∙ f t m
        ∙ tested (is_entry I P) (λ i k z. same_place i (stored n w' i) k refl (g (stored n w' i) (entry_e I P wf (stored n w' i) (rows_of i) z))) t
