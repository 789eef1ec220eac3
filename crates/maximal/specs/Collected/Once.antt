-- Each row of a support is taken exactly once: the rows taken on the way to a set are those that are worked, each once, and each was the highest of the set by then that was not
-- yet worked. Of a support that is listed all rows are worked.
use Rattle.std.specs.Prelude.{◌≡◌, refl, ◌⊎◌, ◌↔◌, Bool, ◌||◌, ℕ, ◌^◌, ◌<◌, eqb, length}
use Rattle.std.proofs.Common.{sym, subst, eqb→eq}
use Rattle.std.proofs.Math.Logic.{inl, inr}
use mathlib.Core.List.Memᴰ
use mathlib.Core.List.{List, [], ◌∷◌, Memᴰ}
use Rattle.std.specs.Int.Bits.{bit_or}
use Rattle.std.proofs.Math.Dec.{T, T_not}
use Rattle.files.specs.Basics.Queue.{Once}
use Rattle.files.specs.Basics.Tests.{eq_eqb, or_e, or_l, or_r}
use Rattle.files.specs.Property.{Row, Property}
use Rattle.maximal.specs.Collected.{Works, plain, both_in, settled, named, WorkedFrom, unworked, onward, supports_of}
use Rattle.maximal.specs.Collected.Laws.{listed_worked}
use Rattle.maximal.specs.Masks.{member, Taken}
use Rattle.maximal.specs.Masks.Laws.{member_or, member_one, member_none}

module _ (P : List Row) where
  -- the row that a step takes
  pub record Step (s d e : ℕ) : Type 0 where
    pub at : ℕ
    pub taken : Taken s d at
    pub worked : e ≡ bit_or d (2 ^ at)

  abbrev pub step : (s d u e : ℕ) → Works P s d u e → Step s d e
  step s d u e (plain r t p) = record { at = r; taken = t; worked = refl }
  step s d u e (both_in r a b t p) = record { at = r; taken = t; worked = refl }
  step s d u e (settled r a b t p q) = record { at = r; taken = t; worked = refl }
  step s d u e (named r a b c t p x y w) = record { at = r; taken = t; worked = refl }

  module _ (o : ℕ) where
    -- the rows taken, the last one first
    pub rows_taken : (s d : ℕ) → WorkedFrom P o s d → List ℕ
    rows_taken s d unworked = []
    rows_taken s d (onward {s = u} {d = e} w x) = (step u e s d x).at ∷ rows_taken u e w

    -- what is worked after a step
    worked_on : (s d u e : ℕ) (x : Works P s d u e) (r : ℕ) → T (member e r) ↔ ((r ≡ (step s d u e x).at) ⊎ T (member d r))
    worked_on s d u e x r =
        let q = step s d u e x in (
          λ t. go (or_e (member d r) (eqb q.at r) (subst T (split q) t)),
          λ m. subst T (sym (split q)) (back m),
        )
      where
        split : (q : Step s d e) → member e r ≡ (member d r || eqb q.at r)
        split q = rw (q.worked, member_or, member_one) refl

        go : T (member d r) ⊎ T (eqb (step s d u e x).at r) → (r ≡ (step s d u e x).at) ⊎ T (member d r)
        go (inl t) = inr t
        go (inr t) = inl (sym (eqb→eq (step s d u e x).at r t))

        back : (r ≡ (step s d u e x).at) ⊎ T (member d r) → T (member d r || eqb (step s d u e x).at r)
        back (inl p) = or_r (member d r) (eqb (step s d u e x).at r) (eq_eqb (step s d u e x).at r (sym p))
        back (inr t) = or_l (member d r) (eqb (step s d u e x).at r) t

    -- the rows taken are those that are worked ..
    pub taken_are : (s d : ℕ) (w : WorkedFrom P o s d) (r : ℕ) → Memᴰ r (rows_taken s d w) ↔ T (member d r)
    unfolding rows_taken
    taken_are s d unworked r = (λ m. absurd (Memᴰ.not-nil m), λ t. absurd (subst T (member_none r) t))
    taken_are s d (onward {s = u} {d = e} w x) r =
        let i = taken_are u e w r in
        let k = worked_on u e s d x r in (
          λ m. k.1 (there (Memᴰ.cases_cons m) i.0),
          λ t. here (k.0 t) i.1,
        )
      where
        there : (r ≡ (step u e s d x).at) ⊎ Memᴰ r (rows_taken u e w) → (Memᴰ r (rows_taken u e w) → T (member e r)) → (r ≡ (step u e s d x).at) ⊎ T (member e r)
        there (inl p) f = inl p
        there (inr m) f = inr (f m)

        here : (r ≡ (step u e s d x).at) ⊎ T (member e r) → (T (member e r) → Memᴰ r (rows_taken u e w)) → Memᴰ r ((step u e s d x).at ∷ rows_taken u e w)
        here (inl p) f = Memᴰ.head p
        here (inr t) f = Memᴰ.tail (f t)

    -- .. each once
    pub taken_once : (s d : ℕ) (w : WorkedFrom P o s d) → Once (rows_taken s d w)
    unfolding rows_taken
    taken_once s d unworked = tt
    taken_once s d (onward {s = u} {d = e} w x) =
        let q = step u e s d x in
        (λ m. T_not (member e q.at) q.taken.not_worked ((taken_are u e w q.at).0 m), taken_once u e w)

-- A support that is listed is the set asked for, completed by taking each of its rows exactly once.
pub record TakenOnce (P : List Row) (o q : ℕ) : Type 0 where
  pub worked_from : WorkedFrom P o q q
  pub once : Once (rows_taken P o q q worked_from)
  pub all_taken : (r : ℕ) → Memᴰ r (rows_taken P o q q worked_from) ↔ T (member q r)

pub listed_once : (P : List Row) → Property P → (m : ℕ) (f : Bool) (o : ℕ) → o < 2 ^ length P → (k q : ℕ) → Memᴰ q (supports_of P k m f o) → TakenOnce P o q
listed_once P wf m f o in_rows k q i =
    let w = listed_worked P wf m f o in_rows k q i in
    record { worked_from = w; once = taken_once P o q q w; all_taken = taken_are P o q q w }
