-- For the code that lists sets of rows in the lent buffer: a test of all listed sets, a set stored at the list's end, and the sets that a test keeps, moved to the front.
use mathlib.Core.Path.{◌≡◌, refl, sym, ap, ap₂, subst, ◌∙◌}
use mathlib.Core.Logic.{inl, inr}
use mathlib.Core.Bool.{Bool, true, false, not}
use mathlib.Core.List.Memᴰ
use mathlib.Core.List.{List, [], ◌∷◌, ◌++◌, append-nil}
use Prim.Native.Nat.{ℕ, ◌+◌, ◌≤◌, ◌<◌}
use native.Mathlib.Nat.{zero-add}
use native.Mathlib.Numerals.{add-one}
use native.Mathlib.Omega.{arith}
use lib.Dec.{T, T_not}
use lib.ListN.{length, get_or}
use Rattle.files.specs.Basics.Lists.{put, keep, span_i}
use Rattle.files.specs.Basics.Tables.{table_e}
use Rattle.files.specs.Basics.Tests.{same_test, T_eq, any, any_i, any_e}
use Rattle.files.specs.Cells.{cell, put_cell}
use Rattle.files.specs.Cells.Laws.{cell_same, cell_other, byte_outside}
use Rattle.judging.specs.Chains.{Outside}
use Rattle.judging.specs.Sheets.Queue.{table_more, table_same}
use Rattle.maximal.specs.Collected.{listed}
use Rattle.maximal.specs.Places.{candidates_base, max_candidates, model_room, sets_end}

-- ---- tests of all listed sets

module _ (p : ℕ → Bool) (w : List ℕ) (n : ℕ) where
  pub some_listed : (i : ℕ) → i < n → T (p (cell w candidates_base 4 i)) → any p (listed w n) ≡ true
  some_listed i h t = T_eq (any p (listed w n)) (any_i p (listed w n) (cell w candidates_base 4 i) (Memᴰ.map (λ (j : ℕ). cell w candidates_base 4 j) (span_i n 0 i (omega arith) (omega arith))) t)

  pub none_listed : ((i : ℕ) → i < n → T (not (p (cell w candidates_base 4 i)))) → any p (listed w n) ≡ false
  none_listed f = same_test (any p (listed w n)) false (λ t.
      let a = any_e p (listed w n) t in
      let b = table_e (λ (j : ℕ). cell w candidates_base 4 j) 0 n a.0 a.1 in
      T_not (p (cell w candidates_base 4 b.0)) (f b.0 (omega (arith, b.2))) (subst (λ (u : ℕ). T (p u)) (sym b.3) a.2)) (λ t. absurd t)

-- ---- one set more

listed_more : (w : List ℕ) (n : ℕ) → listed w (n + 1) ≡ listed w n ++ cell w candidates_base 4 n ∷ []
listed_more w n = ap (listed w) (add-one n) ∙ table_more (λ (i : ℕ). cell w candidates_base 4 i) 0 n ∙ ap (λ (i : ℕ). listed w n ++ cell w candidates_base 4 i ∷ []) (zero-add n)

-- set v is stored in place n
module _ (w w' : List ℕ) (n v : ℕ) (few : n < max_candidates) (room : model_room ≤ length w) (fits : v < sets_end) (is : w' ≡ put_cell w candidates_base 4 n v) where
  pub listed_put : listed w' (n + 1) ≡ listed w n ++ v ∷ []
  listed_put =
      ap (λ (l : List ℕ). listed l (n + 1)) is
      ∙ listed_more (put_cell w candidates_base 4 n v) n
      ∙ ap₂ (λ (l : List ℕ) (u : ℕ). l ++ u ∷ [])
      (table_same (λ (i : ℕ). cell (put_cell w candidates_base 4 n v) candidates_base 4 i) (λ (i : ℕ). cell w candidates_base 4 i) 0 n (λ i a b. cell_other w candidates_base 4 n i v (λ e. omega arith)))
      (cell_same w candidates_base 4 n v (omega arith) fits)

  put_beyond : (i : ℕ) → n < i → cell w' candidates_base 4 i ≡ cell w candidates_base 4 i
  put_beyond i h = ap (λ (l : List ℕ). cell l candidates_base 4 i) is ∙ cell_other w candidates_base 4 n i v (λ e. omega arith)

  pub put_outside : Outside candidates_base model_room w w'
  put_outside q (inl h) = ap (λ (l : List ℕ). get_or l q 0) is ∙ byte_outside w candidates_base 4 n v q (inl (omega arith))
  put_outside q (inr h) = ap (λ (l : List ℕ). get_or l q 0) is ∙ byte_outside w candidates_base 4 n v q (inr (omega arith))

-- ---- the sets that a test keeps

keep_last : (p : ℕ → Bool) (xs : List ℕ) (x : ℕ) → keep p (xs ++ x ∷ []) ≡ keep p xs ++ put (p x) x []
keep_last p [] x = refl
keep_last p (y ∷ xs) x = go (p y) (keep_last p xs x)
  where
    go : (b : Bool) → keep p (xs ++ x ∷ []) ≡ keep p xs ++ put (p x) x [] → put b y (keep p (xs ++ x ∷ [])) ≡ put b y (keep p xs) ++ put (p x) x []
    go true e = ap (λ (l : List ℕ). y ∷ l) e
    go false e = e

-- of the first i sets those that the test keeps stand at the front, and the sets from i on as they stood
pub record Kept (p : ℕ → Bool) (w₀ w : List ℕ) (i left : ℕ) : Type 0 where
  pub few : left ≤ i
  pub kept : listed w left ≡ keep p (listed w₀ i)
  pub rest : (j : ℕ) → i ≤ j → cell w candidates_base 4 j ≡ cell w₀ candidates_base 4 j
  pub outside : Outside candidates_base model_room w₀ w

module _ (p : ℕ → Bool) where
  pub kept_none : (w : List ℕ) → Kept p w w 0 0
  kept_none w = record { few = omega arith; kept = refl; rest = λ j h. refl; outside = λ q d. refl }

  module _ (w₀ w : List ℕ) (i left u : ℕ) (k : Kept p w₀ w i left) (is : u ≡ cell w candidates_base 4 i) where
    kept_more : keep p (listed w₀ (i + 1)) ≡ listed w left ++ put (p u) u []
    kept_more =
        ap (keep p) (listed_more w₀ i) ∙ keep_last p (listed w₀ i) (cell w₀ candidates_base 4 i)
        ∙ ap₂ (λ (l : List ℕ) (v : ℕ). l ++ put (p v) v []) (sym k.kept) (sym (is ∙ k.rest i (omega arith)))

    pub kept_with : (w' : List ℕ) → i < max_candidates → model_room ≤ length w → u < sets_end → w' ≡ put_cell w candidates_base 4 left u → p u ≡ true → Kept p w₀ w' (i + 1) (left + 1)
    kept_with w' l room fits e t = let h : left < max_candidates = omega (arith, k.few) in record {
      few = omega (arith, k.few);
      kept = listed_put w w' left u h room fits e ∙ sym (kept_more ∙ ap (λ (b : Bool). listed w left ++ put b u []) t);
      rest = λ j m. put_beyond w w' left u h room fits e j (omega (arith, k.few)) ∙ k.rest j (omega arith);
      outside = λ q d. put_outside w w' left u h room fits e q d ∙ k.outside q d;
    }

    pub kept_without : p u ≡ false → Kept p w₀ w (i + 1) left
    kept_without t = record {
      few = omega (arith, k.few);
      kept = sym (kept_more ∙ ap (λ (b : Bool). listed w left ++ put b u []) t ∙ append-nil (listed w left));
      rest = λ j m. k.rest j (omega arith);
      outside = k.outside;
    }
