-- For the code that holds sets of rows as numbers: the set of one row, the highest row of a set, unions, a set worked row by row, sets gathered row by row,
-- the boxes of each label, and what a set asks for.
use mathlib.Core.Path.{◌≡◌, refl, sym, ap, ap₂, subst, ◌∙◌}
use mathlib.Core.Logic.{◌⊎◌, inl, inr, ⊎_elim, ⊎_map}
use mathlib.Core.Bool.{Bool, true, false, not, cond}
use mathlib.Core.List.{List}
use mathlib.Core.Option.{Option, none, some, none-ne-some}
use Prim.Native.Nat.{ℕ, zero, suc, ◌+◌, ◌*◌, ◌-◌, ◌/◌, ◌%◌, ◌^◌, ◌≤◌, ◌<◌}
use native.Mathlib.Nat.{one-mul, add_comm, pow-suc, mod-lt}
use native.Mathlib.Numerals.{add-one}
use native.Mathlib.Omega.{arith}
use lib.Bits.{bit_and, bit_or, bit_xor, or_lt, or_shifted_r, xor_add_and, and_le_l, and_le_r}
use lib.Count.{count_leading_zeros, leading_top}
use lib.Dec.{T, eqb, eqb→eq}
use lib.ListN.{length, get_or}
use borrow.Author.Tests.{eqb-true, eqb-false, leb-false, not-true, not-false, ne_eqb}
use lib.Pow.{pow_pos, pow-lt, shl_exact, shr_lt, split}
use Rattle.files.specs.Access.{row_held, looked_at, aims_along, operator_of}
use Rattle.files.specs.Access.Boxes.{looks_obliged}
use Rattle.files.specs.Basics.Tables.{tally, tally_le}
use Rattle.files.specs.Basics.Tests.{decide, same, same_test, eq_eqb, one, and_l, and_i, or_e, or_l, or_r}
use Rattle.files.specs.Property.{Row, row, names, obliged, is_box}
use Rattle.files.specs.declared.property.PropertyRow.{PropertyRow}
use Rattle.judging.specs.Levels.Laws.{obliged_named}
use Rattle.judging.specs.Refinement.Rows.{Bytes}
use Rattle.maximal.specs.Model.Supports.{has_tab, asked_e, asked_i}
use Rattle.maximal.specs.Masks.{member, within, Partly, Taken, untrue_at, untrue, obliged_rows, asked_of, mask, rows, Boxes}
use Rattle.maximal.specs.Masks.Laws.{member_or, member_and, member_xor, member_one, member_none, member_lt, members_eq, within_e, within_i}
use Rattle.maximal.specs.Masks.Laws.{mask_lt, member_mask, untrue_mask, asked_lt, member_asked}
use Rattle.maximal.specs.Masks.Order.{partly_on, worked_more}
use Rattle.maximal.specs.Places.{sets_end}

-- ---- one row, and the highest row

-- the set of row r, as the code shifts it
pub one_shifted : (r : ℕ) → r < 32 → 1 * 2 ^ r % sets_end ≡ 2 ^ r
one_shifted r h = shl_exact {a = 1} 1 r 32 (omega arith) (omega arith) ∙ one-mul (2 ^ r)

-- a set without its highest place is below it
without_top : (u r : ℕ) → u < 2 ^ (r + 1) → T (not (member u r)) → u < 2 ^ r
without_top u r h t = go (u / 2 ^ r) refl
  where
    go : (q : ℕ) → u / 2 ^ r ≡ q → u < 2 ^ r
    go zero e = omega (arith, ap (λ (n : ℕ). n * 2 ^ r) e, split u r, mod-lt u (pow_pos r))
    go (suc zero) e = absurd (subst (λ (q : ℕ). T (not (eqb (q % 2) 1))) e t)
    go (suc (suc q)) e = absurd (omega (arith, shr_lt {n = u} 1 r (subst (λ (k : ℕ). u < 2 ^ k) (add_comm r 1) h)))

pub member_top : (u r : ℕ) → 2 ^ r ≤ u → u < 2 ^ (r + 1) → T (member u r)
member_top u r l h = go (decide (member u r))
  where
    go : T (member u r) ⊎ T (not (member u r)) → T (member u r)
    go (inl t) = t
    go (inr t) = absurd (omega (arith, without_top u r h t))

-- a set that is not empty lies between the digit of its highest row and the next; above that row all 32 digits are zero
pub highest_is : (u : ℕ) → 0 < u → u < 2 ^ 32 → (count_leading_zeros 32 u ≤ 31) × (2 ^ (31 - count_leading_zeros 32 u) ≤ u) × (u < 2 ^ (31 - count_leading_zeros 32 u + 1))
highest_is u p h =
    let t = leading_top 32 u p h in
    let e : t.0 ≡ 31 - count_leading_zeros 32 u = omega (arith, t.1) in
    let f : suc t.0 ≡ 31 - count_leading_zeros 32 u + 1 = omega (arith, t.1) in
    (omega (arith, t.1), subst (λ (n : ℕ). 2 ^ n ≤ u) e t.2, subst (λ (n : ℕ). u < 2 ^ n) f t.3)

-- where a set and what of it is worked differ, a row is left ..
pub some_left : (s d : ℕ) → (s ≡ d → ⊥) → 0 < bit_xor s d
some_left s d f = omega (arith, xor_add_and s d, and_le_l s d, and_le_r s d)

-- .. and the highest row where they differ is the highest not yet worked
pub highest_taken : (s d r : ℕ) → T (within d s) → 2 ^ r ≤ bit_xor s d → bit_xor s d < 2 ^ (r + 1) → Taken s d r
highest_taken s d r w l h =
    let x = here (member s r) (member d r) (within_e d s w r) (subst T (member_xor s d r) (member_top (bit_xor s d) r l h)) in
    record { in_set = x.0; not_worked = x.1; highest = λ q k t. above (member s q) (member d q) t (λ u. beyond q k (subst T (sym (member_xor s d q)) u)) }
  where
    here : (a b : Bool) → (T b → T a) → T (not (same a b)) → T a × T (not b)
    here true true f t = absurd t
    here true false f t = (tt, tt)
    here false true f t = absurd (f tt)
    here false false f t = absurd t

    beyond : (q : ℕ) → r < q → T (member (bit_xor s d) q) → ⊥
    beyond q k t = omega (arith, member_lt (r + 1) (bit_xor s d) q h t)

    above : (a b : Bool) → T a → (T (not (same a b)) → ⊥) → T b
    above true true t f = tt
    above true false t f = absurd (f tt)
    above false b t f = absurd t

-- ---- unions

-- a row of a union is a row of one of the two
pub union_e : (a b r : ℕ) → T (member (bit_or a b) r) → T (member a r) ⊎ T (member b r)
union_e a b r t = or_e (member a r) (member b r) (subst T (member_or a b r) t)

pub union_l : (a b r : ℕ) → T (member a r) → T (member (bit_or a b) r)
union_l a b r t = subst T (sym (member_or a b r)) (or_l (member a r) (member b r) t)

pub union_r : (a b r : ℕ) → T (member b r) → T (member (bit_or a b) r)
union_r a b r t = subst T (sym (member_or a b r)) (or_r (member a r) (member b r) t)

-- with one row
pub with_e : (d q r : ℕ) → T (member (bit_or d (2 ^ q)) r) → T (member d r) ⊎ (q ≡ r)
with_e d q r t = ⊎_map (λ i. i) (λ i. eqb→eq q r (subst T (member_one q r) i)) (union_e d (2 ^ q) r t)

with_i : (d q : ℕ) → T (member (bit_or d (2 ^ q)) q)
with_i d q = union_r d (2 ^ q) q (subst T (sym (member_one q q)) (eq_eqb q q refl))

-- a set without rows
pub empty_is : (n u : ℕ) → u < 2 ^ n → ((r : ℕ) → T (member u r) → ⊥) → 0 ≡ u
empty_is n u h f = members_eq n 0 u (pow_pos n) h (λ r l. same_test (member 0 r) (member u r) (λ t. absurd (subst T (member_none r) t)) (λ t. absurd (f r t)))

-- ---- a set worked row by row

-- at first no row is worked
pub partly_none : (n s : ℕ) → s < 2 ^ n → Partly n s 0
partly_none n s h = record { of_rows = h; rows_of = pow_pos n; inside = λ r t. absurd (subst T (member_none r) t) }

-- in the end all are
pub all_worked : (s d : ℕ) → not (eqb s d) ≡ false → s ≡ d
all_worked s d e = eqb-true s d (not-false (eqb s d) e)

module _ (n s d : ℕ) (p : Partly n s d) where
  -- until then a row is left to be taken ..
  pub row_left : not (eqb s d) ≡ true → T (within d s) × (s ≡ d → ⊥)
  row_left e = (within_i n d s p.rows_of p.of_rows p.inside, eqb-false s d (not-true (eqb s d) e))

  -- .. and with it one row more is worked
  module _ (r : ℕ) (next : Taken s d r) (e : ℕ) (is : e ≡ 2 ^ r) where
    pub partly_with : Partly n s (bit_or d e)
    partly_with = subst (λ (i : ℕ). Partly n s (bit_or d i)) (sym is) (partly_on n s d p r next s p.of_rows (λ q i. i))

    pub less_left : n - tally (member (bit_or d e)) n < n - tally (member d) n
    less_left = omega (arith, ap (λ (i : ℕ). tally (member (bit_or d i)) n) is, worked_more n s d p r next, tally_le (member (bit_or d (2 ^ r))) n)

-- ---- sets gathered row by row

-- the next row passes the test, or it does not
mask_more : (v : ℕ → Bool) (r : ℕ) → v r ≡ true → mask v (suc r) ≡ mask v r + 2 ^ r
mask_more v zero e = omega (arith, ap one e)
mask_more v (suc r) e = omega (arith, mask_more (λ i. v (suc i)) r e, pow-suc 2 r)

mask_same : (v : ℕ → Bool) (r : ℕ) → v r ≡ false → mask v (suc r) ≡ mask v r
mask_same v zero e = omega (arith, ap one e)
mask_same v (suc r) e = omega (arith, mask_same (λ i. v (suc i)) r e)

pub mask_with : (v : ℕ → Bool) (r s t : ℕ) → s ≡ mask v r → t ≡ 2 ^ r → v r ≡ true → bit_or s t ≡ mask v (r + 1)
mask_with v r s t p q e =
    ap₂ bit_or p (q ∙ sym (one-mul (2 ^ r))) ∙ or_shifted_r 1 r (mask v r) (mask_lt v r) ∙ omega (arith, mask_more v r e, ap (mask v) (add-one r))

pub mask_without : (v : ℕ → Bool) (r s : ℕ) → s ≡ mask v r → v r ≡ false → s ≡ mask v (r + 1)
mask_without v r s p e = p ∙ sym (mask_same v r e) ∙ ap (mask v) (sym (add-one r))

-- a row of P that is untrue
abbrev pub untrue_row : List Row → ℕ → Bool → ℕ → Bool
untrue_row P m f r = untrue_at (row P r) m f

pub untrue_all : (P : List Row) (m : ℕ) (f : Bool) (n s : ℕ) → n ≡ length P → s ≡ mask (untrue_row P m f) n → s ≡ untrue P m f
untrue_all P m f n s e p = p ∙ ap (mask (untrue_row P m f)) e ∙ sym (untrue_mask P m f)

-- ---- the boxes of each label

-- the set of label l of a table t, with row r where that looks along the label, read as x
abbrev pub entered : PropertyRow → ℕ → List ℕ → ℕ → ℕ
entered x r t l = cond (aims_along x l) (bit_or (get_or t l 0) (2 ^ r)) (get_or t l 0)

-- the row is entered under the labels below l
abbrev pub Entering : PropertyRow → ℕ → List ℕ → ℕ → List ℕ → Type 0
Entering x r t₀ l t = (length t ≡ 9) × Bytes (entered x r t₀) t₀ 0 l t

-- a row that is no box looks along nothing
unboxed_looks : (x : PropertyRow) (l : ℕ) → is_box (operator_of x) ≡ false → aims_along x l ≡ false
unboxed_looks x l e =
    let h = leb-false 9 (operator_of x) e in rw (ne_eqb (operator_of x) 10 (λ i. omega (arith, h)), ne_eqb (operator_of x) 9 (λ i. omega (arith, h)))

-- the rows of P that look along label l
abbrev pub looks_along : List Row → ℕ → ℕ → Bool
looks_along P l r = aims_along (row_held (row P r)) l

-- row r, read as x, is entered where it looks along the label; no other need be
module _ (P : List Row) (r : ℕ) (x : PropertyRow) (read : x ≡ row_held (row P r)) (l s : ℕ) (is : s ≡ mask (looks_along P l) r) where
  here : looks_along P l r ≡ aims_along x l
  here = ap (λ (y : PropertyRow). aims_along y l) (sym read)

  pub boxed_with : cond (aims_along x l) (bit_or s (2 ^ r)) s ≡ mask (looks_along P l) (r + 1)
  boxed_with = go (aims_along x l) here
    where
      go : (b : Bool) → looks_along P l r ≡ b → cond b (bit_or s (2 ^ r)) s ≡ mask (looks_along P l) (r + 1)
      go true e = mask_with (looks_along P l) r s (2 ^ r) is refl e
      go false e = mask_without (looks_along P l) r s is e

  pub boxed_without : is_box (operator_of x) ≡ false → s ≡ mask (looks_along P l) (r + 1)
  boxed_without e = mask_without (looks_along P l) r s is (here ∙ unboxed_looks x l e)

-- ---- what a set asks for

-- what a row obliges to, if anything
obliged_e : (o : Option ℕ) (b : ℕ) → T (member (obliged_rows o) b) → o ≡ some b
obliged_e none b t = absurd (subst T (member_none b) t)
obliged_e (some c) b t = ap some (eqb→eq c b (subst T (member_one c b) t))

obliged_i : (o : Option ℕ) (b : ℕ) → o ≡ some b → T (member (obliged_rows o) b)
obliged_i o b e = subst (λ (x : Option ℕ). T (member (obliged_rows x) b)) (sym e) (subst T (sym (member_one b b)) (eq_eqb b b refl))

-- it is a row
obliged_lt : (n : ℕ) (x : Row) (l : ℕ) → T (names n x) → obliged_rows (obliged x l) < 2 ^ n
obliged_lt n x l t = go (obliged x l) refl
  where
    go : (o : Option ℕ) → obliged x l ≡ o → obliged_rows o < 2 ^ n
    go none e = pow_pos n
    go (some b) e = pow-lt (obliged_named n x l b t e)

-- a row that obliges looks along the label
obliged_along : (x : Row) (l b : ℕ) → obliged x l ≡ some b → T (aims_along (row_held x) l)
obliged_along x l b e = go (aims_along (row_held x) l) (sym (looks_obliged x l) ∙ e)
  where
    go : (c : Bool) → cond c (some (looked_at (row_held x))) none ≡ some b → T c
    go true i = tt
    go false i = absurd (none-ne-some _ i)

module _ (P : List Row) (l : ℕ) where
  -- a row is asked for where a row of the set obliges to it
  asked_of_e : (k b : ℕ) → b < length P → T (member (asked_of P k l) b) → (q : ℕ) × (q < length P) × T (member k q) × (obliged (row P q) l ≡ some b)
  asked_of_e k b h t =
      let a = asked_e P (rows (length P) k) l b (subst T (member_asked P k l b h) t) in
      (a.0, a.1, subst T (has_tab (member k) (length P) a.0 a.1) a.2, a.3)

  asked_of_i : (k b q : ℕ) → b < length P → q < length P → T (member k q) → obliged (row P q) l ≡ some b → T (member (asked_of P k l) b)
  asked_of_i k b q h j t e =
      subst T (sym (member_asked P k l b h)) (asked_i P (rows (length P) k) l b q j (subst T (sym (has_tab (member k) (length P) q j)) t) e)

  -- the empty set asks for nothing
  pub asked_none : 0 ≡ asked_of P 0 l
  asked_none = empty_is (length P) (asked_of P 0 l) (asked_lt P 0 l)
      (λ b t. let a = asked_of_e 0 b (member_lt (length P) (asked_of P 0 l) b (asked_lt P 0 l) t) t in subst T (member_none a.0) a.2)

  -- a set with one row more asks for what that row obliges to besides
  pub asked_with : (d r s t e : ℕ) → r < length P → T (names (length P) (row P r)) → s ≡ asked_of P d l → t ≡ obliged_rows (obliged (row P r) l) → e ≡ 2 ^ r
      → bit_or s t ≡ asked_of P (bit_or d e) l
  asked_with d r s t e h named p q is =
      ap₂ bit_or p q
      ∙ members_eq (length P) (bit_or old own) (asked_of P (bit_or d (2 ^ r)) l)
      (or_lt (length P) old own (asked_lt P d l) (obliged_lt (length P) (row P r) l named)) (asked_lt P (bit_or d (2 ^ r)) l)
      (λ b j. same_test (member (bit_or old own) b) (member (asked_of P (bit_or d (2 ^ r)) l) b) (into b j) (back b j))
      ∙ ap (λ (i : ℕ). asked_of P (bit_or d i) l) (sym is)
    where
      old : ℕ
      old = asked_of P d l

      own : ℕ
      own = obliged_rows (obliged (row P r) l)

      into : (b : ℕ) → b < length P → T (member (bit_or old own) b) → T (member (asked_of P (bit_or d (2 ^ r)) l) b)
      into b j i = ⊎_elim
          (λ u. let a = asked_of_e d b j u in asked_of_i (bit_or d (2 ^ r)) b a.0 j a.1 (union_l d (2 ^ r) a.0 a.2) a.3)
          (λ u. asked_of_i (bit_or d (2 ^ r)) b r j h (with_i d r) (obliged_e (obliged (row P r) l) b u))
          (union_e old own b i)

      back : (b : ℕ) → b < length P → T (member (asked_of P (bit_or d (2 ^ r)) l) b) → T (member (bit_or old own) b)
      back b j i =
          let a = asked_of_e (bit_or d (2 ^ r)) b j i in
          ⊎_elim (λ u. union_l old own b (asked_of_i d b a.0 j a.1 u a.3))
          (λ u. union_r old own b (obliged_i (obliged (row P r) l) b (ap (λ (q : ℕ). obliged (row P q) l) u ∙ a.3)))
          (with_e d r a.0 a.2)

  -- the rows that do not look along the label ask for nothing under it
  pub asked_among : (t : List ℕ) → Boxes P t → l < 9 → (k : ℕ) → asked_of P (bit_and k (get_or t l 0)) l ≡ asked_of P k l
  asked_among t boxes h k = members_eq (length P) (asked_of P among l) (asked_of P k l) (asked_lt P among l) (asked_lt P k l)
      (λ b j. same_test (member (asked_of P among l) b) (member (asked_of P k l) b) (fewer b j) (all b j))
    where
      among : ℕ
      among = bit_and k (get_or t l 0)

      fewer : (b : ℕ) → b < length P → T (member (asked_of P among l) b) → T (member (asked_of P k l) b)
      fewer b j i =
          let a = asked_of_e among b j i in
          asked_of_i k b a.0 j a.1 (and_l (member k a.0) (member (get_or t l 0) a.0) (subst T (member_and k (get_or t l 0) a.0) a.2)) a.3

      all : (b : ℕ) → b < length P → T (member (asked_of P k l) b) → T (member (asked_of P among l) b)
      all b j i =
          let a = asked_of_e k b j i in
          let along = ap (λ (n : ℕ). member n a.0) (boxes l h) ∙ member_mask (looks_along P l) (length P) a.0 a.1 in
          asked_of_i among b a.0 j a.1 (subst T (sym (member_and k (get_or t l 0) a.0))
          (and_i (member k a.0) (member (get_or t l 0) a.0) a.2 (subst T (sym along) (obliged_along (row P a.0) l b a.3)))) a.3
