-- The row that is taken next: there is one while a row of the set is not worked, and only one, and one row more is worked by it. Also what an "and" asks for as digits,
-- and the completion of a larger set and of a union.
use Rattle.std.specs.Prelude.{◌≡◌, refl, ◌⊎◌, Bool, true, false, not, cond, List, ℕ, zero, suc, ◌^◌, ◌<◌, T, ltb, length}
use Rattle.std.proofs.Common.{sym, ap, subst, ◌∙◌, inl, inr, ⊎_elim, arith, T_not, eqb→eq, ltb→lt, pow_pos}
use Rattle.std.proofs.Math.Logic.{⊎_map}
use Rattle.std.proofs.Math.Decide.{ℕ_discrete, dec_lt}
use Rattle.std.specs.Int.Bits.{bit_or}
use Rattle.std.proofs.lemmas.Nat.{or_lt}
use Rattle.std.proofs.Math.Dec.{not_T}
use Rattle.std.proofs.Math.Pow.{pow-lt}
use Rattle.files.specs.Basics.Tables.{tally, tally_more}
use Rattle.files.specs.Basics.Tests.{same_test, decide, eq_eqb, not_and, not_not, and_l, and_r, or_e, or_l, or_r}
use Rattle.files.specs.Property.{Row, always, never, returns, not_returns, in_method, not_in_method, both, either, box, box_all, row, names, Property}
use Rattle.maximal.specs.Masks.{member, joins, and_rows, completion, Partly, Taken, pending, top}
use Rattle.maximal.specs.Masks.Laws.{member_or, member_one, member_two, member_none, member_lt, members_eq, completion_lt, completion_contains, completion_joins, completion_least}

-- ---- the highest row that is not worked

top_above : (n s d j : ℕ) → top n s d < j → j < n → T (not (pending s d j))
unfolding top
top_above zero s d j h l = absurd (omega arith)
top_above (suc n) s d j h l = go (pending s d n) refl h (top_above n s d j)
  where
    go : (b : Bool) → pending s d n ≡ b → cond b n (top n s d) < j → (top n s d < j → j < n → T (not (pending s d j))) → T (not (pending s d j))
    go true e k f = absurd (omega arith)
    go false e k f = at_end (ℕ_discrete j n)
      where
        at_end : Dec (j ≡ n) → T (not (pending s d j))
        at_end (yes i) = subst (λ (q : ℕ). T (not (pending s d q))) (sym i) (subst (λ (c : Bool). T (not c)) (sym e) tt)
        at_end (no i) = f k (omega arith)

top_passes : (n s d q : ℕ) → q < n → T (pending s d q) → T (pending s d (top n s d))
unfolding top
top_passes zero s d q h t = absurd (omega arith)
top_passes (suc n) s d q h t = go (pending s d n) refl (top_passes n s d q)
  where
    go : (b : Bool) → pending s d n ≡ b → (q < n → T (pending s d q) → T (pending s d (top n s d))) → T (pending s d (cond b n (top n s d)))
    go true e f = subst T (sym e) tt
    go false e f = at_end (ℕ_discrete q n)
      where
        at_end : Dec (q ≡ n) → T (pending s d (top n s d))
        at_end (yes i) = absurd (subst T (ap (pending s d) i ∙ e) t)
        at_end (no i) = f (omega arith) t

-- two rows taken of one set are one
pub taken_one : (s d r q : ℕ) → Taken s d r → Taken s d q → r ≡ q
taken_one s d r q x y = go (dec_lt r q) (dec_lt q r)
  where
    go : Dec (r < q) → Dec (q < r) → r ≡ q
    go (yes h) k = absurd (T_not (member d q) y.not_worked (x.highest q h y.in_set))
    go (no h) (yes k) = absurd (T_not (member d r) x.not_worked (y.highest r k x.in_set))
    go (no h) (no k) = omega arith

module _ (n s d : ℕ) (p : Partly n s d) where
  -- while not all is worked, the highest row that is not is taken
  pub taken_top : (s ≡ d → ⊥) → Taken s d (top n s d)
  taken_top f = go (decide (pending s d (top n s d)))
    where
      none_left : T (not (pending s d (top n s d))) → (r : ℕ) → T (member s r) → T (member d r)
      none_left t r m = ⊎_elim (λ c. absurd (T_not (member s r) c m)) (λ c. not_not (member d r) c) (not_and (member s r) (not (member d r))
          (not_T (pending s d r) (λ u. T_not (pending s d (top n s d)) t (top_passes n s d r (member_lt n s r p.of_rows m) u))))

      worked_above : (q : ℕ) → top n s d < q → T (member s q) → T (member d q)
      worked_above q h m = ⊎_elim (λ c. absurd (T_not (member s q) c m)) (λ c. not_not (member d q) c) (not_and (member s q) (not (member d q)) (top_above n s d q h (member_lt n s q p.of_rows m)))

      go : T (pending s d (top n s d)) ⊎ T (not (pending s d (top n s d))) → Taken s d (top n s d)
      go (inl t) = record {
        in_set = and_l (member s (top n s d)) (not (member d (top n s d))) t;
        not_worked = and_r (member s (top n s d)) (not (member d (top n s d))) t;
        highest = worked_above;
      }
      go (inr t) = absurd (f (members_eq n s d p.of_rows p.rows_of (λ r h. same_test (member s r) (member d r) (none_left t r) (p.inside r))))

  module _ (r : ℕ) (t : Taken s d r) where
    pub taken_row : r < n
    taken_row = member_lt n s r p.of_rows t.in_set

    pub taken_is : r ≡ top n s d
    taken_is = taken_one s d r (top n s d) t (taken_top (λ e. T_not (member d r) t.not_worked (subst (λ (k : ℕ). T (member k r)) e t.in_set)))

    pub now_worked : (q : ℕ) → T (member (bit_or d (2 ^ r)) q) → T (member d q) ⊎ (r ≡ q)
    now_worked q i = ⊎_map (λ k. k) (λ k. eqb→eq r q (subst T (member_one r q) k)) (or_e (member d q) (member (2 ^ r) q) (subst T (member_or d (2 ^ r) q) i))

    pub still_worked : (q : ℕ) → T (member d q) → T (member (bit_or d (2 ^ r)) q)
    still_worked q i = subst T (sym (member_or d (2 ^ r) q)) (or_l (member d q) (member (2 ^ r) q) i)

    pub worked_it : T (member (bit_or d (2 ^ r)) r)
    worked_it = subst T (sym (member_or d (2 ^ r) r)) (or_r (member d r) (member (2 ^ r) r) (subst T (sym (member_one r r)) (eq_eqb r r refl)))

    -- one row more is worked
    pub partly_on : (u : ℕ) → u < 2 ^ n → ((q : ℕ) → T (member s q) → T (member u q)) → Partly n u (bit_or d (2 ^ r))
    partly_on u h f = record {
      of_rows = h;
      rows_of = or_lt n d (2 ^ r) p.rows_of (pow-lt taken_row);
      inside = λ q i. f q (⊎_elim (p.inside q) (λ e. subst (λ (k : ℕ). T (member s k)) e t.in_set) (now_worked q i));
    }

    pub worked_more : tally (member d) n < tally (member (bit_or d (2 ^ r))) n
    worked_more = tally_more (member d) (member (bit_or d (2 ^ r))) r n taken_row t.not_worked worked_it (λ q h. still_worked q)

-- ---- what an "and" asks for

pub member_ands : (x : Row) (r : ℕ) → member (and_rows x) r ≡ joins x r
member_ands always r = member_none r
member_ands never r = member_none r
member_ands returns r = member_none r
member_ands not_returns r = member_none r
member_ands (in_method a) r = member_none r
member_ands (not_in_method a) r = member_none r
member_ands (both a b) r = member_two a b r
member_ands (either a b) r = member_none r
member_ands (box l b) r = member_none r
member_ands (box_all a) r = member_none r

pub and_rows_lt : (n : ℕ) (x : Row) → T (names n x) → and_rows x < 2 ^ n
and_rows_lt n always t = pow_pos n
and_rows_lt n never t = pow_pos n
and_rows_lt n returns t = pow_pos n
and_rows_lt n not_returns t = pow_pos n
and_rows_lt n (in_method a) t = pow_pos n
and_rows_lt n (not_in_method a) t = pow_pos n
and_rows_lt n (both a b) t = or_lt n (2 ^ a) (2 ^ b) (pow-lt (ltb→lt a n (and_l (ltb a n) (ltb b n) t))) (pow-lt (ltb→lt b n (and_r (ltb a n) (ltb b n) t)))
and_rows_lt n (either a b) t = pow_pos n
and_rows_lt n (box l b) t = pow_pos n
and_rows_lt n (box_all a) t = pow_pos n

-- ---- completions

module _ (P : List Row) (wf : Property P) where
  abbrev n : ℕ
  n = length P

  -- what is asked for is a row
  pub joins_lt : (y r : ℕ) → y < n → T (joins (row P y) r) → r < n
  joins_lt y r h j = member_lt n (and_rows (row P y)) r (and_rows_lt n (row P y) (wf.names_rows y h)) (subst T (sym (member_ands (row P y) r)) j)

  -- a set that has s and what its "and" rows ask for has the completion of s
  pub completion_in : (s u : ℕ) → u < 2 ^ n → ((r : ℕ) → T (member s r) → T (member u r)) → ((y r : ℕ) → r < n → T (member u y) → T (joins (row P y) r) → T (member u r))
      → (r : ℕ) → T (member (completion P s) r) → T (member u r)
  completion_in s u h f g = completion_least P s (λ r. T (member u r)) f (λ y r t j. g y r (joins_lt y r (member_lt n u y h t) j) t j)

  pub completion_mono : (s u : ℕ) → u < 2 ^ n → ((r : ℕ) → T (member s r) → T (member u r)) → (r : ℕ) → T (member (completion P s) r) → T (member (completion P u) r)
  completion_mono s u h f = completion_in s (completion P u) (completion_lt P u) (λ r t. completion_contains P u r (member_lt n u r h (f r t)) (f r t)) (completion_joins P u)

  -- a set between s and its completion has the same
  pub completion_same : (s u : ℕ) → u < 2 ^ n → ((r : ℕ) → T (member s r) → T (member u r)) → ((r : ℕ) → T (member u r) → T (member (completion P s) r)) → completion P s ≡ completion P u
  completion_same s u h f g = members_eq n (completion P s) (completion P u) (completion_lt P s) (completion_lt P u) (λ r l. same_test (member (completion P s) r) (member (completion P u) r)
      (completion_mono s u h f r) (completion_in u (completion P s) (completion_lt P s) g (completion_joins P s) r))

  -- of a union
  pub completion_or : (s u : ℕ) → s < 2 ^ n → u < 2 ^ n → bit_or (completion P s) (completion P u) ≡ completion P (bit_or s u)
  completion_or s u h k = members_eq n (bit_or (completion P s) (completion P u)) (completion P (bit_or s u)) both_lt (completion_lt P (bit_or s u))
      (λ r l. same_test (member (bit_or (completion P s) (completion P u)) r) (member (completion P (bit_or s u)) r) (into r) (back r))
    where
      both_lt : bit_or (completion P s) (completion P u) < 2 ^ n
      both_lt = or_lt n (completion P s) (completion P u) (completion_lt P s) (completion_lt P u)

      from_s : (r : ℕ) → T (member (completion P s) r) → T (member (bit_or (completion P s) (completion P u)) r)
      from_s r i = subst T (sym (member_or (completion P s) (completion P u) r)) (or_l (member (completion P s) r) (member (completion P u) r) i)

      from_u : (r : ℕ) → T (member (completion P u) r) → T (member (bit_or (completion P s) (completion P u)) r)
      from_u r i = subst T (sym (member_or (completion P s) (completion P u) r)) (or_r (member (completion P s) r) (member (completion P u) r) i)

      one_of : (r : ℕ) → T (member (bit_or (completion P s) (completion P u)) r) → T (member (completion P s) r) ⊎ T (member (completion P u) r)
      one_of r t = or_e (member (completion P s) r) (member (completion P u) r) (subst T (member_or (completion P s) (completion P u) r) t)

      into : (r : ℕ) → T (member (bit_or (completion P s) (completion P u)) r) → T (member (completion P (bit_or s u)) r)
      into r t = ⊎_elim
          (completion_mono s (bit_or s u) (or_lt n s u h k) (λ q i. subst T (sym (member_or s u q)) (or_l (member s q) (member u q) i)) r)
          (completion_mono u (bit_or s u) (or_lt n s u h k) (λ q i. subst T (sym (member_or s u q)) (or_r (member s q) (member u q) i)) r)
          (one_of r t)

      back : (r : ℕ) → T (member (completion P (bit_or s u)) r) → T (member (bit_or (completion P s) (completion P u)) r)
      back = completion_in (bit_or s u) (bit_or (completion P s) (completion P u)) both_lt
          (λ r t. ⊎_elim (λ i. from_s r (completion_contains P s r (member_lt n s r h i) i)) (λ i. from_u r (completion_contains P u r (member_lt n u r k i) i)) (or_e (member s r) (member u r) (subst T (member_or s u r) t)))
          (λ y r l t j. ⊎_elim (λ i. from_s r (completion_joins P s y r l i j)) (λ i. from_u r (completion_joins P u y r l i j)) (one_of y t))
