-- For the code that takes rows until one is open: what the tables say of the row taken, and that what is taken so far leads where the definition does.
use mathlib.Core.Path.{◌≡◌, refl, sym, ap, ap₂, subst, ◌∙◌}
use mathlib.Core.Logic.{◌⊎◌, inl, inr, ⊎_elim}
use mathlib.Core.Bool.{Bool, false, not, ◌&&◌, ◌||◌}
use mathlib.Core.List.{List}
use Prim.Native.Nat.{ℕ, ◌^◌, ◌<◌}
use lib.Bits.{bit_and, bit_or, or_lt, and_lt}
use lib.Dec.{T, T_not, not_T, eqb, eqb→eq, ltb, ltb→lt}
use lib.ListN.{length}
use lib.Pow.{pow-lt}
use Rattle.files.specs.Basics.Tests.{same_test, eq_eqb, and_l, and_r, and_i, or_e, or_l, or_r}
use Rattle.files.specs.Cells.{cell}
use Rattle.files.specs.Property.{Row, always, never, returns, not_returns, in_method, not_in_method, both, either, box, box_all, row, names, Property}
use Rattle.maximal.specs.Masks.{member, apart, joins, and_rows, completion, Taken}
use Rattle.maximal.specs.Masks.Laws.{member_or, member_and, member_one, member_two, members_eq, apart_e, apart_i, completion_lt, completion_contains, completion_joins, completion_least}
use Rattle.maximal.specs.Masks.Order.{taken_row, member_ands, and_rows_lt}
use Rattle.maximal.specs.Collected.{unsettled, operands, Bounded, stopped, Tables}
use Rattle.maximal.specs.Collected.Worked.{partly_ands, completion_ands, stopped_all, stopped_open, stopped_on}
use Rattle.maximal.specs.Places.{operands_base}

-- two rows are settled where one of them is there
pub either_settled : (k s a b : ℕ) → s < 2 ^ k → a < k → b < k → apart s (bit_or (2 ^ a) (2 ^ b)) ≡ not (member s a) && not (member s b)
either_settled k s a b h l m = same_test (apart s (bit_or (2 ^ a) (2 ^ b))) (not (member s a) && not (member s b))
    (λ t. and_i (not (member s a)) (not (member s b))
    (not_T (member s a) (λ i. apart_e s (bit_or (2 ^ a) (2 ^ b)) t a i (has a (or_l (eqb a a) (eqb b a) (eq_eqb a a refl)))))
    (not_T (member s b) (λ i. apart_e s (bit_or (2 ^ a) (2 ^ b)) t b i (has b (or_r (eqb a b) (eqb b b) (eq_eqb b b refl))))))
    (λ t. apart_i k s (bit_or (2 ^ a) (2 ^ b)) h (or_lt k (2 ^ a) (2 ^ b) (pow-lt l) (pow-lt m)) (λ r i j. ⊎_elim
    (λ e. T_not (member s a) (and_l (not (member s a)) (not (member s b)) t) (subst (λ (n : ℕ). T (member s n)) (sym (eqb→eq a r e)) i))
    (λ e. T_not (member s b) (and_r (not (member s a)) (not (member s b)) t) (subst (λ (n : ℕ). T (member s n)) (sym (eqb→eq b r e)) i))
    (or_e (eqb a r) (eqb b r) (subst T (member_two a b r) j))))
  where
    has : (r : ℕ) → T (eqb a r || eqb b r) → T (member (bit_or (2 ^ a) (2 ^ b)) r)
    has r t = subst T (sym (member_two a b r)) t

-- the operands of a row, or the row itself, are rows
operands_lt : (n : ℕ) (x : Row) (r : ℕ) → r < n → T (names n x) → operands x r < 2 ^ n
operands_lt n always r h t = pow-lt h
operands_lt n never r h t = pow-lt h
operands_lt n returns r h t = pow-lt h
operands_lt n not_returns r h t = pow-lt h
operands_lt n (in_method a) r h t = pow-lt h
operands_lt n (not_in_method a) r h t = pow-lt h
operands_lt n (both a b) r h t = or_lt n (2 ^ a) (2 ^ b) (pow-lt (ltb→lt a n (and_l (ltb a n) (ltb b n) t))) (pow-lt (ltb→lt b n (and_r (ltb a n) (ltb b n) t)))
operands_lt n (either a b) r h t = or_lt n (2 ^ a) (2 ^ b) (pow-lt (ltb→lt a n (and_l (ltb a n) (ltb b n) t))) (pow-lt (ltb→lt b n (and_r (ltb a n) (ltb b n) t)))
operands_lt n (box l b) r h t = pow-lt h
operands_lt n (box_all a) r h t = pow-lt h

module _ (P : List Row) (wf : Property P) (s d b : ℕ) (y : Bounded P s d b) where
  abbrev n : ℕ
  n = length P

  bound_lt : b < 2 ^ n
  bound_lt = subst (λ (i : ℕ). i < 2 ^ n) (sym y.bound_is) (completion_lt P s)

  module _ (r : ℕ) (t : Taken s d r) where
    row_lt : r < n
    row_lt = taken_row n s d y.partly r t

    in_bound : T (member b r)
    in_bound = subst (λ (i : ℕ). T (member i r)) (sym y.bound_is) (completion_contains P s r row_lt t.in_set)

    joined : (q : ℕ) → q < n → T (joins (row P r) q) → T (member b q)
    joined q h j = subst (λ (i : ℕ). T (member i q)) (sym y.bound_is) (completion_joins P s r q h (completion_contains P s r row_lt t.in_set) j)

    -- the bound has none of the operands: the row is an open "or"
    pub operands_test : apart b (operands (row P r) r) ≡ unsettled (row P r) b
    operands_test = go (row P r) refl (wf.names_rows r row_lt)
      where
        alone : apart b (2 ^ r) ≡ false
        alone = same_test (apart b (2 ^ r)) false (λ i. apart_e b (2 ^ r) i r in_bound (subst T (sym (member_one r r)) (eq_eqb r r refl))) (λ i. absurd i)

        go : (x : Row) → row P r ≡ x → T (names n x) → apart b (operands x r) ≡ unsettled x b
        go always e i = alone
        go never e i = alone
        go returns e i = alone
        go not_returns e i = alone
        go (in_method m) e i = alone
        go (not_in_method m) e i = alone
        go (both a c) e i = same_test (apart b (bit_or (2 ^ a) (2 ^ c))) false
            (λ u. apart_e b (bit_or (2 ^ a) (2 ^ c)) u a
            (joined a (ltb→lt a n (and_l (ltb a n) (ltb c n) i)) (subst (λ (x : Row). T (joins x a)) (sym e) (or_l (eqb a a) (eqb c a) (eq_eqb a a refl))))
            (subst T (sym (member_two a c a)) (or_l (eqb a a) (eqb c a) (eq_eqb a a refl))))
            (λ u. absurd u)
        go (either a c) e i = either_settled n b a c bound_lt (ltb→lt a n (and_l (ltb a n) (ltb c n) i)) (ltb→lt c n (and_r (ltb a n) (ltb c n) i))
        go (box l c) e i = alone
        go (box_all a) e i = alone

    -- what enters with the row: its operands, as far as it asks for them as an "and"
    pub operands_in : bit_or s (bit_and (operands (row P r) r) (completion P (2 ^ r))) ≡ bit_or s (and_rows (row P r))
    operands_in = members_eq n (bit_or s (bit_and (operands (row P r) r) (completion P (2 ^ r)))) (bit_or s (and_rows (row P r)))
        (or_lt n s _ y.partly.of_rows (and_lt n (operands (row P r) r) (completion P (2 ^ r)) (operands_lt n (row P r) r row_lt (wf.names_rows r row_lt)) (completion_lt P (2 ^ r))))
        (or_lt n s _ y.partly.of_rows (and_rows_lt n (row P r) (wf.names_rows r row_lt)))
        (λ q h. member_or s (bit_and (operands (row P r) r) (completion P (2 ^ r))) q ∙ ap (λ (c : Bool). member s q || c) (member_and (operands (row P r) r) (completion P (2 ^ r)) q)
        ∙ same_test (member s q || (member (operands (row P r) r) q && member (completion P (2 ^ r)) q)) (member s q || joins (row P r) q) (into q) (back q h)
        ∙ sym (member_or s (and_rows (row P r)) q ∙ ap (λ (c : Bool). member s q || c) (member_ands (row P r) q)))
      where
        -- an "or" asks for nothing as an "and"
        by_itself : (a c q : ℕ) → row P r ≡ either a c → T (member (completion P (2 ^ r)) q) → r ≡ q
        by_itself a c q e = completion_least P (2 ^ r) (λ (i : ℕ). r ≡ i) (λ i u. eqb→eq r i (subst T (member_one r i) u))
            (λ z i u j. absurd (subst (λ (x : Row). T (joins x i)) (ap (row P) (sym u) ∙ e) j)) q

        here : (q : ℕ) → r ≡ q → T (member s q)
        here q e = subst (λ (i : ℕ). T (member s i)) e t.in_set

        enters : (q : ℕ) → T (member (operands (row P r) r) q) → T (member (completion P (2 ^ r)) q) → T (member s q) ⊎ T (joins (row P r) q)
        enters q u v = go (row P r) refl u
          where
            alone : T (member (2 ^ r) q) → T (member s q)
            alone k = here q (eqb→eq r q (subst T (member_one r q) k))

            go : (x : Row) → row P r ≡ x → T (member (operands x r) q) → T (member s q) ⊎ T (joins x q)
            go always e k = inl (alone k)
            go never e k = inl (alone k)
            go returns e k = inl (alone k)
            go not_returns e k = inl (alone k)
            go (in_method m) e k = inl (alone k)
            go (not_in_method m) e k = inl (alone k)
            go (both a c) e k = inr (subst T (member_two a c q) k)
            go (either a c) e k = inl (here q (by_itself a c q e v))
            go (box l c) e k = inl (alone k)
            go (box_all a) e k = inl (alone k)

        into : (q : ℕ) → T (member s q || (member (operands (row P r) r) q && member (completion P (2 ^ r)) q)) → T (member s q || joins (row P r) q)
        into q u = ⊎_elim (or_l (member s q) (joins (row P r) q))
            (λ k. ⊎_elim (or_l (member s q) (joins (row P r) q)) (or_r (member s q) (joins (row P r) q)) (enters q (and_l (member (operands (row P r) r) q) _ k) (and_r (member (operands (row P r) r) q) _ k)))
            (or_e (member s q) _ u)

        asked : (q : ℕ) → T (joins (row P r) q) → T (member (operands (row P r) r) q)
        asked q j = go (row P r) j
          where
            go : (x : Row) → T (joins x q) → T (member (operands x r) q)
            go always k = absurd k
            go never k = absurd k
            go returns k = absurd k
            go not_returns k = absurd k
            go (in_method m) k = absurd k
            go (not_in_method m) k = absurd k
            go (both a c) k = subst T (sym (member_two a c q)) k
            go (either a c) k = absurd k
            go (box l c) k = absurd k
            go (box_all a) k = absurd k

        back : (q : ℕ) → q < n → T (member s q || joins (row P r) q) → T (member s q || (member (operands (row P r) r) q && member (completion P (2 ^ r)) q))
        back q h u = ⊎_elim (or_l (member s q) _)
            (λ k. or_r (member s q) _ (and_i (member (operands (row P r) r) q) (member (completion P (2 ^ r)) q) (asked q k)
            (completion_joins P (2 ^ r) r q h (completion_contains P (2 ^ r) r row_lt (subst T (sym (member_one r r)) (eq_eqb r r refl))) k)))
            (or_e (member s q) (joins (row P r) q) u)

-- the rows of s₀ are taken as far as s and d
pub record Opening (P : List Row) (s₀ d₀ b s d : ℕ) : Type 0 where
  pub bounded : Bounded P s d b
  pub leads : stopped P s₀ d₀ b ≡ stopped P s d b

module _ (P : List Row) (wf : Property P) (w : List ℕ) (tables : Tables P w) (s₀ d₀ b s d : ℕ) (y : Opening P s₀ d₀ b s d) where
  -- all are worked
  pub opened_none : (n : ℕ) → n ≡ length P → s ≡ d → record { row = n; set = s; worked = d } ≡ stopped P s₀ d₀ b
  opened_none n e i =
      ap₂ (λ (j k : ℕ). record { row = j; set = s; worked = k }) e (sym i) ∙ sym (y.leads ∙ ap (λ (k : ℕ). stopped P s k b) (sym i) ∙ stopped_all P wf b s)

  module _ (r : ℕ) (t : Taken s d r) (x : ℕ) (read : x ≡ cell w operands_base 4 r) where
    test_is : apart b x ≡ unsettled (row P r) b
    test_is = ap (apart b) (read ∙ tables.operands_are r (row_lt P wf s d b y.bounded r t)) ∙ operands_test P wf s d b y.bounded r t

    -- the row taken is open
    pub opened_at : bit_and b x ≡ 0 → record { row = r; set = s; worked = d } ≡ stopped P s₀ d₀ b
    opened_at e = sym (y.leads ∙ stopped_open P wf b s d y.bounded.partly r t (subst T test_is (eq_eqb (bit_and b x) 0 e)))

    -- it is not
    pub opening_on : (c e : ℕ) → c ≡ cell w 0 4 r → e ≡ 2 ^ r → (bit_and b x ≡ 0 → ⊥) → Opening P s₀ d₀ b (bit_or s (bit_and x c)) (bit_or d e)
    opening_on c e p q f = subst (λ (u : ℕ). Opening P s₀ d₀ b u (bit_or d e)) (sym enters) (subst (λ (v : ℕ). Opening P s₀ d₀ b (bit_or s (and_rows (row P r))) (bit_or d v)) (sym q) record {
      bounded = record { partly = partly_ands P wf s d y.bounded.partly r t; bound_is = y.bounded.bound_is ∙ completion_ands P wf s d y.bounded.partly r t };
      leads = y.leads ∙ stopped_on P wf b s d y.bounded.partly r t (subst (λ (c : Bool). T (not c)) test_is (not_T (apart b x) (λ i. f (eqb→eq (bit_and b x) 0 i))));
    })
      where
        enters : bit_or s (bit_and x c) ≡ bit_or s (and_rows (row P r))
        enters =
            let l = row_lt P wf s d b y.bounded r t in
            ap₂ (λ (i j : ℕ). bit_or s (bit_and i j)) (read ∙ tables.operands_are r l) (p ∙ tables.closed_are r l) ∙ operands_in P wf s d b y.bounded r t
