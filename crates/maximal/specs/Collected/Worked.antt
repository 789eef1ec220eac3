-- Rows worked one after the other. `worked_fulfilled`: every "and" that is worked has its operands in the set, every "or" one in the set's completion. `ended`: where the taking
-- of rows stops, all are worked, or the row that was to be taken next is an open "or". `looked_stopped` and `looked_named`: in every set that is looked at, rows were worked
-- from the highest down, and `bound` is the set's completion.
use Rattle.std.specs.Prelude.{◌≡◌, ◌⊎◌, Bool, true, false, not, ◌&&◌, ◌||◌, List, T, eqb, ltb, length}
use Rattle.std.proofs.Math.Path.{refl}
use Rattle.std.proofs.Common.{sym, ap, subst, ◌∙◌, inl, inr, ⊎_elim, arith, T_not, eqb→eq, ltb→lt, pow_pos}
use Rattle.std.proofs.Math.Logic.{⊎_map}
use Prim.Native.Nat.{ℕ, zero, suc, ◌+◌, ◌^◌, ◌≤◌, ◌<◌}
use Rattle.std.specs.Int.Bits.{bit_or, or_zero_r}
use Rattle.std.proofs.lemmas.Nat.{or_lt}
use Rattle.std.proofs.Math.Dec.{not_T}
use Rattle.std.proofs.Math.Pow.{pow-lt}
use Rattle.files.specs.Basics.Tables.{tally, tally_le}
use Rattle.files.specs.Basics.Tests.{same_test, T_eq, eq_eqb, not_not, not_and, and_l, and_r, or_e, or_l, or_r}
use Rattle.files.specs.Decode.{row_rec}
use Rattle.files.specs.Property.{Row, always, never, returns, not_returns, in_method, not_in_method, both, either, box, box_all, row, names, Property}
use Rattle.maximal.specs.declared.supports.Opened.{Opened}
use Rattle.maximal.specs.Masks.{member, joins, and_rows, completion, Partly, Taken, top}
use Rattle.maximal.specs.Masks.Laws.{member_or, member_one, member_two, member_none, member_lt, members_eq, completion_lt, completion_contains, completion_joins}
use Rattle.maximal.specs.Masks.Order.{taken_top, taken_row, taken_is, now_worked, partly_on, worked_more, member_ands, and_rows_lt, completion_in, completion_mono, completion_same, completion_or}
use Rattle.maximal.specs.Collected.{is_plain, Works, plain, both_in, settled, named, WorkedFrom, unworked, onward, unsettled, operand_a, operand_b, worked_to, Bounded, stopped, set_with, worked_with}
use Rattle.maximal.specs.Collected.Rows.{unsettled_e, unsettled_less}

-- ---- rows, case by case

plain_joins : (x : Row) (q : ℕ) → T (is_plain x) → T (joins x q) → ⊥
plain_joins always q p j = j
plain_joins never q p j = j
plain_joins returns q p j = j
plain_joins not_returns q p j = j
plain_joins (in_method a) q p j = j
plain_joins (not_in_method a) q p j = j
plain_joins (both a b) q p j = p
plain_joins (either a b) q p j = j
plain_joins (box l b) q p j = j
plain_joins (box_all a) q p j = j

plain_settled : (x : Row) (s : ℕ) → T (is_plain x) → T (not (unsettled x s))
plain_settled always s p = tt
plain_settled never s p = tt
plain_settled returns s p = tt
plain_settled not_returns s p = tt
plain_settled (in_method a) s p = tt
plain_settled (not_in_method a) s p = tt
plain_settled (both a b) s p = tt
plain_settled (either a b) s p = absurd p
plain_settled (box l b) s p = tt
plain_settled (box_all a) s p = tt

-- an "or" is settled where one of its operands is there
one_settles : (a b s : ℕ) → T (member s a || member s b) → T (not (unsettled (either a b) s))
one_settles a b s t = not_T (unsettled (either a b) s) (λ u. ⊎_elim (T_not (member s a) (and_l (not (member s a)) (not (member s b)) u)) (T_not (member s b) (and_r (not (member s a)) (not (member s b)) u)) (or_e (member s a) (member s b) t))

settles_one : (a b s : ℕ) → T (not (unsettled (either a b) s)) → T (member s a || member s b)
settles_one a b s t = ⊎_elim (λ k. or_l (member s a) (member s b) (not_not (member s a) k)) (λ k. or_r (member s a) (member s b) (not_not (member s b) k)) (not_and (not (member s a)) (not (member s b)) t)

-- ---- a row is worked

module _ (P : List Row) (s d r : ℕ) (t : Taken s d r) where
  -- the row taken is no open "or": what it asks for as an "and" enters
  pub works_on : T (not (unsettled (row P r) (completion P s))) → Works P s d (bit_or s (and_rows (row P r))) (bit_or d (2 ^ r))
  works_on u = go (row P r) refl u
    where
      as_is : Works P s d s (bit_or d (2 ^ r)) → Works P s d (bit_or s 0) (bit_or d (2 ^ r))
      as_is = subst (λ (i : ℕ). Works P s d i (bit_or d (2 ^ r))) (sym (or_zero_r s))

      alone : (x : Row) → row P r ≡ x → T (is_plain x) → Works P s d (bit_or s 0) (bit_or d (2 ^ r))
      alone x e p = as_is (plain r t (subst (λ (y : Row). T (is_plain y)) (sym e) p))

      go : (x : Row) → row P r ≡ x → T (not (unsettled x (completion P s))) → Works P s d (bit_or s (and_rows x)) (bit_or d (2 ^ r))
      go always e v = alone always e tt
      go never e v = alone never e tt
      go returns e v = alone returns e tt
      go not_returns e v = alone not_returns e tt
      go (in_method a) e v = alone (in_method a) e tt
      go (not_in_method a) e v = alone (not_in_method a) e tt
      go (both a b) e v = both_in r a b t e
      go (either a b) e v = as_is (settled r a b t e (settles_one a b (completion P s) v))
      go (box l b) e v = alone (box l b) e tt
      go (box_all a) e v = alone (box_all a) e tt

  -- it is one: an operand is named
  pub works_named : (c : ℕ) → T (unsettled (row P r) (completion P s)) → (c ≡ operand_a P r) ⊎ (c ≡ operand_b P r) → Works P s d (bit_or s (2 ^ c)) (bit_or d (2 ^ r))
  works_named c u which =
      let v = unsettled_e (row P r) (completion P s) u in
      named r v.0 v.1 c t v.2 v.3 v.4 (⊎_map (λ e. e ∙ ap (λ (y : Row). (row_rec y).second) v.2) (λ e. e ∙ ap (λ (y : Row). (row_rec y).third) v.2) which)

-- what the worked rows of a set that grew from o have: an "and" both operands in the set, an "or" one in the set's completion
pub record Fulfilled (P : List Row) (o s d : ℕ) : Type 0 where
  pub partly : Partly (length P) s d
  pub contains : (r : ℕ) → T (member o r) → T (member s r)
  pub ands : (y r : ℕ) → T (member d y) → T (joins (row P y) r) → T (member s r)
  pub ors : (y : ℕ) → T (member d y) → T (not (unsettled (row P y) (completion P s)))

-- a set that is looked at: s grew from o, row by row from the highest down, d is worked, and b is its completion
pub record Looked (P : List Row) (o s d b : ℕ) : Type 0 where
  pub worked_from : WorkedFrom P o s d
  pub bound_is : b ≡ completion P s

pub looked_first : (P : List Row) (o : ℕ) → Looked P o o 0 (completion P o)
looked_first P o = record { worked_from = unworked; bound_is = refl }

-- an "or" is open that is to be taken next
pub record Open (P : List Row) (b : ℕ) (t : Opened) : Type 0 where
  pub is_row : t.row < length P
  pub taken : Taken t.set t.worked t.row
  pub has_neither : T (unsettled (row P t.row) b)

-- all rows are worked, or one is open
abbrev pub Ends : List Row → ℕ → Opened → Type 0
Ends P b t = ((t.row ≡ length P) × (t.set ≡ t.worked)) ⊎ Open P b t

module _ (P : List Row) (wf : Property P) where
  abbrev n : ℕ
  n = length P

  fulfilled_on : (o s d r u : ℕ) → Fulfilled P o s d → Taken s d r → u < 2 ^ n → ((q : ℕ) → T (member s q) → T (member u q)) → ((q : ℕ) → T (joins (row P r) q) → T (member u q))
      → T (not (unsettled (row P r) (completion P u))) → Fulfilled P o u (bit_or d (2 ^ r))
  fulfilled_on o s d r u f t h more asks ok = record {
    partly = partly_on n s d f.partly r t u h more;
    contains = λ q i. more q (f.contains q i);
    ands = λ y q i j. ⊎_elim (λ k. more q (f.ands y q k j)) (λ e. asks q (subst (λ (k : ℕ). T (joins (row P k) q)) (sym e) j)) (now_worked n s d f.partly r t y i);
    ors = λ y i. ⊎_elim
        (λ k. not_T (unsettled (row P y) (completion P u)) (λ v. T_not (unsettled (row P y) (completion P s)) (f.ors y k) (unsettled_less (row P y) (completion P s) (completion P u) (completion_mono P wf s u h more) v)))
        (λ e. subst (λ (k : ℕ). T (not (unsettled (row P k) (completion P u)))) e ok) (now_worked n s d f.partly r t y i);
  }

  fulfilled_step : (o s d u e : ℕ) → Fulfilled P o s d → Works P s d u e → Fulfilled P o u e
  fulfilled_step o s d u e f (plain r t p) = fulfilled_on o s d r s f t f.partly.of_rows (λ q i. i) (λ q j. absurd (plain_joins (row P r) q p j)) (plain_settled (row P r) (completion P s) p)
  fulfilled_step o s d u e f (both_in r a b t is) = fulfilled_on o s d r (bit_or s (bit_or (2 ^ a) (2 ^ b))) f t
      (or_lt n s (bit_or (2 ^ a) (2 ^ b)) f.partly.of_rows (and_rows_lt n (both a b) (subst (λ (x : Row). T (names n x)) is (wf.names_rows r (taken_row n s d f.partly r t)))))
      (λ q i. subst T (sym (member_or s (bit_or (2 ^ a) (2 ^ b)) q)) (or_l (member s q) _ i))
      (λ q j. subst T (sym (member_or s (bit_or (2 ^ a) (2 ^ b)) q)) (or_r (member s q) _ (subst T (sym (member_two a b q)) (subst (λ (x : Row). T (joins x q)) is j))))
      (subst (λ (x : Row). T (not (unsettled x (completion P (bit_or s (bit_or (2 ^ a) (2 ^ b))))))) (sym is) tt)
  fulfilled_step o s d u e f (settled r a b t is k) = fulfilled_on o s d r s f t f.partly.of_rows (λ q i. i) (λ q j. absurd (subst (λ (x : Row). T (joins x q)) is j))
      (subst (λ (x : Row). T (not (unsettled x (completion P s)))) (sym is) (one_settles a b (completion P s) k))
  fulfilled_step o s d u e f (named r a b c t is i j which) = fulfilled_on o s d r (bit_or s (2 ^ c)) f t with_lt
      (λ q k. subst T (sym (member_or s (2 ^ c) q)) (or_l (member s q) (member (2 ^ c) q) k)) (λ q k. absurd (subst (λ (x : Row). T (joins x q)) is k))
      (subst (λ (x : Row). T (not (unsettled x (completion P (bit_or s (2 ^ c)))))) (sym is) (one_settles a b (completion P (bit_or s (2 ^ c))) (go which)))
    where
      of_rows : T (ltb a n && ltb b n)
      of_rows = subst (λ (x : Row). T (names n x)) is (wf.names_rows r (taken_row n s d f.partly r t))

      c_lt : c < n
      c_lt = ⊎_elim (λ x. subst (λ (k : ℕ). k < n) (sym x) (ltb→lt a n (and_l (ltb a n) (ltb b n) of_rows))) (λ x. subst (λ (k : ℕ). k < n) (sym x) (ltb→lt b n (and_r (ltb a n) (ltb b n) of_rows))) which

      with_lt : bit_or s (2 ^ c) < 2 ^ n
      with_lt = or_lt n s (2 ^ c) f.partly.of_rows (pow-lt c_lt)

      has_c : T (member (completion P (bit_or s (2 ^ c))) c)
      has_c = completion_contains P (bit_or s (2 ^ c)) c c_lt (subst T (sym (member_or s (2 ^ c) c)) (or_r (member s c) (member (2 ^ c) c) (subst T (sym (member_one c c)) (eq_eqb c c refl))))

      go : (c ≡ a) ⊎ (c ≡ b) → T (member (completion P (bit_or s (2 ^ c))) a || member (completion P (bit_or s (2 ^ c))) b)
      go (inl x) = or_l (member (completion P (bit_or s (2 ^ c))) a) (member (completion P (bit_or s (2 ^ c))) b) (subst (λ (k : ℕ). T (member (completion P (bit_or s (2 ^ c))) k)) x has_c)
      go (inr x) = or_r (member (completion P (bit_or s (2 ^ c))) a) (member (completion P (bit_or s (2 ^ c))) b) (subst (λ (k : ℕ). T (member (completion P (bit_or s (2 ^ c))) k)) x has_c)

  pub worked_fulfilled : (o : ℕ) → o < 2 ^ n → (s d : ℕ) → WorkedFrom P o s d → Fulfilled P o s d
  worked_fulfilled o h s d unworked = record {
    partly = record { of_rows = h; rows_of = pow_pos n; inside = λ r t. absurd (subst T (member_none r) t) };
    contains = λ r t. t;
    ands = λ y r t j. absurd (subst T (member_none y) t);
    ors = λ y t. absurd (subst T (member_none y) t);
  }
  worked_fulfilled o h s d (onward {s = u} {d = e} w x) = fulfilled_step o u e s d (worked_fulfilled o h u e w) x

  -- a set of which all is worked is its own completion
  pub all_worked : (o s : ℕ) → Fulfilled P o s s → s ≡ completion P s
  all_worked o s f = members_eq n s (completion P s) f.partly.of_rows (completion_lt P s) (λ r h. same_test (member s r) (member (completion P s) r)
      (completion_contains P s r h) (completion_in P wf s s f.partly.of_rows (λ q i. i) (λ y q l i j. f.ands y q i j) r))

  -- ---- where the taking of rows stops

  module _ (s d : ℕ) (p : Partly n s d) (r : ℕ) (t : Taken s d r) where
    with_ands : (q : ℕ) → T (member s q) → T (member (bit_or s (and_rows (row P r))) q)
    with_ands q i = subst T (sym (member_or s (and_rows (row P r)) q)) (or_l (member s q) (member (and_rows (row P r)) q) i)

    ands_lt : and_rows (row P r) < 2 ^ n
    ands_lt = and_rows_lt n (row P r) (wf.names_rows r (taken_row n s d p r t))

    all_lt : bit_or s (and_rows (row P r)) < 2 ^ n
    all_lt = or_lt n s (and_rows (row P r)) p.of_rows ands_lt

    pub partly_ands : Partly n (bit_or s (and_rows (row P r))) (bit_or d (2 ^ r))
    partly_ands = partly_on n s d p r t (bit_or s (and_rows (row P r))) all_lt with_ands

    -- what an "and" brings in is in the completion
    pub completion_ands : completion P s ≡ completion P (bit_or s (and_rows (row P r)))
    completion_ands = completion_same P wf s (bit_or s (and_rows (row P r))) all_lt with_ands (λ q i. ⊎_elim (λ k. completion_contains P s q (member_lt n s q p.of_rows k) k) (joined q)
        (or_e (member s q) (member (and_rows (row P r)) q) (subst T (member_or s (and_rows (row P r)) q) i)))
      where
        joined : (q : ℕ) → T (member (and_rows (row P r)) q) → T (member (completion P s) q)
        joined q i =
            completion_joins P s r q (member_lt n (and_rows (row P r)) q ands_lt i) (completion_contains P s r (taken_row n s d p r t) t.in_set) (subst T (member_ands (row P r) q) i)

  -- the definition, case by case
  module _ (k s d b : ℕ) where
    pub to_all : eqb s d ≡ true → worked_to P k s d b ≡ record { row = n; set = s; worked = d }
    unfolding worked_to
    to_all e = go k
      where
        go : (k : ℕ) → worked_to P k s d b ≡ record { row = n; set = s; worked = d }
        go zero = refl
        go (suc k) = rw e

    pub to_open : eqb s d ≡ false → unsettled (row P (top n s d)) b ≡ true → worked_to P (suc k) s d b ≡ record { row = top n s d; set = s; worked = d }
    unfolding worked_to
    to_open e u = rw (e, u)

    pub to_on : eqb s d ≡ false → unsettled (row P (top n s d)) b ≡ false
        → worked_to P (suc k) s d b ≡ worked_to P k (bit_or s (and_rows (row P (top n s d)))) (bit_or d (2 ^ top n s d)) b
    unfolding worked_to
    to_on e u = rw (e, u)

  module _ (b : ℕ) where
    not_yet : (s d : ℕ) → eqb s d ≡ false → s ≡ d → ⊥
    not_yet s d e i = subst T e (eq_eqb s d i)

    -- one more row can be worked than is worked
    room : (s d : ℕ) → Partly n s d → eqb s d ≡ false → tally (member d) n < tally (member (bit_or d (2 ^ top n s d))) n
    room s d p e = worked_more n s d p (top n s d) (taken_top n s d p (not_yet s d e))

    -- what holds of a set and what of it is worked, and stays so while rows are worked that are no open "or"
    module _ (Q : ℕ → ℕ → Type 0)
        (step : (s d : ℕ) → Partly n s d → b ≡ completion P s → Taken s d (top n s d) → T (not (unsettled (row P (top n s d)) b)) → Q s d
        → Q (bit_or s (and_rows (row P (top n s d)))) (bit_or d (2 ^ top n s d)))
      where
        -- at the end all rows are worked, or the one that is to be taken next is open
        pub record Ended (t : Opened) : Type 0 where
          pub partly : Partly n t.set t.worked
          pub bound_is : b ≡ completion P t.set
          pub holds : Q t.set t.worked
          pub ends : Ends P b t

        pub ended : (k s d : ℕ) → Partly n s d → b ≡ completion P s → n ≤ tally (member d) n + k → Q s d → Ended (worked_to P k s d b)
        ended zero s d p i h q = go (eqb s d) refl
          where
            go : (c : Bool) → eqb s d ≡ c → Ended (worked_to P 0 s d b)
            go true e = subst Ended (sym (to_all 0 s d b e)) record { partly = p; bound_is = i; holds = q; ends = inl (refl, eqb→eq s d (subst T (sym e) tt)) }
            go false e = absurd (omega (arith, room s d p e, tally_le (member (bit_or d (2 ^ top n s d))) n))
        ended (suc k) s d p i h q = go (eqb s d) refl (unsettled (row P (top n s d)) b) refl (ended k (bit_or s (and_rows (row P (top n s d)))) (bit_or d (2 ^ top n s d)))
          where
            go : (c : Bool) → eqb s d ≡ c → (u : Bool) → unsettled (row P (top n s d)) b ≡ u
                → (Partly n (bit_or s (and_rows (row P (top n s d)))) (bit_or d (2 ^ top n s d)) → b ≡ completion P (bit_or s (and_rows (row P (top n s d))))
                → n ≤ tally (member (bit_or d (2 ^ top n s d))) n + k → Q (bit_or s (and_rows (row P (top n s d)))) (bit_or d (2 ^ top n s d))
                → Ended (worked_to P k (bit_or s (and_rows (row P (top n s d)))) (bit_or d (2 ^ top n s d)) b))
                → Ended (worked_to P (suc k) s d b)
            go true e u f rest = subst Ended (sym (to_all (suc k) s d b e)) record { partly = p; bound_is = i; holds = q; ends = inl (refl, eqb→eq s d (subst T (sym e) tt)) }
            go false e true f rest =
                let t = taken_top n s d p (not_yet s d e) in
                subst Ended (sym (to_open k s d b e f)) record { partly = p; bound_is = i; holds = q; ends = inr record { is_row = taken_row n s d p (top n s d) t; taken = t; has_neither = subst T (sym f) tt } }
            go false e false f rest =
                let t = taken_top n s d p (not_yet s d e) in
                subst Ended (sym (to_on k s d b e f)) (rest (partly_ands s d p (top n s d) t) (i ∙ completion_ands s d p (top n s d) t) (omega (arith, room s d p e)) (step s d p i t (subst (λ (c : Bool). T (not c)) (sym f) tt) q))

    -- more than enough changes nothing
    more_fuel : (k s d : ℕ) → Partly n s d → n ≤ tally (member d) n + k → worked_to P (suc k) s d b ≡ worked_to P k s d b
    more_fuel zero s d p h = go (eqb s d) refl
      where
        go : (c : Bool) → eqb s d ≡ c → worked_to P 1 s d b ≡ worked_to P 0 s d b
        go true e = to_all 1 s d b e ∙ sym (to_all 0 s d b e)
        go false e = absurd (omega (arith, room s d p e, tally_le (member (bit_or d (2 ^ top n s d))) n))
    more_fuel (suc k) s d p h = go (eqb s d) refl (unsettled (row P (top n s d)) b) refl (more_fuel k (bit_or s (and_rows (row P (top n s d)))) (bit_or d (2 ^ top n s d)))
      where
        go : (c : Bool) → eqb s d ≡ c → (u : Bool) → unsettled (row P (top n s d)) b ≡ u
            → (Partly n (bit_or s (and_rows (row P (top n s d)))) (bit_or d (2 ^ top n s d)) → n ≤ tally (member (bit_or d (2 ^ top n s d))) n + k
            → worked_to P (suc k) (bit_or s (and_rows (row P (top n s d)))) (bit_or d (2 ^ top n s d)) b ≡ worked_to P k (bit_or s (and_rows (row P (top n s d)))) (bit_or d (2 ^ top n s d)) b)
            → worked_to P (suc (suc k)) s d b ≡ worked_to P (suc k) s d b
        go true e u f rest = to_all (suc (suc k)) s d b e ∙ sym (to_all (suc k) s d b e)
        go false e true f rest = to_open (suc k) s d b e f ∙ sym (to_open k s d b e f)
        go false e false f rest =
            to_on (suc k) s d b e f ∙ rest (partly_ands s d p (top n s d) (taken_top n s d p (not_yet s d e))) (omega (arith, room s d p e)) ∙ sym (to_on k s d b e f)

    -- the same of as many as there are rows, by the row that is taken
    pub stopped_all : (s : ℕ) → stopped P s s b ≡ record { row = n; set = s; worked = s }
    stopped_all s = to_all n s s b (T_eq (eqb s s) (eq_eqb s s refl))

    module _ (s d : ℕ) (p : Partly n s d) (r : ℕ) (t : Taken s d r) where
      not_all : eqb s d ≡ false
      not_all = same_test (eqb s d) false (λ i. T_not (member d r) t.not_worked (subst (λ (k : ℕ). T (member k r)) (eqb→eq s d i) t.in_set)) (λ i. absurd i)

      pub stopped_open : T (unsettled (row P r) b) → stopped P s d b ≡ record { row = r; set = s; worked = d }
      stopped_open u =
          let i = taken_is n s d p r t in
          sym (more_fuel n s d p (omega arith)) ∙ to_open n s d b not_all (T_eq (unsettled (row P (top n s d)) b) (subst (λ (k : ℕ). T (unsettled (row P k) b)) i u))
          ∙ ap (λ (k : ℕ). record { row = k; set = s; worked = d }) (sym i)

      pub stopped_on : T (not (unsettled (row P r) b)) → stopped P s d b ≡ stopped P (bit_or s (and_rows (row P r))) (bit_or d (2 ^ r)) b
      stopped_on u =
          let i = taken_is n s d p r t in
          sym (more_fuel n s d p (omega arith))
          ∙ to_on n s d b not_all (same_test (unsettled (row P (top n s d)) b) false (T_not (unsettled (row P (top n s d)) b) (subst (λ (k : ℕ). T (not (unsettled (row P k) b))) i u)) (λ k. absurd k))
          ∙ ap (λ (k : ℕ). stopped P (bit_or s (and_rows (row P k))) (bit_or d (2 ^ k)) b) (sym i)

  -- where the taking stops, the bound is still the set's completion ..
  pub bounded_stopped : (s d b : ℕ) → Bounded P s d b → Bounded P (stopped P s d b).set (stopped P s d b).worked b × Ends P b (stopped P s d b)
  bounded_stopped s d b y =
      let z = ended b (λ u e. u ≡ u) (λ u e p i t k w. refl) n s d y.partly y.bound_is (omega arith) refl in
      (record { partly = z.partly; bound_is = z.bound_is }, z.ends)

  -- .. and so is it once an operand of the open row is named
  pub bounded_named : (b c : ℕ) (t : Opened) → Bounded P t.set t.worked b → Open P b t → c < n → Bounded P (set_with t c) (worked_with t) (bit_or b (completion P (2 ^ c)))
  bounded_named b c t y i k = record {
    partly = partly_on n t.set t.worked y.partly t.row i.taken (set_with t c) (or_lt n t.set (2 ^ c) y.partly.of_rows (pow-lt k))
        (λ q j. subst T (sym (member_or t.set (2 ^ c) q)) (or_l (member t.set q) (member (2 ^ c) q) j));
    bound_is = ap (λ (i : ℕ). bit_or i (completion P (2 ^ c))) y.bound_is ∙ completion_or P wf t.set (2 ^ c) y.partly.of_rows (pow-lt k);
  }

  -- ---- the sets that are looked at

  pub looked_stopped : (o : ℕ) → o < 2 ^ n → (s d b : ℕ) → Looked P o s d b → Looked P o (stopped P s d b).set (stopped P s d b).worked b × Ends P b (stopped P s d b)
  looked_stopped o h s d b l =
      let z = ended b (WorkedFrom P o) (λ u e p i t k w. onward w (works_on P u e (top n u e) t (subst (λ (c : ℕ). T (not (unsettled (row P (top n u e)) c))) i k)))
      n s d (worked_fulfilled o h s d l.worked_from).partly l.bound_is (omega arith) l.worked_from in
      (record { worked_from = z.holds; bound_is = z.bound_is }, z.ends)

  -- an operand of the open row is named
  pub looked_named : (o : ℕ) → o < 2 ^ n → (s d b r c : ℕ) → Looked P o s d b → Taken s d r → T (unsettled (row P r) b) → (c ≡ operand_a P r) ⊎ (c ≡ operand_b P r) → c < n
      → Looked P o (bit_or s (2 ^ c)) (bit_or d (2 ^ r)) (bit_or b (completion P (2 ^ c)))
  looked_named o h s d b r c l t u which k = record {
    worked_from = onward l.worked_from (works_named P s d r t c (subst (λ (i : ℕ). T (unsettled (row P r) i)) l.bound_is u) which);
    bound_is = ap (λ (i : ℕ). bit_or i (completion P (2 ^ c))) l.bound_is ∙ completion_or P wf s (2 ^ c) (worked_fulfilled o h s d l.worked_from).partly.of_rows (pow-lt k);
  }

  -- a set of which all is worked is the bound, and each of its rows is settled in it
  pub leaf_is : (o : ℕ) → o < 2 ^ n → (s b : ℕ) → Looked P o s s b → (s ≡ b) × ((r : ℕ) → T (member s r) → T (not (unsettled (row P r) s)))
  leaf_is o h s b l =
      let f = worked_fulfilled o h s s l.worked_from in
      let e = all_worked o s f in
      (e ∙ sym l.bound_is, λ r t. subst (λ (i : ℕ). T (not (unsettled (row P r) i))) (sym e) (f.ors r t))
