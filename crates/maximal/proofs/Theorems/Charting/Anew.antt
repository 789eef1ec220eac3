-- The theorems of specs/Charting/Anew that rest on a definition which a must-fail edit turns: there they could not be read under the edit.
-- Anew: A slot that is worked anew: once the minimal supports of what it asks for are entered with either flag, its row has what follows its state.
use Rattle.std.specs.Prelude.{◌≡◌, ◌⊎◌, Bool, ◌&&◌, ◌||◌, ℕ, ◌+◌, ◌*◌, ◌/◌, ◌^◌, ◌≤◌, ◌<◌, T, eqb, ltb, length}
use Rattle.std.proofs.Common.{sym, ap, ap₂, subst, ◌∙◌, inl, inr, arith, eqb→eq, ltb→lt, lt→ltb}
use mathlib.Core.List.{List, Memᴰ}
use Rattle.std.proofs.Math.Decide.{ℕ_discrete}
use Rattle.files.specs.Basics.Binary.{value}
use Rattle.files.specs.Basics.Tests.{same_test, one_le, eq_eqb, and_l, and_r, and_i, or_e, or_l, or_r, any, any_e}
use Rattle.files.specs.Interface.{Interface}
use Rattle.files.specs.Property.{Row, Property}
use Rattle.maximal.specs.Collected.{or_count, supports_of}
use Rattle.maximal.specs.Charting.{flag_of, kind_at, set_at, state_of, stored, target, Admitted, Followed, Charting, Asking}
use Rattle.maximal.specs.Charting.States.{kind_of, state_of_is, next_collected}
use Rattle.maximal.proofs.Theorems.Charting.States.{next_is}
use Rattle.maximal.specs.Masks.Laws.{value_lt}
use Rattle.maximal.specs.Model.{State, Entry, Next, is_entry, is_next}
use Rattle.maximal.specs.Charting.Entering.{still_there, method_kept, asked_kept, entry_bits_kept}
use Rattle.maximal.proofs.Theorems.Charting.Entering.{followed_kept}
use Rattle.maximal.specs.Places.{entries_slot, max_states}
use Rattle.maximal.specs.Charting.Anew.{chart, here, here_too, in_list, in_rows, l, n, of_kind, of_method, of_set, place, sets, s₀}

module _ (I : Interface) (P : List Row) where
  module _ (wf : Property P) (k : ℕ) (enough : or_count P ≤ k) (c a b q method set : ℕ) (w v w' : List ℕ) (in_slots : q < 9 * c) (asking : Asking I P c q method set w)
      (x : Admitted I P c a (2 * method) (supports_of P k (2 * method / 2) (flag_of (2 * method)) set) q w v)
      (y : Admitted I P a b (2 * method + 1) (supports_of P k ((2 * method + 1) / 2) (flag_of (2 * method + 1)) set) q v w') where
    next_test : (t : ℕ) → t < b → is_next I P (s₀ I P wf k enough c a b q method set w v w' in_slots asking x y) (l I P wf k enough c a b q method set w v w' in_slots asking x y) (stored (n I P) w' t) ≡ (eqb (kind_at w' t / 2) method && any (λ u. eqb (set_at w' t) u) ((sets I P wf k enough c a b q method set w v w' in_slots asking x y) (kind_at w' t)))
    next_test t h =
        next_is I P wf k enough (kind_at w' (q / 9)) (set_at w' (q / 9)) (l I P wf k enough c a b q method set w v w' in_slots asking x y) (kind_at w' t) (set_at w' t) (y.holds.known t h).of_rows asking.label
        ∙ ap₂ (λ (m o : ℕ). eqb (kind_at w' t / 2) m && any (λ u. eqb (set_at w' t) u) (supports_of P k (kind_at w' t / 2) (flag_of (kind_at w' t)) o)) (of_method I P wf k enough c a b q method set w v w' in_slots asking x y) (of_set I P wf k enough c a b q method set w v w' in_slots asking x y)

    row_bits : (t : ℕ) → t < max_states → target w' q t ≡ (ltb t b && is_next I P (s₀ I P wf k enough c a b q method set w v w' in_slots asking x y) (l I P wf k enough c a b q method set w v w' in_slots asking x y) (stored (n I P) w' t))
    row_bits t m = y.marked t m ∙ ap (λ (z : Bool). z || (ltb t b && (in_list I P wf k enough c a b q method set w v w' in_slots asking x y) (kind_at w' t) (set_at w' t) (2 * method + 1))) (x.marked t m ∙ ap (λ (z : Bool). z || (ltb t a && (in_list I P wf k enough c a b q method set w v w' in_slots asking x y) (kind_at v t) (set_at v t) (2 * method))) (asking.blank t m))
        ∙ same_test ((ltb t a && (in_list I P wf k enough c a b q method set w v w' in_slots asking x y) (kind_at v t) (set_at v t) (2 * method)) || (ltb t b && (in_list I P wf k enough c a b q method set w v w' in_slots asking x y) (kind_at w' t) (set_at w' t) (2 * method + 1))) (ltb t b && is_next I P (s₀ I P wf k enough c a b q method set w v w' in_slots asking x y) (l I P wf k enough c a b q method set w v w' in_slots asking x y) (stored (n I P) w' t))
        (λ z. forth (or_e (ltb t a && (in_list I P wf k enough c a b q method set w v w' in_slots asking x y) (kind_at v t) (set_at v t) (2 * method)) (ltb t b && (in_list I P wf k enough c a b q method set w v w' in_slots asking x y) (kind_at w' t) (set_at w' t) (2 * method + 1)) z))
        (λ z. back (ltb→lt t b (and_l (ltb t b) (is_next I P (s₀ I P wf k enough c a b q method set w v w' in_slots asking x y) (l I P wf k enough c a b q method set w v w' in_slots asking x y) (stored (n I P) w' t)) z)) (and_r (ltb t b) (is_next I P (s₀ I P wf k enough c a b q method set w v w' in_slots asking x y) (l I P wf k enough c a b q method set w v w' in_slots asking x y) (stored (n I P) w' t)) z))
      where
        follows : (kind : ℕ) → kind / 2 ≡ method → t < b → T ((in_list I P wf k enough c a b q method set w v w' in_slots asking x y) (kind_at w' t) (set_at w' t) kind) → T (ltb t b && is_next I P (s₀ I P wf k enough c a b q method set w v w' in_slots asking x y) (l I P wf k enough c a b q method set w v w' in_slots asking x y) (stored (n I P) w' t))
        follows kind e h z =
            let d = eqb→eq (kind_at w' t) kind (and_l (eqb (kind_at w' t) kind) (any (λ u. eqb (set_at w' t) u) ((sets I P wf k enough c a b q method set w v w' in_slots asking x y) kind)) z) in
            and_i (ltb t b) (is_next I P (s₀ I P wf k enough c a b q method set w v w' in_slots asking x y) (l I P wf k enough c a b q method set w v w' in_slots asking x y) (stored (n I P) w' t)) (lt→ltb t b h) (subst T (sym (next_test t h))
            (and_i (eqb (kind_at w' t / 2) method) (any (λ u. eqb (set_at w' t) u) ((sets I P wf k enough c a b q method set w v w' in_slots asking x y) (kind_at w' t))) (eq_eqb (kind_at w' t / 2) method (ap (λ (i : ℕ). i / 2) d ∙ e))
            (subst (λ (i : ℕ). T (any (λ u. eqb (set_at w' t) u) ((sets I P wf k enough c a b q method set w v w' in_slots asking x y) i))) (sym d) (and_r (eqb (kind_at w' t) kind) (any (λ u. eqb (set_at w' t) u) ((sets I P wf k enough c a b q method set w v w' in_slots asking x y) kind)) z))))

        forth : T (ltb t a && (in_list I P wf k enough c a b q method set w v w' in_slots asking x y) (kind_at v t) (set_at v t) (2 * method)) ⊎ T (ltb t b && (in_list I P wf k enough c a b q method set w v w' in_slots asking x y) (kind_at w' t) (set_at w' t) (2 * method + 1)) → T (ltb t b && is_next I P (s₀ I P wf k enough c a b q method set w v w' in_slots asking x y) (l I P wf k enough c a b q method set w v w' in_slots asking x y) (stored (n I P) w' t))
        forth (inl z) =
            let h = ltb→lt t a (and_l (ltb t a) ((in_list I P wf k enough c a b q method set w v w' in_slots asking x y) (kind_at v t) (set_at v t) (2 * method)) z) in
            follows (2 * method) (omega arith) (omega (arith, y.more)) (subst T (ap₂ (λ (i e : ℕ). (in_list I P wf k enough c a b q method set w v w' in_slots asking x y) i e (2 * method)) (sym (y.kinds_kept t h)) (sym (y.sets_kept t h))) (and_r (ltb t a) ((in_list I P wf k enough c a b q method set w v w' in_slots asking x y) (kind_at v t) (set_at v t) (2 * method)) z))
        forth (inr z) = follows (2 * method + 1) (omega arith) (ltb→lt t b (and_l (ltb t b) ((in_list I P wf k enough c a b q method set w v w' in_slots asking x y) (kind_at w' t) (set_at w' t) (2 * method + 1)) z)) (and_r (ltb t b) ((in_list I P wf k enough c a b q method set w v w' in_slots asking x y) (kind_at w' t) (set_at w' t) (2 * method + 1)) z)

        back : t < b → T (is_next I P (s₀ I P wf k enough c a b q method set w v w' in_slots asking x y) (l I P wf k enough c a b q method set w v w' in_slots asking x y) (stored (n I P) w' t)) → T ((ltb t a && (in_list I P wf k enough c a b q method set w v w' in_slots asking x y) (kind_at v t) (set_at v t) (2 * method)) || (ltb t b && (in_list I P wf k enough c a b q method set w v w' in_slots asking x y) (kind_at w' t) (set_at w' t) (2 * method + 1)))
        back h z = go ((of_kind I P wf k enough c a b q method set w v w' in_slots asking x y) (kind_at w' t) e)
          where
            both : T (eqb (kind_at w' t / 2) method && any (λ u. eqb (set_at w' t) u) ((sets I P wf k enough c a b q method set w v w' in_slots asking x y) (kind_at w' t)))
            both = subst T (next_test t h) z

            e : kind_at w' t / 2 ≡ method
            e = eqb→eq (kind_at w' t / 2) method (and_l (eqb (kind_at w' t / 2) method) (any (λ u. eqb (set_at w' t) u) ((sets I P wf k enough c a b q method set w v w' in_slots asking x y) (kind_at w' t))) both)

            listed : T (any (λ u. eqb (set_at w' t) u) ((sets I P wf k enough c a b q method set w v w' in_slots asking x y) (kind_at w' t)))
            listed = and_r (eqb (kind_at w' t / 2) method) (any (λ u. eqb (set_at w' t) u) ((sets I P wf k enough c a b q method set w v w' in_slots asking x y) (kind_at w' t))) both

            is_in : (kind : ℕ) → kind_at w' t ≡ kind → T ((in_list I P wf k enough c a b q method set w v w' in_slots asking x y) (kind_at w' t) (set_at w' t) kind)
            is_in kind d = and_i (eqb (kind_at w' t) kind) (any (λ u. eqb (set_at w' t) u) ((sets I P wf k enough c a b q method set w v w' in_slots asking x y) kind)) (eq_eqb (kind_at w' t) kind d) (subst (λ (i : ℕ). T (any (λ u. eqb (set_at w' t) u) ((sets I P wf k enough c a b q method set w v w' in_slots asking x y) i))) d listed)

            go : (kind_at w' t ≡ 2 * method) ⊎ (kind_at w' t ≡ 2 * method + 1) → T ((ltb t a && (in_list I P wf k enough c a b q method set w v w' in_slots asking x y) (kind_at v t) (set_at v t) (2 * method)) || (ltb t b && (in_list I P wf k enough c a b q method set w v w' in_slots asking x y) (kind_at w' t) (set_at w' t) (2 * method + 1)))
            go (inr d) = or_r (ltb t a && (in_list I P wf k enough c a b q method set w v w' in_slots asking x y) (kind_at v t) (set_at v t) (2 * method)) (ltb t b && (in_list I P wf k enough c a b q method set w v w' in_slots asking x y) (kind_at w' t) (set_at w' t) (2 * method + 1))
                (and_i (ltb t b) ((in_list I P wf k enough c a b q method set w v w' in_slots asking x y) (kind_at w' t) (set_at w' t) (2 * method + 1)) (lt→ltb t b h) (is_in (2 * method + 1) d))
            go (inl d) =
                let u = any_e (λ u. eqb (set_at w' t) u) ((sets I P wf k enough c a b q method set w v w' in_slots asking x y) (kind_at w' t)) listed in
                let i = (place I P wf k enough c a b q method set w v w' in_slots asking x y) (kind_at w' t) u.0 e u.1 in
                let f : t < a = subst (λ (m : ℕ). m < a) (y.holds.once i.0 t i.1 h i.2 (i.3 ∙ sym (eqb→eq (set_at w' t) u.0 u.2))) (i.4 d) in
                or_l (ltb t a && (in_list I P wf k enough c a b q method set w v w' in_slots asking x y) (kind_at v t) (set_at v t) (2 * method)) (ltb t b && (in_list I P wf k enough c a b q method set w v w' in_slots asking x y) (kind_at w' t) (set_at w' t) (2 * method + 1)) (and_i (ltb t a) ((in_list I P wf k enough c a b q method set w v w' in_slots asking x y) (kind_at v t) (set_at v t) (2 * method)) (lt→ltb t a f) (subst T (ap₂ (λ (i e : ℕ). (in_list I P wf k enough c a b q method set w v w' in_slots asking x y) i e (2 * method)) (y.kinds_kept t f) (y.sets_kept t f)) (is_in (2 * method) d)))

    row_there : (s : State) → Next I P (s₀ I P wf k enough c a b q method set w v w' in_slots asking x y) (l I P wf k enough c a b q method set w v w' in_slots asking x y) s → (t : ℕ) × (t < b) × (stored (n I P) w' t ≡ s)
    row_there s z =
        let r : length s.rows ≡ (n I P) = z.minimal.support.of_rows in
        let is = state_of_is (n I P) s r in
        let e : kind_of s / 2 ≡ method = omega (arith, one_le s.flag, z.same_method, (of_method I P wf k enough c a b q method set w v w' in_slots asking x y)) in
        let m = next_collected I P wf k enough (kind_at w' (q / 9)) (set_at w' (q / 9)) (l I P wf k enough c a b q method set w v w' in_slots asking x y) (kind_of s) (value s.rows) (subst (λ (i : ℕ). value s.rows < 2 ^ i) r (value_lt s.rows)) (subst (Next I P (s₀ I P wf k enough c a b q method set w v w' in_slots asking x y) (l I P wf k enough c a b q method set w v w' in_slots asking x y)) (sym is) z) in
        let i = (place I P wf k enough c a b q method set w v w' in_slots asking x y) (kind_of s) (value s.rows) e (subst (λ (o : ℕ). Memᴰ (value s.rows) (supports_of P k (kind_of s / 2) (flag_of (kind_of s)) o)) (of_set I P wf k enough c a b q method set w v w' in_slots asking x y) m) in
        (i.0, i.1, ap₂ (λ (j u : ℕ). state_of (n I P) j u) i.2 i.3 ∙ is)

    -- with what follows it by either flag, the slot is worked
    pub followed_anew : Charting I P b (q + 1) w'
    followed_anew = record {
      holds = y.holds;
      entry_bits = entry_bits_kept I P wf a b (2 * method + 1) ((sets I P wf k enough c a b q method set w v w' in_slots asking x y) (2 * method + 1)) q v w' y (λ e. omega (arith, (in_rows I P wf k enough c a b q method set w v w' in_slots asking x y))) entry_bits_first entries_first;
      entries_there = λ s e. still_there I P wf a b (2 * method + 1) ((sets I P wf k enough c a b q method set w v w' in_slots asking x y) (2 * method + 1)) q v w' y s (entries_first s e);
      followed = λ p h. each p h (ℕ_discrete p q);
    }
      where
        entry_bits_first : (t : ℕ) → t < max_states → target v entries_slot t ≡ (ltb t a && is_entry I P (stored (n I P) v t))
        entry_bits_first = entry_bits_kept I P wf c a (2 * method) ((sets I P wf k enough c a b q method set w v w' in_slots asking x y) (2 * method)) q w v x (λ e. omega (arith, (in_rows I P wf k enough c a b q method set w v w' in_slots asking x y))) (chart I P wf k enough c a b q method set w v w' in_slots asking x y).entry_bits (chart I P wf k enough c a b q method set w v w' in_slots asking x y).entries_there

        entries_first : (s : State) → Entry I P s → (t : ℕ) × (t < a) × (stored (n I P) v t ≡ s)
        entries_first s e = still_there I P wf c a (2 * method) ((sets I P wf k enough c a b q method set w v w' in_slots asking x y) (2 * method)) q w v x s ((chart I P wf k enough c a b q method set w v w' in_slots asking x y).entries_there s e)

        each : (p : ℕ) → p < q + 1 → Dec (p ≡ q) → Followed I P b w' p
        each p h (no d) =
            followed_kept I P wf a b (2 * method + 1) ((sets I P wf k enough c a b q method set w v w' in_slots asking x y) (2 * method + 1)) q v w' y p (omega (arith, (in_rows I P wf k enough c a b q method set w v w' in_slots asking x y))) d (omega (arith, (here_too I P wf k enough c a b q method set w v w' in_slots asking x y)))
            (followed_kept I P wf c a (2 * method) ((sets I P wf k enough c a b q method set w v w' in_slots asking x y) (2 * method)) q w v x p (omega (arith, (in_rows I P wf k enough c a b q method set w v w' in_slots asking x y))) d (omega (arith, (here I P wf k enough c a b q method set w v w' in_slots asking x y))) ((chart I P wf k enough c a b q method set w v w' in_slots asking x y).followed p (omega arith)))
        each p h (yes d) = subst (Followed I P b w') (sym d) (record {
          bits = row_bits;
          all_there = row_there;
          method_is = λ t. method_kept I P wf a b (2 * method + 1) ((sets I P wf k enough c a b q method set w v w' in_slots asking x y) (2 * method + 1)) q v w' y q (in_rows I P wf k enough c a b q method set w v w' in_slots asking x y) ∙ method_kept I P wf c a (2 * method) ((sets I P wf k enough c a b q method set w v w' in_slots asking x y) (2 * method)) q w v x q (in_rows I P wf k enough c a b q method set w v w' in_slots asking x y) ∙ asking.method_is ∙ sym (of_method I P wf k enough c a b q method set w v w' in_slots asking x y);
          no_method = λ t. absurd (t asking.label);
          asked_is = λ t. asked_kept I P wf a b (2 * method + 1) ((sets I P wf k enough c a b q method set w v w' in_slots asking x y) (2 * method + 1)) q v w' y q (in_rows I P wf k enough c a b q method set w v w' in_slots asking x y) ∙ asked_kept I P wf c a (2 * method) ((sets I P wf k enough c a b q method set w v w' in_slots asking x y) (2 * method)) q w v x q (in_rows I P wf k enough c a b q method set w v w' in_slots asking x y) ∙ asking.asked_is ∙ sym (of_set I P wf k enough c a b q method set w v w' in_slots asking x y);
        })
