-- The theorems of specs/Charting/States that rest on a definition which a must-fail edit turns: there they could not be read under the edit.
-- States: Kinds and sets as states: which state a kind and a set stand for, which sets are collected for the entries and for what follows a state, and that a buffer that
-- has no room for one more state of the model shows that the model has more.
use Rattle.std.specs.Prelude.{◌≡◌, refl, ◌⊎◌, Bool, ◌&&◌, ℕ, ◌/◌, ◌^◌, ◌≤◌, ◌<◌, T, eqb, length}
use Rattle.std.proofs.Common.{sym, subst, inl, inr, arith, T_not, eqb→eq}
use mathlib.Core.List.Memᴰ
use mathlib.Core.List.{List, ◌∷◌, Memᴰ}
use Rattle.files.specs.Basics.Least.{least_before}
use Rattle.files.specs.Basics.Queue.{Once, room}
use Rattle.files.specs.Basics.Tables.{table, table_e, length_table}
use Rattle.files.specs.Basics.Tests.{same_test, eq_eqb, and_l, and_r, and_i, any, any_i, any_e}
use Rattle.files.specs.Interface.{Interface}
use Rattle.files.specs.Property.{Row, Property}
use Rattle.maximal.specs.Collected.{or_count, supports_of}
use Rattle.maximal.specs.Collected.Laws.{supports_are}
use Rattle.maximal.specs.Charting.{flag_of, state_of, stored, kind_at, set_at, same_state, found, Known, Holds, Crowded}
use Rattle.maximal.specs.Masks.{member, rows, asked_of}
use Rattle.maximal.specs.Masks.Laws.{asked_lt}
use Rattle.maximal.specs.Model.{Minimal, State, Next, Reached, is_label, is_next, states}
use Rattle.maximal.specs.Model.Computed.{label_e}
use Rattle.maximal.proofs.Theorems.Model.Computed.{next_e, next_i, states_are}
use Rattle.maximal.proofs.Theorems.Model.Maximal.{reached_provided}
use Rattle.maximal.specs.Model.Supports.{length_tab}
use Rattle.maximal.specs.Charting.States.{asked_is, kind_of_is, kind_provided, n, next_collected, state_same, stored_once}

pub known_i : (I : Interface) (P : List Row) (kind u : ℕ) → u < 2 ^ length P → Reached I P (state_of (length P) kind u) → Known I P kind u
known_i I P kind u h r =
    let b = kind_provided I (state_of (length P) kind u) (reached_provided I P (state_of (length P) kind u) r) in
    record { method_from = omega (arith, b.0, kind_of_is (length P) kind u); method_to = omega (arith, b.1, kind_of_is (length P) kind u); of_rows = h; reached = r }

module _ (I : Interface) (P : List Row) (wf : Property P) (k : ℕ) (enough : or_count P ≤ k) where
  -- for what state (kind₀, v) asks for under a label: what follows it
  module _ (kind₀ v l : ℕ) where
    pub collected_next : (kind u : ℕ) → T (is_label I P l) → kind / 2 ≡ kind₀ / 2 → Memᴰ u (supports_of P k (kind / 2) (flag_of kind) (asked_of P v l))
        → (u < 2 ^ (n I P wf k enough)) × Next I P (state_of (n I P wf k enough) kind₀ v) l (state_of (n I P wf k enough) kind u)
    collected_next kind u t m i =
        let a = (supports_are P wf (kind / 2) (flag_of kind) (asked_of P v l) (asked_lt P v l) k enough u).0 i in
        (a.0, record { label = label_e I P wf l t; same_method = m; minimal = subst (λ (O : ℕ → Bool). Minimal P (kind / 2) (flag_of kind) O (rows (n I P wf k enough) u)) ((asked_is I P wf k enough) v l) a.1 })

    -- the same as a test
    pub next_is : (kind u : ℕ) → u < 2 ^ (n I P wf k enough) → T (is_label I P l)
        → is_next I P (state_of (n I P wf k enough) kind₀ v) l (state_of (n I P wf k enough) kind u) ≡ (eqb (kind / 2) (kind₀ / 2) && any (λ q. eqb u q) (supports_of P k (kind / 2) (flag_of kind) (asked_of P v l)))
    next_is kind u h t = same_test (is_next I P (state_of (n I P wf k enough) kind₀ v) l (state_of (n I P wf k enough) kind u)) (eqb (kind / 2) (kind₀ / 2) && any (λ q. eqb u q) xs)
        (λ x. let a = next_e I P wf (state_of (n I P wf k enough) kind₀ v) l (state_of (n I P wf k enough) kind u) (length_tab (member u) (n I P wf k enough)) x in
        and_i (eqb (kind / 2) (kind₀ / 2)) (any (λ q. eqb u q) xs) (eq_eqb (kind / 2) (kind₀ / 2) a.same_method) (any_i (λ q. eqb u q) xs u ((next_collected I P wf k enough kind₀ v l) kind u h a) (eq_eqb u u refl)))
        (λ x. let a = any_e (λ q. eqb u q) xs (and_r (eqb (kind / 2) (kind₀ / 2)) (any (λ q. eqb u q) xs) x) in
        next_i I P wf (state_of (n I P wf k enough) kind₀ v) l (state_of (n I P wf k enough) kind u)
        (collected_next kind u t (eqb→eq (kind / 2) (kind₀ / 2) (and_l (eqb (kind / 2) (kind₀ / 2)) (any (λ q. eqb u q) xs) x)) (Memᴰ.cast (eqb→eq u a.0 a.2) a.1)).1)
      where
        xs : List ℕ
        xs = supports_of P k (kind / 2) (flag_of kind) (asked_of P v l)

module _ (I : Interface) (P : List Row) (wf : Property P) (c : ℕ) (w : List ℕ) (h : Holds I P c w) where
  -- a state of the model that is not among c shows that there are more than c
  pub crowded : (kind u : ℕ) → Known I P kind u → found w c kind u ≡ c → Crowded I P c
  unfolding Crowded
  crowded kind u x e = omega (arith, room xs (states I P) once inside, length_table (stored (length P) w) 0 c)
    where
      xs : List State
      xs = state_of (length P) kind u ∷ table (stored (length P) w) 0 c

      new : Memᴰ (state_of (length P) kind u) (table (stored (length P) w) 0 c) → ⊥
      new i =
          let b = table_e (stored (length P) w) 0 c (state_of (length P) kind u) i in
          let l : b.0 < c = omega (arith, b.2) in
          let s = state_same (length P) (kind_at w b.0) kind (set_at w b.0) u (h.known b.0 l).of_rows x.of_rows b.3 in
          T_not (same_state w kind u b.0) (least_before (same_state w kind u) c b.0 (subst (λ (m : ℕ). b.0 < m) (sym e) l))
          (and_i (eqb (kind_at w b.0) kind) (eqb (set_at w b.0) u) (eq_eqb (kind_at w b.0) kind s.0) (eq_eqb (set_at w b.0) u s.1))

      once : Once xs
      once = (new, (stored_once I P wf c w h) 0 c (omega arith))

      inside : (s : State) → Memᴰ s xs → Memᴰ s (states I P)
      inside s i = go (Memᴰ.cases_cons i)
        where
          go : (s ≡ state_of (length P) kind u) ⊎ Memᴰ s (table (stored (length P) w) 0 c) → Memᴰ s (states I P)
          go (inl d) = (states_are I P wf s).1 (subst (Reached I P) (sym d) x.reached)
          go (inr j) = let b = table_e (stored (length P) w) 0 c s j in (states_are I P wf s).1 (subst (Reached I P) b.3 (h.known b.0 (omega (arith, b.2))).reached)
