-- Kinds and sets as states: which state a kind and a set stand for, which sets are collected for the entries and for what follows a state, and that a buffer that
-- has no room for one more state of the model shows that the model has more.
-- Its theorems that rest on a definition which a must-fail edit turns stand in proofs/Theorems/Charting/States.
use Rattle.std.specs.Prelude.{◌≡◌, refl, Bool, true, false, ◌&&◌, ℕ, zero, suc, ◌+◌, ◌*◌, ◌/◌, ◌%◌, ◌^◌, ◌≤◌, ◌<◌, T, eqb, length}
use Rattle.std.proofs.Common.{sym, ap, subst, ◌∙◌, arith, eqb→eq}
use mathlib.Core.List.Memᴰ
use mathlib.Core.List.{List, Memᴰ}
use Rattle.std.proofs.Math.Decide.{dec_lt}
use Rattle.std.proofs.Math.Pow.{pow-lt}
use Rattle.files.specs.Basics.Binary.{value}
use Rattle.files.specs.Basics.Queue.{Once}
use Rattle.files.specs.Basics.Tables.{table, table_e}
use Rattle.files.specs.Basics.Tests.{same_test, one, one_le, eq_eqb, and_l, and_r, and_i, any, any_i, any_e}
use Rattle.files.specs.Interface.{Interface, provides}
use Rattle.files.specs.Interface.Laws.{in_set_small}
use Rattle.files.specs.Property.{Row, Property}
use Rattle.maximal.specs.Collected.{or_count, supports_of}
use Rattle.maximal.specs.Collected.Laws.{supports_are}
use Rattle.maximal.specs.Charting.{flag_of, state_of, stored, kind_at, set_at, Holds, Crowded}
use Rattle.maximal.specs.Masks.{member, rows, asked_of}
use Rattle.maximal.specs.Masks.Laws.{member_one, member_lt, value_rows, rows_value, asked_lt, member_asked}
use Rattle.maximal.specs.Model.{Rows, Minimal, root, asked, State, Entry, Next, is_entry, states}
use Rattle.maximal.specs.Model.Computed.{asked_row, entry_e, entry_i}
use Rattle.maximal.specs.Model.Supports.{length_tab}

-- ---- the state of a kind and a set

-- twice the method and the flag
abbrev pub kind_of : State → ℕ
kind_of s = 2 * s.method + one s.flag

flag_is : (m : ℕ) (f : Bool) → flag_of (2 * m + one f) ≡ f
flag_is m true = let e : (2 * m + 1) % 2 ≡ 1 = omega arith in ap (λ (n : ℕ). eqb n 1) e
flag_is m false = let e : (2 * m + 0) % 2 ≡ 0 = omega arith in ap (λ (n : ℕ). eqb n 1) e

pub state_of_is : (n : ℕ) (s : State) → length s.rows ≡ n → state_of n (kind_of s) (value s.rows) ≡ s
state_of_is n s e =
    let m : kind_of s / 2 ≡ s.method = omega (arith, one_le s.flag) in
    ap (λ (k : ℕ). record { method = k; flag = flag_of (kind_of s); rows = rows n (value s.rows) }) m
    ∙ ap (λ (f : Bool). record { method = s.method; flag = f; rows = rows n (value s.rows) }) (flag_is s.method s.flag)
    ∙ ap (λ (S : Rows). record { method = s.method; flag = s.flag; rows = S }) (rows_value n s.rows e)

-- the flag of a kind, as its last digit
pub one_flag : (k : ℕ) → one (flag_of k) ≡ k % 2
one_flag k = go (k % 2) (omega arith)
  where
    go : (d : ℕ) → d < 2 → one (eqb d 1) ≡ d
    go zero h = refl
    go (suc zero) h = refl
    go (suc (suc d)) h = absurd (omega arith)

pub kind_of_is : (n k u : ℕ) → kind_of (state_of n k u) ≡ k
kind_of_is n k u = omega (arith, one_flag k)

-- a state has one kind and one set
pub state_same : (n a b u v : ℕ) → u < 2 ^ n → v < 2 ^ n → state_of n a u ≡ state_of n b v → (a ≡ b) × (u ≡ v)
state_same n a b u v hu hv e =
    let m : a / 2 ≡ b / 2 = ap (λ (s : State). s.method) e in
    let f : a % 2 ≡ b % 2 = sym (one_flag a) ∙ ap (λ (s : State). one s.flag) e ∙ one_flag b in
    (omega (arith, m, f), sym (value_rows n u hu) ∙ ap (λ (s : State). value s.rows) e ∙ value_rows n v hv)

-- a state of the model has a provided method, and so one of the kinds from 2 to 17
pub kind_provided : (I : Interface) (s : State) → T (provides I s.method) → (2 ≤ kind_of s) × (kind_of s < 18)
kind_provided I s t = let b = in_set_small I.provided s.method t in (omega (arith, b.0), omega (arith, b.1, one_le s.flag))

-- ---- what is collected

module _ (I : Interface) (P : List Row) (wf : Property P) (k : ℕ) (enough : or_count P ≤ k) where
  abbrev pub n : ℕ
  n = length P

  root_lt : 1 < 2 ^ n
  root_lt = pow-lt wf.has_root

  root_is : member 1 ≡ root
  root_is i r = (member_one 0 r ∙ same_test (eqb 0 r) (eqb r 0) (λ t. eq_eqb r 0 (sym (eqb→eq 0 r t))) (λ t. eq_eqb 0 r (sym (eqb→eq r 0 t)))) i

  -- what a set asks for, as a test
  pub asked_is : (u l : ℕ) → member (asked_of P u l) ≡ asked P (rows n u) l
  asked_is u l i r = go (dec_lt r n) i
    where
      go : Dec (r < n) → member (asked_of P u l) r ≡ asked P (rows n u) l r
      go (yes h) = member_asked P u l r h
      go (no h) = same_test (member (asked_of P u l) r) (asked P (rows n u) l r) (λ t. absurd (h (member_lt n (asked_of P u l) r (asked_lt P u l) t)))
          (λ t. absurd (h (asked_row I P wf (rows n u) l r t)))

  -- for {row 0}: the entries
  pub collected_entry : (kind u : ℕ) → T (provides I (kind / 2)) → Memᴰ u (supports_of P k (kind / 2) (flag_of kind) 1) → (u < 2 ^ n) × Entry I P (state_of n kind u)
  collected_entry kind u t i =
      let a = (supports_are P wf (kind / 2) (flag_of kind) 1 root_lt k enough u).0 i in
      (a.0, record { provided = t; minimal = subst (λ (O : ℕ → Bool). Minimal P (kind / 2) (flag_of kind) O (rows n u)) root_is a.1 })

  pub entry_collected : (kind u : ℕ) → u < 2 ^ n → Entry I P (state_of n kind u) → Memᴰ u (supports_of P k (kind / 2) (flag_of kind) 1)
  entry_collected kind u h e =
      (supports_are P wf (kind / 2) (flag_of kind) 1 root_lt k enough u).1 (h, subst (λ (O : ℕ → Bool). Minimal P (kind / 2) (flag_of kind) O (rows n u)) (sym root_is) e.minimal)

  -- for what state (kind₀, v) asks for under a label: what follows it
  module _ (kind₀ v l : ℕ) where
    pub next_collected : (kind u : ℕ) → u < 2 ^ n → Next I P (state_of n kind₀ v) l (state_of n kind u) → Memᴰ u (supports_of P k (kind / 2) (flag_of kind) (asked_of P v l))
    next_collected kind u h x =
        (supports_are P wf (kind / 2) (flag_of kind) (asked_of P v l) (asked_lt P v l) k enough u).1
        (h, subst (λ (O : ℕ → Bool). Minimal P (kind / 2) (flag_of kind) O (rows n u)) (sym (asked_is v l)) x.minimal)

  pub entry_is : (kind u : ℕ) → u < 2 ^ n → is_entry I P (state_of n kind u) ≡ (provides I (kind / 2) && any (λ q. eqb u q) (supports_of P k (kind / 2) (flag_of kind) 1))
  entry_is kind u h = same_test (is_entry I P (state_of n kind u)) (provides I (kind / 2) && any (λ q. eqb u q) xs)
      (λ x. let a = entry_e I P wf (state_of n kind u) (length_tab (member u) n) x in
      and_i (provides I (kind / 2)) (any (λ q. eqb u q) xs) a.provided (any_i (λ q. eqb u q) xs u (entry_collected kind u h a) (eq_eqb u u refl)))
      (λ x. let a = any_e (λ q. eqb u q) xs (and_r (provides I (kind / 2)) (any (λ q. eqb u q) xs) x) in
      entry_i I P wf (state_of n kind u) (collected_entry kind u (and_l (provides I (kind / 2)) (any (λ q. eqb u q) xs) x) (Memᴰ.cast (eqb→eq u a.0 a.2) a.1)).1)
    where
      xs : List ℕ
      xs = supports_of P k (kind / 2) (flag_of kind) 1

-- ---- no room

module _ (I : Interface) (P : List Row) (wf : Property P) (c : ℕ) (w : List ℕ) (h : Holds I P c w) where
  pub stored_once : (a m : ℕ) → a + m ≤ c → Once (table (stored (length P) w) a m)
  stored_once a zero l = tt
  stored_once a (suc m) l = (
    λ i. let b = table_e (stored (length P) w) (suc a) m (stored (length P) w a) i in
        let s = state_same (length P) (kind_at w b.0) (kind_at w a) (set_at w b.0) (set_at w a) (h.known b.0 (omega (arith, b.2))).of_rows (h.known a (omega arith)).of_rows b.3 in
        let e = h.once b.0 a (omega (arith, b.2)) (omega arith) s.0 s.1 in
        omega (arith, e, b.1),
    stored_once (suc a) m (omega arith),
  )

pub crowded_e : (I : Interface) (P : List Row) (n : ℕ) → Crowded I P n → n < length (states I P)
unfolding Crowded
crowded_e I P n h = h
