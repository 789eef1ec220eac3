-- For the code that enters a state: what storing a state and marking it in a row of bits changes, and the three ends of `enter`.
use mathlib.Core.Path.{◌≡◌, refl, sym, ap, subst, ◌∙◌}
use mathlib.Core.Logic.{◌⊎◌, inl, inr}
use mathlib.Core.Bool.{Bool, true, false, ◌&&◌, ◌||◌}
use mathlib.Core.List.Memᴰ
use mathlib.Core.List.{List, [], ◌∷◌, Memᴰ}
use Prim.Native.Nat.{ℕ, ◌+◌, ◌*◌, ◌/◌, ◌≤◌, ◌<◌}
use native.Mathlib.Decide.{ℕ_discrete}
use native.Mathlib.Omega.{arith}
use lib.Dec.{T, T_not, not_T, eqb, eqb→eq, ltb, ltb→lt, lt→ltb}
use lib.ListN.{length, get_or}
use Rattle.files.specs.Basics.Least.{least_before, least_hit, least_lt}
use Rattle.files.specs.Basics.Tests.{T_eq, eq_eqb, and_l, and_r, and_i, or_l, or_r}
use Rattle.files.specs.Cells.{put_cell, put_bit}
use Rattle.files.specs.Cells.Laws.{length_put_cell, cell_agree, cell_same, cell_other, cell_apart, byte_outside, bit_byte, bit_same, bit_other, bit_outside}
use Rattle.files.specs.Decode.{decode_property}
use Rattle.files.specs.Interface.{Interface}
use Rattle.files.specs.Property.{Row}
use Rattle.judging.specs.Chains.{Outside}
use Rattle.judging.specs.Sheets.Laws.{least_none}
use Rattle.maximal.specs.Places.{candidates_base, entries_slot, model_room, order_base, sets_end, targets_base, kinds_base, max_states, sets_base}
use Rattle.maximal.specs.declared.places.Scope.{Scope}
use Rattle.maximal.specs.Charting.{Scoped, kind_at, set_at, same_state, found, target, Elsewhere, Known, Holds, Crowded, Admitted}
use Rattle.maximal.specs.Charting.Files.{rows_named}
use Rattle.maximal.specs.Charting.Kept.{off, known_same, holds_same}
use Rattle.maximal.proofs.Theorems.Charting.States.{crowded}
use Rattle.maximal.specs.Charting.Entering.{admitted_unmarked, admitted_both}

-- ---- a state stored, and marked in a row

-- a state that is there, marked
module _ (I : Interface) (P : List Row) (c kind set q : ℕ) (hq : q ≤ entries_slot) (w w' : List ℕ) (h : Holds I P c w) (room : model_room ≤ length w) (t : ℕ) (ht : t < c) (is_kind : kind_at w t ≡ kind) (is_set : set_at w t ≡ set) (e : w' ≡ put_bit w targets_base (max_states * q + t)) where
  abbrev v : List ℕ
  v = put_bit w targets_base (max_states * q + t)

  outside : Outside kinds_base candidates_base w v
  outside b (inl l) = bit_outside w targets_base (max_states * q + t) b (λ z. omega arith)
  outside b (inr l) = bit_outside w targets_base (max_states * q + t) b (λ z. omega (arith, h.few))

  kinds : (i : ℕ) → i < c → kind_at v i ≡ kind_at w i
  kinds i l = cell_agree v w kinds_base 1 i (λ b m n. bit_outside w targets_base (max_states * q + t) b (λ z. omega (arith, h.few)))

  sets : (i : ℕ) → i < c → set_at v i ≡ set_at w i
  sets i l = cell_agree v w sets_base 4 i (λ b m n. bit_outside w targets_base (max_states * q + t) b (λ z. omega (arith, h.few)))

  pub marked_one : Admitted I P c c kind (set ∷ []) q w w' × Outside kinds_base candidates_base w w'
  marked_one = subst (λ (u : List ℕ). Admitted I P c c kind (set ∷ []) q w u × Outside kinds_base candidates_base w u) (sym e) (
    record {
      holds = holds_same I P c w v kinds sets h;
      more = omega arith;
      kinds_kept = kinds;
      sets_kept = sets;
      there = λ u i. at_t u (Memᴰ.cases_cons i);
      marked = λ u l. bit u l (ℕ_discrete u t);
      others_kept = λ p u l m d. bit_other w targets_base (max_states * q + t) (max_states * p + u) (λ z. d (omega (arith, h.few)));
      elsewhere = beside;
    },
    outside,
  )
    where
      at_t : (u : ℕ) → (u ≡ set) ⊎ Memᴰ u [] → (i : ℕ) × (i < c) × (kind_at v i ≡ kind) × (set_at v i ≡ u)
      at_t u (inl z) = (t, ht, kinds t ht ∙ is_kind, sets t ht ∙ is_set ∙ sym z)
      at_t u (inr i) = absurd (Memᴰ.not-nil i)

      beside : Elsewhere w v
      beside b (inl l) = outside b (inl l)
      beside b (inr l) = bit_outside w targets_base (max_states * q + t) b (λ z. omega (arith, l.1))

      is_it : ℕ → Bool
      is_it u = ltb u c && (eqb (kind_at v u) kind && (eqb (set_at v u) set || false))

      -- the state has its place alone
      only : (u : ℕ) → T (is_it u) → u ≡ t
      only u z =
          let l = ltb→lt u c (and_l (ltb u c) (eqb (kind_at v u) kind && (eqb (set_at v u) set || false)) z) in
          let y = and_r (ltb u c) (eqb (kind_at v u) kind && (eqb (set_at v u) set || false)) z in
          let k = eqb→eq (kind_at v u) kind (and_l (eqb (kind_at v u) kind) (eqb (set_at v u) set || false) y) in
          let m = eqb→eq (set_at v u) set (or_none (eqb (set_at v u) set) (and_r (eqb (kind_at v u) kind) (eqb (set_at v u) set || false) y)) in
          h.once u t l ht (sym (kinds u l) ∙ k ∙ sym is_kind) (sym (sets u l) ∙ m ∙ sym is_set)
        where
          or_none : (b : Bool) → T (b || false) → T b
          or_none true z = tt
          or_none false z = absurd z

      it_is : T (is_it t)
      it_is = and_i (ltb t c) (eqb (kind_at v t) kind && (eqb (set_at v t) set || false)) (lt→ltb t c ht)
          (and_i (eqb (kind_at v t) kind) (eqb (set_at v t) set || false) (eq_eqb (kind_at v t) kind (kinds t ht ∙ is_kind)) (or_l (eqb (set_at v t) set) false (eq_eqb (set_at v t) set (sets t ht ∙ is_set))))

      bit : (u : ℕ) → u < max_states → Dec (u ≡ t) → target v q u ≡ (target w q u || is_it u)
      bit u l (yes z) =
          ap (λ (i : ℕ). target v q i) z ∙ bit_same w targets_base (max_states * q + t) (omega (arith, h.few))
          ∙ sym (T_eq (target w q u || is_it u) (or_r (target w q u) (is_it u) (subst (λ (i : ℕ). T (is_it i)) (sym z) it_is)))
      bit u l (no z) =
          bit_other w targets_base (max_states * q + t) (max_states * q + u) (λ d. z (omega arith))
          ∙ sym (or_off (target w q u) (is_it u) (off (is_it u) (λ y. z (only u y))))
        where
          or_off : (a b : Bool) → b ≡ false → (a || b) ≡ a
          or_off true b z = refl
          or_off false b z = z

-- a state that is not there, stored behind the others
module _ (I : Interface) (P : List Row) (c kind set q : ℕ) (hq : q ≤ entries_slot) (w w₁ w₂ : List ℕ) (h : Holds I P c w) (room : model_room ≤ length w) (fits : c < max_states) (x : Known I P kind set) (narrow : set < sets_end) (new : found w c kind set ≡ c)
    (e₁ : w₁ ≡ put_cell w kinds_base 1 c kind) (e₂ : w₂ ≡ put_cell w₁ sets_base 4 c set) where
  abbrev once : List ℕ
  once = put_cell w kinds_base 1 c kind

  abbrev both : List ℕ
  both = put_cell once sets_base 4 c set

  is_both : w₂ ≡ both
  is_both = e₂ ∙ ap (λ (u : List ℕ). put_cell u sets_base 4 c set) e₁

  kinds_before : (i : ℕ) → i < c → kind_at both i ≡ kind_at w i
  kinds_before i l = cell_apart once sets_base 4 c set kinds_base 1 i (inl (omega arith)) ∙ cell_other w kinds_base 1 c i kind (λ z. omega arith)

  sets_before : (i : ℕ) → i < c → set_at both i ≡ set_at w i
  sets_before i l = cell_other once sets_base 4 c i set (λ z. omega arith) ∙ cell_apart w kinds_base 1 c kind sets_base 4 i (inr (omega arith))

  kind_new : kind_at both c ≡ kind
  kind_new = cell_apart once sets_base 4 c set kinds_base 1 c (inl (omega arith)) ∙ cell_same w kinds_base 1 c kind (omega arith) (omega (arith, x.method_to))

  set_new : set_at both c ≡ set
  set_new = cell_same once sets_base 4 c set (omega (arith, length_put_cell w kinds_base 1 c kind)) narrow

  -- every byte but those of the state
  byte_kept : (b : ℕ) → (b < kinds_base) ⊎ (order_base ≤ b) → get_or both b 0 ≡ get_or w b 0
  byte_kept b (inl l) = byte_outside once sets_base 4 c set b (inl (omega arith)) ∙ byte_outside w kinds_base 1 c kind b (inl (omega arith))
  byte_kept b (inr l) = byte_outside once sets_base 4 c set b (inr (omega arith)) ∙ byte_outside w kinds_base 1 c kind b (inr (omega arith))

  below : (i : ℕ) → i < c + 1 → Dec (i ≡ c) → (i ≡ c) ⊎ (i < c)
  below i l (yes z) = inl z
  below i l (no z) = inr (omega arith)

  -- it is not among those before
  apart : (i : ℕ) → i < c → kind_at both i ≡ kind → set_at both i ≡ set → ⊥
  apart i l k m =
      T_not (same_state w kind set i) (least_before (same_state w kind set) c i (subst (λ (n : ℕ). i < n) (sym new) l))
      (and_i (eqb (kind_at w i) kind) (eqb (set_at w i) set) (eq_eqb (kind_at w i) kind (sym (kinds_before i l) ∙ k)) (eq_eqb (set_at w i) set (sym (sets_before i l) ∙ m)))

  holds_new : Holds I P (c + 1) both
  holds_new = record {
    few = omega arith;
    known = λ i l. is_known i (below i l (ℕ_discrete i c));
    once = λ i j l m k n. distinct i j (below i l (ℕ_discrete i c)) (below j m (ℕ_discrete j c)) k n;
  }
    where
      is_known : (i : ℕ) → (i ≡ c) ⊎ (i < c) → Known I P (kind_at both i) (set_at both i)
      is_known i (inl z) = subst (λ (j : ℕ). Known I P (kind_at both j) (set_at both j)) (sym z) (subst (λ (m : ℕ). Known I P m (set_at both c)) (sym kind_new) (subst (Known I P kind) (sym set_new) x))
      is_known i (inr l) = known_same I P c w both kinds_before sets_before i l (h.known i l)

      distinct : (i j : ℕ) → (i ≡ c) ⊎ (i < c) → (j ≡ c) ⊎ (j < c) → kind_at both i ≡ kind_at both j → set_at both i ≡ set_at both j → i ≡ j
      distinct i j (inl a) (inl b) k n = a ∙ sym b
      distinct i j (inl a) (inr b) k n = absurd (apart j b (sym k ∙ ap (kind_at both) a ∙ kind_new) (sym n ∙ ap (set_at both) a ∙ set_new))
      distinct i j (inr a) (inl b) k n = absurd (apart i a (k ∙ ap (kind_at both) b ∙ kind_new) (n ∙ ap (set_at both) b ∙ set_new))
      distinct i j (inr a) (inr b) k n = h.once i j a b (sym (kinds_before i a) ∙ k ∙ kinds_before j b) (sym (sets_before i a) ∙ n ∙ sets_before j b)

  stored_one : Admitted I P c (c + 1) kind [] q w both
  stored_one = admitted_unmarked I P c (c + 1) kind q w both holds_new (omega arith) kinds_before sets_before hq
      (λ p t l m. bit_byte both w targets_base targets_base (max_states * p + t) (byte_kept (targets_base + (max_states * p + t) / 8) (inr (omega arith)))) (λ b d. byte_kept b (side b d))
    where
      side : (b : ℕ) → (b < kinds_base) ⊎ ((order_base ≤ b) × (b < targets_base)) → (b < kinds_base) ⊎ (order_base ≤ b)
      side b (inl l) = inl l
      side b (inr l) = inr l.0

  -- and marked
  pub new_marked : (w₃ : List ℕ) → w₃ ≡ put_bit w₂ targets_base (max_states * q + c) → Admitted I P c (c + 1) kind (set ∷ []) q w w₃ × Outside kinds_base candidates_base w w₃
  new_marked w₃ e =
      let long : length both ≡ length w = length_put_cell once sets_base 4 c set ∙ length_put_cell w kinds_base 1 c kind in
      let m = marked_one I P (c + 1) kind set q hq both w₃ holds_new (omega (arith, long)) c (omega arith) kind_new set_new (e ∙ ap (λ (u : List ℕ). put_bit u targets_base (max_states * q + c)) is_both) in
      (admitted_both I P c (c + 1) (c + 1) kind [] (set ∷ []) q w both w₃ stored_one m.0, λ b d. m.1 b d ∙ byte_kept b (side b d))
    where
      side : (b : ℕ) → (b < kinds_base) ⊎ (candidates_base ≤ b) → (b < kinds_base) ⊎ (order_base ≤ b)
      side b (inl l) = inl l
      side b (inr l) = inr (omega arith)

-- ---- the three ends of `enter`

-- what is known of t states after those of A, from c states on
abbrev pub Entered : Scope → Interface → List Row → ℕ → ℕ → ℕ → List ℕ → ℕ → List ℕ → List ℕ → Type 0
Entered s I P c t kind A q w w' =
    (t ≤ s.states → Admitted I P c t kind A q w w' × Outside kinds_base candidates_base w w') × ((t ≤ s.states + 1) × (s.states < t → Crowded I P s.states))

module _ (s : Scope) (I : Interface) (p : List ℕ) (scoped : Scoped s p) (q c kind set : ℕ) (w : List ℕ) (hq : q ≤ entries_slot) (hc : c ≤ s.states) (room : model_room ≤ length w)
    (h : Holds I (decode_property p) c w) (x : Known I (decode_property p) kind set) (t : ℕ) (is : t ≡ found w c kind set) where
  abbrev P : List Row
  P = decode_property p

  not_found : (t < c → ⊥) → found w c kind set ≡ c
  not_found g = least_none (same_state w kind set) c (λ i l. not_T (same_state w kind set i) (λ z. g (subst (λ (n : ℕ). n < c) (sym is) (least_lt (same_state w kind set) c i l z))))

  pub entered_again : t < c → (w' : List ℕ) → w' ≡ put_bit w targets_base (max_states * q + t) → Entered s I P c c kind (set ∷ []) q w w'
  entered_again l w' e = (λ m. marked_one I P c kind set q hq w w' h room t l (eqb→eq (kind_at w t) kind (and_l (eqb (kind_at w t) kind) (eqb (set_at w t) set) there)) (eqb→eq (set_at w t) set (and_r (eqb (kind_at w t) kind) (eqb (set_at w t) set) there)) e, (omega arith, λ m. absurd (omega arith)))
    where
      there : T (same_state w kind set t)
      there = subst (λ (n : ℕ). T (same_state w kind set n)) (sym is) (least_hit (same_state w kind set) c (subst (λ (n : ℕ). n < c) is l))

  pub entered_past : (t < c → ⊥) → c ≡ s.states → Entered s I P c (c + 1) kind (set ∷ []) q w w
  entered_past g e = (λ m. absurd (omega arith), (omega arith, λ m. subst (Crowded I P) e (crowded I P (rows_named s p scoped) c w h kind set x (not_found g))))

  pub entered_new : (t < c → ⊥) → (c ≡ s.states → ⊥) → set < sets_end → (w₁ w₂ w₃ : List ℕ) → w₁ ≡ put_cell w kinds_base 1 c kind → w₂ ≡ put_cell w₁ sets_base 4 c set → w₃ ≡ put_bit w₂ targets_base (max_states * q + c)
      → Entered s I P c (c + 1) kind (set ∷ []) q w w₃
  entered_new g d narrow w₁ w₂ w₃ e₁ e₂ e₃ =
      (λ m. new_marked I P c kind set q hq w w₁ w₂ h room (omega (arith, scoped.few_states)) x narrow (not_found g) e₁ e₂ w₃ e₃, (omega arith, λ m. absurd (omega arith)))
