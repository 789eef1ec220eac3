-- The theorems of specs/Charting/Slots that rest on a definition which a must-fail edit turns: there they could not be read under the edit.
-- Slots: A slot without a label, and one that asks as an earlier one did; and that the model is found once all slots are worked, or at once where no method is provided.
use Rattle.std.specs.Prelude.{◌≡◌, ◌⊎◌, Bool, false, not, ◌&&◌, List, ℕ, ◌+◌, ◌*◌, ◌/◌, ◌%◌, ◌^◌, ◌≤◌, ◌<◌, T, eqb, ltb, length, get_or}
use Rattle.std.proofs.Common.{sym, ap, ap₂, subst, ◌∙◌, inl, inr, arith, T_not, ltb→lt}
use Rattle.std.proofs.Math.Decide.{dec_lt, ℕ_discrete}
use Rattle.files.specs.Basics.Binary.{value}
use Rattle.files.specs.Basics.Tests.{decide, and_l, and_r, any}
use Rattle.files.specs.Interface.{Interface}
use Rattle.files.specs.Places.{line_bytes}
use Rattle.files.specs.Property.{Row, Property}
use Rattle.maximal.specs.Collected.{or_count, supports_of}
use Rattle.maximal.specs.Charting.{flag_of, kind_at, set_at, state_of, stored, method_at, asked_at, target, Followed, Charting, Asking}
use Rattle.maximal.specs.Charting.Kept.{off, holds_same, stored_same, tested_same, there_same, followed_same, row_kinds, row_sets, row_methods, row_asked, row_others}
use Rattle.maximal.specs.Charting.States.{kind_of, state_of_is}
use Rattle.maximal.proofs.Theorems.Charting.States.{next_is}
use Rattle.maximal.specs.Masks.{member, asked_of}
use Rattle.maximal.specs.Masks.Laws.{value_lt}
use Rattle.maximal.specs.Model.{State, Next, is_entry, is_label, is_next}
use Rattle.maximal.specs.Model.Computed.{label_i}
use Rattle.maximal.proofs.Theorems.Model.Computed.{next_e, next_i}
use Rattle.maximal.specs.Model.Supports.{length_tab}
use Rattle.maximal.specs.Places.{entries_slot, slots, targets_base, max_states}
use Rattle.maximal.specs.Charting.Slots.{n}

module _ (I : Interface) (P : List Row) where
  -- ---- a slot without a label, and one that asks as an earlier one did

  pub followed_none : (wf : Property P) (c q : ℕ) (w : List ℕ) → ((t : ℕ) → t < max_states → target w q t ≡ false) → method_at w q ≡ 0 → (T (is_label I P (q % 9)) → ⊥) → Charting I P c q w → Charting I P c (q + 1) w
  followed_none wf c q w blank none no_label x = record {
    holds = x.holds;
    entry_bits = x.entry_bits;
    entries_there = x.entries_there;
    followed = λ p l. each p l (ℕ_discrete p q);
  }
    where
      unlabelled : (t : ℕ) → T (ltb t c && is_next I P (stored (n I P) w (q / 9)) (q % 9) (stored (n I P) w t)) → ⊥
      unlabelled t z =
          no_label (label_i I P wf (q % 9) (next_e I P wf (stored (n I P) w (q / 9)) (q % 9) (stored (n I P) w t) (length_tab (member (set_at w t)) (n I P))
          (and_r (ltb t c) (is_next I P (stored (n I P) w (q / 9)) (q % 9) (stored (n I P) w t)) z)).label).0

      each : (p : ℕ) → p < q + 1 → Dec (p ≡ q) → Followed I P c w p
      each p l (no d) = x.followed p (omega arith)
      each p l (yes d) = subst (Followed I P c w) (sym d) (record {
        bits = λ t m. blank t m ∙ sym (off (ltb t c && is_next I P (stored (n I P) w (q / 9)) (q % 9) (stored (n I P) w t)) (unlabelled t));
        all_there = λ s z. absurd (no_label (label_i I P wf (q % 9) z.label).0);
        method_is = λ t. absurd (no_label t);
        no_method = λ t. none;
        asked_is = λ t. absurd (no_label t);
      })

  -- what follows depends on the method and on what is asked for alone
  module _ (wf : Property P) (k : ℕ) (enough : or_count P ≤ k) (a u l b v m : ℕ) (same_method : a / 2 ≡ b / 2) (same_set : asked_of P u l ≡ asked_of P v m) (label : T (is_label I P l)) (label' : T (is_label I P m)) where
    follows_alike : (kind e : ℕ) → e < 2 ^ (n I P) → is_next I P (state_of (n I P) a u) l (state_of (n I P) kind e) ≡ is_next I P (state_of (n I P) b v) m (state_of (n I P) kind e)
    follows_alike kind e h =
        next_is I P wf k enough a u l kind e h label
        ∙ ap₂ (λ (i o : ℕ). eqb (kind / 2) i && any (λ z. eqb e z) (supports_of P k (kind / 2) (flag_of kind) o)) same_method same_set
        ∙ sym (next_is I P wf k enough b v m kind e h label')

    next_alike : (s : State) → Next I P (state_of (n I P) b v) m s → Next I P (state_of (n I P) a u) l s
    next_alike s z =
        let r : length s.rows ≡ (n I P) = z.minimal.support.of_rows in
        let is = state_of_is (n I P) s r in
        let h : value s.rows < 2 ^ (n I P) = subst (λ (i : ℕ). value s.rows < 2 ^ i) r (value_lt s.rows) in
        next_e I P wf (state_of (n I P) a u) l s r (subst (λ (e : State). T (is_next I P (state_of (n I P) a u) l e)) is
        (subst T (sym (follows_alike (kind_of s) (value s.rows) h)) (next_i I P wf (state_of (n I P) b v) m (state_of (n I P) (kind_of s) (value s.rows)) (subst (Next I P (state_of (n I P) b v) m) (sym is) z))))

  -- row q made as that of an earlier slot p with the same method that asks for the same set
  pub followed_again : (wf : Property P) (k : ℕ) (enough : or_count P ≤ k) (c q method set p : ℕ) (w w' : List ℕ) → q < 9 * c → p < q → 0 < method → method_at w p ≡ method → asked_at w p ≡ set
      → Asking I P c q method set w → ((t : ℕ) → t < max_states → target w' q t ≡ target w p t) → ((b : ℕ) → (b < targets_base + line_bytes * q) ⊎ (targets_base + line_bytes * q + line_bytes ≤ b) → get_or w' b 0 ≡ get_or w b 0)
      → Charting I P c (q + 1) w'
  followed_again wf k enough c q method set p w w' in_slots pq pos at_p asked_p asking row rest = record {
    holds = holds_same I P c w w' kind_same set_same x.holds;
    entry_bits = λ t m. other entries_slot t (omega arith) m (λ e. omega arith) ∙ x.entry_bits t m ∙ test (is_entry I P) t;
    entries_there = λ s e. moved s (x.entries_there s e);
    followed = λ i h. each i h (ℕ_discrete i q);
  }
    where
      x : Charting I P c q w
      x = asking.charting

      in_rows : q < slots
      in_rows = omega (arith, x.holds.few)

      kind_same : (i : ℕ) → i < c → kind_at w' i ≡ kind_at w i
      kind_same i h = row_kinds q w w' rest i (omega (arith, x.holds.few))

      set_same : (i : ℕ) → i < c → set_at w' i ≡ set_at w i
      set_same i h = row_sets q w w' rest i (omega (arith, x.holds.few))

      method_same : (i : ℕ) → i < slots → method_at w' i ≡ method_at w i
      method_same = row_methods q w w' rest

      asked_same : (i : ℕ) → i < slots → asked_at w' i ≡ asked_at w i
      asked_same = row_asked q w w' rest

      other : (i t : ℕ) → i ≤ entries_slot → t < max_states → (i ≡ q → ⊥) → target w' i t ≡ target w i t
      other = row_others q w w' rest

      test : (f : State → Bool) (t : ℕ) → (ltb t c && f (stored (n I P) w t)) ≡ (ltb t c && f (stored (n I P) w' t))
      test = tested_same I P c w w' kind_same set_same

      moved : (s : State) → (t : ℕ) × (t < c) × (stored (n I P) w t ≡ s) → (t : ℕ) × (t < c) × (stored (n I P) w' t ≡ s)
      moved = there_same I P c w w' kind_same set_same

      here : q / 9 < c
      here = omega arith

      there : p / 9 < c
      there = omega arith

      f : Followed I P c w p
      f = x.followed p pq

      -- the earlier slot has a label, since it has a method
      label_p : T (is_label I P (p % 9))
      label_p = go (decide (is_label I P (p % 9)))
        where
          go : T (is_label I P (p % 9)) ⊎ T (not (is_label I P (p % 9))) → T (is_label I P (p % 9))
          go (inl t) = t
          go (inr t) = absurd (omega (arith, pos, at_p, f.no_method (T_not (is_label I P (p % 9)) t)))

      same_method : kind_at w (p / 9) / 2 ≡ kind_at w (q / 9) / 2
      same_method = sym (f.method_is label_p) ∙ at_p ∙ asking.of_method

      same_set : asked_of P (set_at w (p / 9)) (p % 9) ≡ asked_of P (set_at w (q / 9)) (q % 9)
      same_set = sym (f.asked_is label_p) ∙ asked_p ∙ asking.of_set

      alike : (t : ℕ) → (ltb t c && is_next I P (stored (n I P) w (p / 9)) (p % 9) (stored (n I P) w t)) ≡ (ltb t c && is_next I P (stored (n I P) w (q / 9)) (q % 9) (stored (n I P) w t))
      alike t = go (dec_lt t c)
        where
          go : Dec (t < c) → (ltb t c && is_next I P (stored (n I P) w (p / 9)) (p % 9) (stored (n I P) w t)) ≡ (ltb t c && is_next I P (stored (n I P) w (q / 9)) (q % 9) (stored (n I P) w t))
          go (yes h) = ap (λ (z : Bool). ltb t c && z) (follows_alike wf k enough (kind_at w (p / 9)) (set_at w (p / 9)) (p % 9) (kind_at w (q / 9)) (set_at w (q / 9)) (q % 9) same_method same_set label_p asking.label (kind_at w t) (set_at w t) (x.holds.known t h).of_rows)
          go (no h) = off (ltb t c && is_next I P (stored (n I P) w (p / 9)) (p % 9) (stored (n I P) w t)) (λ z. h (ltb→lt t c (and_l (ltb t c) _ z))) ∙ sym (off (ltb t c && is_next I P (stored (n I P) w (q / 9)) (q % 9) (stored (n I P) w t)) (λ z. h (ltb→lt t c (and_l (ltb t c) _ z))))

      each : (i : ℕ) → i < q + 1 → Dec (i ≡ q) → Followed I P c w' i
      each i h (no d) =
          followed_same I P c w w' kind_same set_same i (omega arith) (λ t m. other i t (omega (arith, in_rows)) m d) (method_same i (omega (arith, in_rows))) (asked_same i (omega (arith, in_rows)))
          (x.followed i (omega arith))
      each i h (yes d) = subst (Followed I P c w') (sym d) (record {
        bits = λ t m. row t m ∙ f.bits t m ∙ alike t ∙ ap (λ (s : State). ltb t c && is_next I P s (q % 9) (stored (n I P) w t)) (sym (stored_same I P c w w' kind_same set_same (q / 9) here)) ∙ test (is_next I P (stored (n I P) w' (q / 9)) (q % 9)) t;
        all_there = λ s z. moved s (f.all_there s (next_alike wf k enough (kind_at w (p / 9)) (set_at w (p / 9)) (p % 9) (kind_at w (q / 9)) (set_at w (q / 9)) (q % 9) same_method same_set label_p asking.label s
            (subst (λ (e : State). Next I P e (q % 9) s) (stored_same I P c w w' kind_same set_same (q / 9) here) z)));
        method_is = λ t. method_same q in_rows ∙ asking.method_is ∙ asking.of_method ∙ ap (λ (m : ℕ). m / 2) (sym (kind_same (q / 9) here));
        no_method = λ t. absurd (t asking.label);
        asked_is = λ t. asked_same q in_rows ∙ asking.asked_is ∙ asking.of_set ∙ ap (λ (m : ℕ). asked_of P m (q % 9)) (sym (set_same (q / 9) here));
      })
