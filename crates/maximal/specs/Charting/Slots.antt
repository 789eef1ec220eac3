-- A slot without a label, and one that asks as an earlier one did; and that the model is found once all slots are worked, or at once where no method is provided.
-- Its theorems that rest on a definition which a must-fail edit turns stand in proofs/Theorems/Charting/Slots.
use Rattle.std.specs.Prelude.{◌≡◌, Bool, ◌&&◌, List, ℕ, ◌+◌, ◌*◌, ◌-◌, ◌/◌, ◌%◌, ◌^◌, ◌≤◌, ◌<◌, T, eqb, ltb, length}
use Rattle.std.proofs.Common.{sym, ap, ap₂, subst, ◌∙◌, arith, lt→ltb}
use Rattle.std.proofs.Math.Nat.{zero-div}
use Rattle.files.specs.Basics.Tests.{T_eq, and_r}
use Rattle.files.specs.Interface.{Interface, provides}
use Rattle.files.specs.Property.{Row, Property}
use Rattle.maximal.specs.Charting.{stored, Charting, Charted}
use Rattle.maximal.specs.Model.{State, Next, Reached, at_entry, at_next, is_entry, is_next}
use Rattle.maximal.specs.Model.Computed.{label_i}

module _ (I : Interface) (P : List Row) where
  abbrev pub n : ℕ
  n = length P

  -- ---- all slots are worked

  pub charted : (wf : Property P) (c q : ℕ) (w : List ℕ) → 9 * c ≤ q → Charting I P c q w → Charted I P c w
  charted wf c q w all x = record {
    holds = x.holds;
    complete = complete;
    entries_are = λ t h. x.entry_bits t (omega (arith, x.holds.few)) ∙ ap (λ (z : Bool). z && is_entry I P (stored n w t)) (T_eq (ltb t c) (lt→ltb t c h));
    follows_are = λ i l t h m k.
        let p : (9 * i + l) / 9 ≡ i = omega arith in
        let r : (9 * i + l) % 9 ≡ l = omega arith in
        (x.followed (9 * i + l) (omega arith)).bits t (omega (arith, x.holds.few))
        ∙ ap₂ (λ (j z : ℕ). ltb t c && is_next I P (stored n w j) z (stored n w t)) p r
        ∙ ap (λ (z : Bool). z && is_next I P (stored n w i) l (stored n w t)) (T_eq (ltb t c) (lt→ltb t c k));
  }
    where
      onward : (s t : State) (l : ℕ) → Next I P s l t → (i : ℕ) × (i < c) × (stored n w i ≡ s) → (i : ℕ) × (i < c) × (stored n w i ≡ t)
      onward s t l z i =
          let h = (label_i I P wf l z.label).1 in
          let p : (9 * i.0 + l) / 9 ≡ i.0 = omega arith in
          let r : (9 * i.0 + l) % 9 ≡ l = omega arith in
          (x.followed (9 * i.0 + l) (omega (arith, i.1))).all_there t
          (subst (λ (m : ℕ). Next I P (stored n w m) ((9 * i.0 + l) % 9) t) (sym p) (subst (λ (m : ℕ). Next I P (stored n w i.0) m t) (sym r) (subst (λ (e : State). Next I P e l t) (sym i.2) z)))

      complete : (s : State) → Reached I P s → (i : ℕ) × (i < c) × (stored n w i ≡ s)
      complete s (at_entry e) = x.entries_there s e
      complete t (at_next {s = s} {l = l} r z) = onward s t l z (complete s r)

  -- where no method is provided there is no state
  pub charted_none : I.provided ≡ 0 → (w : List ℕ) → Charted I P 0 w
  charted_none none w = record {
    holds = record { few = omega arith; known = λ i h. absurd (omega arith); once = λ i j h. absurd (omega arith) };
    complete = λ s r. absurd (no_state s r);
    entries_are = λ t h. absurd (omega arith);
    follows_are = λ i l t h. absurd (omega arith);
  }
    where
      digit : ℕ → ℕ
      digit m = I.provided / 2 ^ (m - 1)

      no_entry : (m : ℕ) → T (provides I m) → ⊥
      no_entry m t = subst (λ (x : ℕ). T (eqb (x % 2) 1)) (ap (λ (x : ℕ). x / 2 ^ (m - 1)) none ∙ zero-div (2 ^ (m - 1))) (and_r (ltb m 9) (eqb (digit m % 2) 1) (and_r (ltb 0 m) (ltb m 9 && eqb (digit m % 2) 1) t))

      no_state : (s : State) → Reached I P s → ⊥
      no_state s (at_entry e) = no_entry s.method e.provided
      no_state t (at_next {s = s} r z) = no_state s r
