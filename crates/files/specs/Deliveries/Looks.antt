-- What the checks of a record of deliveries find: an opening by its fields; any other record as a record of the graph that starts behind its opening.
use Rattle.std.specs.Prelude.{◌≡◌, ◌⊎◌, Bool, cond, ◌&&◌, ◌||◌, List, ℕ, zero, suc, ◌+◌, ◌-◌, ◌≤◌, ◌<◌, eqb, Err, Option, Some, None, is_some}
use Rattle.std.proofs.Math.Path.{refl, ap}
use Rattle.std.proofs.Common.{sym, ap₂, subst, ◌∙◌, inl, inr, zero-add, arith, ne_eqb}
use Rattle.std.proofs.Math.Bool.{true, false, not, or-false}
use Rattle.files.specs.Basics.Lexical.{before}
use Rattle.files.specs.Checking.{test, found_at}
use Rattle.files.specs.Checking.Laws.{looked_is}
use Rattle.files.specs.Deliveries.{opens, own_start, own_end, opened, own_part, own_number, Unopened, delivery_misplaced, opening_wrong, delivery_wrong, delivery_disordered}
use Rattle.files.specs.Deliveries.Parts.{opened_record, owned, Owned, start_is}
use Rattle.files.specs.Deliveries.Steps.{delivery_test, delivery_looked_is}
use Rattle.files.specs.Outcome.{refusal_at, Passed, Settled}
use Rattle.files.specs.Record.{record_at, count, kind_at, wrong}
use Rattle.files.specs.Refusal.{graph, misplaced, disordered, edge_key}
use Rattle.files.specs.declared.deliveries.Opening.{Opening}
use Rattle.files.specs.declared.record.Record.{Record}
use Rattle.files.specs.declared.refusal.Refusal.{Refusal}

-- what an opening reads as: none, where a field is wrong
abbrev pub opened_by : Record → Opening
opened_by r = record { method = r.first; revision = r.second }

abbrev pub opening_read : Record → Option Opening
opening_read r = cond (opening_wrong r) None (Some (opened_by r))

-- a record that was read, by the test of its fields
module _ (r s : Record) (e : r ≡ s) where
  pub opening_bad : opening_wrong r ≡ true → None ≡ opening_read s
  opening_bad w = sym (ap (λ (b : Bool). cond b None (Some (opened_by r))) w) ∙ ap opening_read e

  pub opening_of : opening_wrong r ≡ false → Some (opened_by r) ≡ opening_read s
  opening_of w = sym (ap (λ (b : Bool). cond b None (Some (opened_by r))) w) ∙ ap opening_read e

-- what it reads as tells whether a field is wrong
module _ (r : Record) where
  of_right : is_some (opening_read r) ≡ not (opening_wrong r)
  of_right = go (opening_wrong r)
    where
      go : (b : Bool) → is_some (cond b None (Some (opened_by r))) ≡ not b
      go true = refl
      go false = refl

  flip : (b c : Bool) → not b ≡ c → b ≡ not c
  flip true c e = ap not e
  flip false c e = ap not e

  pub wrong_read : is_some (opening_read r) ≡ false → opening_wrong r ≡ true
  wrong_read e = flip (opening_wrong r) false (sym of_right ∙ e)

  pub right_read : is_some (opening_read r) ≡ true → opening_wrong r ≡ false
  right_read e = flip (opening_wrong r) true (sym of_right ∙ e)

-- ---- an opening

module _ (l : List ℕ) (position i : ℕ) (six_i : kind_at l i ≡ 6) where
  pub opening_refused : opening_wrong (record_at l i) ≡ true → (x : Refusal) → x ≡ refusal_at 3 position i → Err x ≡ found_at 3 2 (delivery_test l) 0 position i
  opening_refused w x e = rw (delivery_looked_is l position i, six_i, w, zero-add i) (ap Err e)

  pub opening_right : opening_wrong (record_at l i) ≡ false → Passed ≡ found_at 3 2 (delivery_test l) 0 position i
  opening_right w = rw (delivery_looked_is l position i, six_i, w) refl

-- ---- a record that opens nothing

pub unopened_refused : (l : List ℕ) (position i : ℕ) → (kind_at l i ≡ 6 → ⊥) → own_start l i ≡ 0 → (x : Refusal) → x ≡ refusal_at 2 position i
    → Err x ≡ found_at 3 2 (delivery_test l) 0 position i
unopened_refused l position i c z x e = rw (delivery_looked_is l position i, ne_eqb (kind_at l i) 6 c, z, zero-add i) (ap Err e)

-- files whose records up to j agree
module _ (A B : List ℕ) where
  misplaced_same : (j : ℕ) → ((n : ℕ) → n ≤ j → record_at A n ≡ record_at B n) → misplaced graph A j ≡ misplaced graph B j
  misplaced_same zero f = ap (λ (r : Record). not (eqb r.kind 1 || eqb r.kind 2) || (eqb r.kind 1 && false)) (f 0 (omega arith))
  misplaced_same (suc j) f =
      ap₂ (λ (q r : Record). not (eqb r.kind 1 || eqb r.kind 2) || (eqb r.kind 1 && eqb q.kind 2)) (f j (omega arith)) (f (suc j) (omega arith))

  disordered_same : (j : ℕ) → ((n : ℕ) → n ≤ j → record_at A n ≡ record_at B n) → disordered graph A j ≡ disordered graph B j
  disordered_same zero f = refl
  disordered_same (suc j) f =
      ap₂ (λ (q r : Record). eqb q.kind 2 && (eqb r.kind 2 && not (before (edge_key q) (edge_key r)))) (f j (omega arith)) (f (suc j) (omega arith))

-- it is looked at as record j of a file T that has the file's records from the start of its delivery on
module _ (l T : List ℕ) (position i a j : ℕ) (inside : i < count l) (closed : kind_at l i ≡ 6 → ⊥) (start : a ≡ own_start l i) (some : a ≡ 0 → ⊥) (place : a + j ≡ i)
    (records : (n : ℕ) → n ≤ j → record_at T n ≡ record_at l (a + n)) where
  abbrev P : List ℕ
  P = own_part l i

  -- the records of its own part are the file's too
  own_records : (n : ℕ) → n ≤ j → record_at T n ≡ record_at P n
  own_records n b = go (owned l i inside closed)
    where
      go : Owned l i ⊎ ((own_start l i ≡ 0) × Unopened l i) → record_at T n ≡ record_at P n
      go (inr u) = absurd (some (start ∙ u.0))
      go (inl s) =
          let o = s.opening in
          let e : own_start l i ≡ suc o = ap (own_start l) s.place_is ∙ start_is l o s.is_open s.place s.place_in in
          let k : n < own_end l a - a = subst (λ (m : ℕ). n < own_end l m - m) (sym (start ∙ e)) (omega (arith, s.place_is, s.place_in, start, e, place)) in
          records n b ∙ sym (opened_record l a n (omega (arith, place)) k) ∙ ap (λ (m : ℕ). record_at (opened l m) n) start

  number : own_number l i ≡ j
  number = omega (arith, start, place)

  pub supplied_same : found_at 3 2 (test graph T) a position j ≡ found_at 3 2 (delivery_test l) 0 position i
  supplied_same =
      looked_is graph T a position j
      ∙ ap (λ (n : ℕ). told n (misplaced graph T j) (wrong (record_at T j)) (disordered graph T j)) (place ∙ sym (zero-add i))
      ∙ ap₂ (λ (b d : Bool). told (0 + i) b (wrong (record_at T j)) d) misplaced_is disordered_is
      ∙ ap (λ (b : Bool). told (0 + i) (delivery_misplaced l i) b (delivery_disordered l i)) wrong_is
      ∙ sym (delivery_looked_is l position i)
    where
      told : ℕ → Bool → Bool → Bool → Settled
      told n b c d = cond b (Err (refusal_at 2 position n)) (cond c (Err (refusal_at 3 position n)) (cond d (Err (refusal_at 4 position n)) Passed))

      shut : opens l i ≡ false
      shut = ne_eqb (kind_at l i) 6 closed

      begun : eqb (own_start l i) 0 ≡ false
      begun = ne_eqb (own_start l i) 0 (λ z. some (start ∙ z))

      misplaced_is : misplaced graph T j ≡ delivery_misplaced l i
      misplaced_is =
          misplaced_same T P j own_records ∙ ap (misplaced graph P) (sym number)
          ∙ sym (ap₂ (λ (b c : Bool). not b && (c || misplaced graph P (own_number l i))) shut begun)

      disordered_is : disordered graph T j ≡ delivery_disordered l i
      disordered_is =
          disordered_same T P j own_records ∙ ap (disordered graph P) (sym number) ∙ sym (ap (λ (b : Bool). not b && disordered graph P (own_number l i)) shut)

      wrong_is : wrong (record_at T j) ≡ delivery_wrong (record_at l i)
      wrong_is =
          ap wrong (records j (omega arith) ∙ ap (record_at l) place)
          ∙ sym (ap (λ (b : Bool). wrong (record_at l i) || (b && opening_wrong (record_at l i))) shut ∙ or-false (wrong (record_at l i)))
