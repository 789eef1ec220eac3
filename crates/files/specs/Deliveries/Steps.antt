-- Checking a file of deliveries, number by number, as the code may do it: 1; 2 to 4 in one pass; 5; 7 and 8 in another. The steps come to the file's refusal.
use Rattle.std.specs.Prelude.{◌≡◌, refl, Bool, not, cond, ℕ, ◌+◌, ◌%◌, eqb, length, Err}
use Rattle.std.proofs.Common.{sym, ◌∙◌}
use Rattle.std.proofs.Math.Path.{ap}
use mathlib.Core.List.{List, [], ◌∷◌}
use Rattle.std.proofs.Math.Option.{Option, none}
use Rattle.files.specs.Basics.First.{first_where, whole, pick}
use Rattle.files.specs.Checking.{found_at, lowest, unless}
use Rattle.files.specs.Checking.Laws.{found_of_three, found_of_two, answered_by, found_first, whole_step, scan_step, lowest_of_three, lowest_of_two}
use Rattle.files.specs.Deliveries.{delivery_misplaced, delivery_wrong, delivery_disordered, delivery_passed, delivery_past, delivery_crossing, delivery_refusal}
use Rattle.files.specs.Deliveries.Refused.{delivery_refusal_is, delivery_findings_are}
use Rattle.files.specs.Outcome.{refusal_at, Accepted, Checked, Passed, Settled}
use Rattle.files.specs.Record.{record_at, count}
use Rattle.files.specs.declared.record.Limits.{Limits}

-- ---- what checking answers, by the file's refusal

-- no count of nodes is told: each delivery has its own
abbrev pub delivery_checked_by : List ℕ → ℕ → Option (ℕ × ℕ) → Checked
delivery_checked_by l = answered_by (Accepted 0 (count l))

pub delivery_checked : Limits → List ℕ → ℕ → Checked
delivery_checked L l position = delivery_checked_by l position (delivery_refusal L l)

pub delivery_checked_is : (L : Limits) (l : List ℕ) (position : ℕ) → delivery_checked L l position ≡ delivery_checked_by l position (delivery_refusal L l)
unfolding delivery_checked
delivery_checked_is L l position = refl

-- ---- the steps

-- the tests of the numbers that look at records: 2 to 4, 7 and 8
pub delivery_test : List ℕ → ℕ → ℕ → Bool
delivery_test l n i =
    cond (eqb n 2) (delivery_misplaced l i) (cond (eqb n 3) (delivery_wrong (record_at l i)) (cond (eqb n 4) (delivery_disordered l i)
    (cond (eqb n 7) (delivery_past l i) (delivery_crossing l i))))

pub delivery_looked_is : (l : List ℕ) (position i : ℕ)
    → found_at 3 2 (delivery_test l) 0 position i
    ≡ cond (delivery_misplaced l i) (Err (refusal_at 2 position (0 + i)))
    (cond (delivery_wrong (record_at l i)) (Err (refusal_at 3 position (0 + i))) (cond (delivery_disordered l i) (Err (refusal_at 4 position (0 + i))) Passed))
unfolding delivery_test
delivery_looked_is l position i = found_of_three (delivery_test l) 0 position i

pub delivery_named_is : (l : List ℕ) (position i : ℕ)
    → found_at 2 7 (delivery_test l) 0 position i ≡ cond (delivery_past l i) (Err (refusal_at 7 position (0 + i))) (cond (delivery_crossing l i) (Err (refusal_at 8 position (0 + i))) Passed)
unfolding delivery_test
delivery_named_is l position i = found_of_two (delivery_test l) 0 position i

pub delivery_lowest_is : (l : List ℕ) (position N : ℕ)
    → lowest 3 2 (delivery_test l) 0 position N
    ≡ found_first 2 0 position (first_where (delivery_misplaced l) N)
    (found_first 3 0 position (first_where (λ i. delivery_wrong (record_at l i)) N) (found_first 4 0 position (first_where (delivery_disordered l) N) Passed))
unfolding delivery_test
delivery_lowest_is l position N = lowest_of_three (delivery_test l) 0 position N

module _ (L : Limits) (l : List ℕ) (position : ℕ) where
  abbrev accepted : Checked
  accepted = Accepted 0 (count l)

  abbrev pub delivery_from_five : Checked
  delivery_from_five = cond (delivery_passed L l) (Err (refusal_at 5 position 0)) (unless (lowest 2 7 (delivery_test l) 0 position (count l)) accepted)

  abbrev pub delivery_steps : Checked
  delivery_steps = cond (not (eqb (length l % 6) 0)) (Err (refusal_at 1 position 0)) (unless (lowest 3 2 (delivery_test l) 0 position (count l)) delivery_from_five)

  -- the findings from a number on
  abbrev eighths : List (Option ℕ)
  eighths = first_where (delivery_crossing l) (count l) ∷ []

  abbrev sevenths : List (Option ℕ)
  sevenths = first_where (delivery_past l) (count l) ∷ eighths

  abbrev fifths : List (Option ℕ)
  fifths = whole (delivery_passed L l) ∷ none ∷ sevenths

  abbrev fourths : List (Option ℕ)
  fourths = first_where (delivery_disordered l) (count l) ∷ fifths

  abbrev thirds : List (Option ℕ)
  thirds = first_where (λ i. delivery_wrong (record_at l i)) (count l) ∷ fourths

  abbrev seconds : List (Option ℕ)
  seconds = first_where (delivery_misplaced l) (count l) ∷ thirds

  abbrev by : Option (ℕ × ℕ) → Checked
  by = delivery_checked_by l position

  seven_on : unless (lowest 2 7 (delivery_test l) 0 position (count l)) accepted ≡ by (pick 7 sevenths)
  unfolding delivery_test
  seven_on =
      ap (λ (x : Settled). unless x accepted) (lowest_of_two (delivery_test l) 0 position (count l))
      ∙ scan_step accepted position 7 eighths accepted (found_first 8 0 position (first_where (delivery_crossing l) (count l)) Passed) (first_where (delivery_past l) (count l))
      (λ e. scan_step accepted position 8 [] accepted Passed (first_where (delivery_crossing l) (count l)) (λ f. refl))

  five_on : delivery_from_five ≡ by (pick 5 fifths)
  five_on = whole_step accepted position 5 (none ∷ sevenths) (unless (lowest 2 7 (delivery_test l) 0 position (count l)) accepted) (delivery_passed L l) (λ e. seven_on)

  two_on : unless (lowest 3 2 (delivery_test l) 0 position (count l)) delivery_from_five ≡ by (pick 2 seconds)
  unfolding delivery_test
  two_on =
      ap (λ (x : Settled). unless x delivery_from_five) (lowest_of_three (delivery_test l) 0 position (count l))
      ∙ scan_step accepted position 2 thirds delivery_from_five
      (found_first 3 0 position (first_where (λ i. delivery_wrong (record_at l i)) (count l)) (found_first 4 0 position (first_where (delivery_disordered l) (count l)) Passed))
      (first_where (delivery_misplaced l) (count l))
      (λ two. scan_step accepted position 3 fourths delivery_from_five (found_first 4 0 position (first_where (delivery_disordered l) (count l)) Passed)
      (first_where (λ i. delivery_wrong (record_at l i)) (count l))
      (λ three. scan_step accepted position 4 fifths delivery_from_five Passed (first_where (delivery_disordered l) (count l)) (λ four. five_on)))

  -- they come to the file's refusal
  pub delivery_checked_steps : delivery_steps ≡ delivery_checked L l position
  delivery_checked_steps =
      whole_step accepted position 1 seconds (unless (lowest 3 2 (delivery_test l) 0 position (count l)) delivery_from_five) (not (eqb (length l % 6) 0)) (λ e. two_on)
      ∙ ap (λ (ms : List (Option ℕ)). by (pick 1 ms)) (sym (delivery_findings_are L l))
      ∙ ap by (sym (delivery_refusal_is L l))
      ∙ sym (delivery_checked_is L l position)
