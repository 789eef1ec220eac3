-- The steps that the code takes come to the file's refusal; each step's equation; what an accepted file answers. Assumes nothing.
use Rattle.std.specs.Prelude.{◌≡◌, Bool, true, false, not, cond, eqb, length, Ok, Err}
use Rattle.std.proofs.Math.Path.{refl, ap, subst}
use Rattle.std.proofs.Common.{sym, ◌∙◌, zero-add, arith, lt-ltb, le-ltb}
use mathlib.Core.List.{List, [], ◌∷◌}
use Rattle.std.proofs.Math.Option.{Option, none, some}
use Prim.Native.Nat.{ℕ, zero, suc, ◌+◌, ◌%◌, ◌≤◌}
use Rattle.files.specs.Basics.First.{first_where, or_else, whole, pick}
use Rattle.files.specs.Basics.Tables.{tally}
use Rattle.files.specs.Checking.{nodes_in, checked_by, checked, test, found_at, lower, lowest, Sound, unless, counts, counted, over, from_one, from_two, from_five, from_seven}
use Rattle.files.specs.Checking.Reads.{five_agrees}
use Rattle.files.specs.Outcome.{refusal_at, Accepted, Checked, Passed, Settled}
use Rattle.files.specs.Record.{record_at, count, wrong}
use Rattle.files.specs.Refusal.{Kind, misplaced, disordered, passed, missing, past, crossing, findings, refusal}
use Rattle.files.specs.Refusal.Laws.{refusal_is, findings_are}
use Rattle.files.specs.declared.record.Limits.{Limits}

-- ---- the equation of each step

pub from_one_is : (L : Limits) (k : Kind) (l : List ℕ) (position : ℕ) → from_one L k l position ≡ cond (not (eqb (length l % 6) 0)) (Err (refusal_at 1 position 0)) (from_two L k l 0 position)
unfolding from_one
from_one_is L k l position = refl

pub from_two_is : (L : Limits) (k : Kind) (l : List ℕ) (first position : ℕ)
    → from_two L k l first position ≡ unless (lowest 3 2 (test k l) first position (count l)) (from_five L k l first position)
unfolding from_two
from_two_is L k l first position = refl

pub from_five_is : (L : Limits) (k : Kind) (l : List ℕ) (first position : ℕ)
    → from_five L k l first position ≡ cond (over L k l) (Err (refusal_at 5 position 0)) (cond (missing k l) (Err (refusal_at 6 position 0)) (from_seven k l first position))
unfolding from_five
from_five_is L k l first position = refl

pub from_seven_is : (k : Kind) (l : List ℕ) (first position : ℕ)
    → from_seven k l first position ≡ unless (lowest 2 7 (test k l) first position (count l)) (Accepted (nodes_in k l) (count l))
unfolding from_seven
from_seven_is k l first position = refl

-- three numbers from 2 on, and two from 7 on, of any test
pub found_of_three : (t : ℕ → ℕ → Bool) (first position i : ℕ)
    → found_at 3 2 t first position i
    ≡ cond (t 2 i) (Err (refusal_at 2 position (first + i))) (cond (t 3 i) (Err (refusal_at 3 position (first + i))) (cond (t 4 i) (Err (refusal_at 4 position (first + i))) Passed))
unfolding found_at
found_of_three t first position i = refl

pub found_of_two : (t : ℕ → ℕ → Bool) (first position i : ℕ)
    → found_at 2 7 t first position i ≡ cond (t 7 i) (Err (refusal_at 7 position (first + i))) (cond (t 8 i) (Err (refusal_at 8 position (first + i))) Passed)
unfolding found_at
found_of_two t first position i = refl

pub looked_is : (k : Kind) (l : List ℕ) (first position i : ℕ)
    → found_at 3 2 (test k l) first position i
    ≡ cond (misplaced k l i) (Err (refusal_at 2 position (first + i)))
    (cond (wrong (record_at l i)) (Err (refusal_at 3 position (first + i))) (cond (disordered k l i) (Err (refusal_at 4 position (first + i))) Passed))
unfolding test
looked_is k l first position i = found_of_three (test k l) first position i

pub named_is : (k : Kind) (l : List ℕ) (first position i : ℕ)
    → found_at 2 7 (test k l) first position i ≡ cond (past k l i) (Err (refusal_at 7 position (first + i))) (cond (crossing k l i) (Err (refusal_at 8 position (first + i))) Passed)
unfolding test
named_is k l first position i = found_of_two (test k l) first position i

pub lowest_none : (many n : ℕ) (t : ℕ → ℕ → Bool) (first position : ℕ) → lowest many n t first position 0 ≡ Passed
unfolding lowest
lowest_none many n t first position = refl

pub lowest_more : (many n : ℕ) (t : ℕ → ℕ → Bool) (first position i : ℕ)
    → lowest many n t first position (suc i) ≡ lower (lowest many n t first position i) (found_at many n t first position i)
unfolding lowest
lowest_more many n t first position i = refl

pub counted_is : (k : Kind) (l : List ℕ) → counted k l ≡ tally (counts k l) (count l)
unfolding counted
counted_is k l = refl

pub checked_is : (L : Limits) (k : Kind) (l : List ℕ) (position : ℕ) → checked L k l position ≡ checked_by k l position (refusal L k l)
unfolding checked
checked_is L k l position = refl

-- ---- what an accepted file answers

-- what checking accepts has no refusal, and the counts are its nodes and its records
pub accepted_counts : (L : Limits) (k : Kind) (l : List ℕ) (position n c : ℕ) → checked L k l position ≡ Accepted n c → (refusal L k l ≡ none) × (n ≡ nodes_in k l) × (c ≡ count l)
unfolding checked
accepted_counts L k l position n c e = go (refusal L k l) e
  where
    nodes_told : Checked → ℕ
    nodes_told (Ok x) = x.nodes
    nodes_told (Err r) = 0

    records_told : Checked → ℕ
    records_told (Ok x) = x.records
    records_told (Err r) = 0

    go : (o : Option (ℕ × ℕ)) → checked_by k l position o ≡ Accepted n c → (o ≡ none) × (n ≡ nodes_in k l) × (c ≡ count l)
    go none q = (refl, sym (ap nodes_told q), sym (ap records_told q))
    go (some x) q = let z : ◌≡◌ {A = ℕ} 0 1 = cc in absurd (omega arith)

-- ---- the lowest of several numbers is the first of them that finds a record, there

-- what a number finds first, or what the rest finds
abbrev pub found_first : ℕ → ℕ → ℕ → Option ℕ → Settled → Settled
found_first n first position none rest = rest
found_first n first position (some i) rest = Err (refusal_at n position (first + i))

-- nothing, or a number from n on
abbrev AtLeast : ℕ → Settled → Type 0
AtLeast n (Ok u) = Unit {0}
AtLeast n (Err r) = n ≤ r.number

least_less : (n : ℕ) (x : Settled) → AtLeast (suc n) x → AtLeast n x
least_less n (Ok u) a = tt
least_less n (Err r) a = omega (arith, a)

-- the lower number stays, whichever comes first
keeps_first : (n position i : ℕ) (y : Settled) → AtLeast n y → lower (Err (refusal_at n position i)) y ≡ Err (refusal_at n position i)
keeps_first n position i (Ok u) a = refl
keeps_first n position i (Err s) a = rw (le-ltb s.number n a) refl

takes_later : (n position i : ℕ) (x : Settled) → AtLeast (suc n) x → lower x (Err (refusal_at n position i)) ≡ Err (refusal_at n position i)
takes_later n position i (Ok u) a = refl
takes_later n position i (Err r) a = rw (lt-ltb n r.number a) refl

found_first_least : (n first position : ℕ) (m : Option ℕ) (rest : Settled) → AtLeast (suc n) rest → AtLeast n (found_first n first position m rest)
found_first_least n first position none rest a = least_less n rest a
found_first_least n first position (some i) rest a = omega arith

cond_least : (n : ℕ) (b : Bool) (position i : ℕ) (rest : Settled) → AtLeast (suc n) rest → AtLeast n (cond b (Err (refusal_at n position i)) rest)
cond_least n true position i rest a = omega arith
cond_least n false position i rest a = least_less n rest a

-- number n finds a record before N, or at N, or the later numbers have their say: x with N, y before it, z at it
first_or_later : (n first position N : ℕ) (m : Option ℕ) (b : Bool) (x y z : Settled) → AtLeast (suc n) y → AtLeast (suc n) z → x ≡ lower y z
    → found_first n first position (or_else m b N) x ≡ lower (found_first n first position m y) (cond b (Err (refusal_at n position (first + N))) z)
first_or_later n first position N (some i) true x y z a c e = sym (keeps_first n position (first + i) (Err (refusal_at n position (first + N))) (omega arith))
first_or_later n first position N (some i) false x y z a c e = sym (keeps_first n position (first + i) z (least_less n z c))
first_or_later n first position N none true x y z a c e = sym (takes_later n position (first + N) y a)
first_or_later n first position N none false x y z a c e = e

module _ (t : ℕ → ℕ → Bool) (first position : ℕ) where
  -- of `many` numbers from n on, the first that finds one of N records, there
  scanned : ℕ → ℕ → ℕ → Settled
  scanned zero n N = Passed
  scanned (suc many) n N = found_first n first position (first_where (t n) N) (scanned many (suc n) N)

  scanned_least : (many n N : ℕ) → AtLeast n (scanned many n N)
  unfolding scanned
  scanned_least zero n N = tt
  scanned_least (suc many) n N = found_first_least n first position (first_where (t n) N) (scanned many (suc n) N) (scanned_least many (suc n) N)

  found_least : (many n i : ℕ) → AtLeast n (found_at many n t first position i)
  unfolding found_at
  found_least zero n i = tt
  found_least (suc many) n i = cond_least n (t n i) position (first + i) (found_at many (suc n) t first position i) (found_least many (suc n) i)

  scanned_step : (many n N : ℕ) → scanned many n (suc N) ≡ lower (scanned many n N) (found_at many n t first position N)
  unfolding scanned found_at
  scanned_step zero n N = refl
  scanned_step (suc many) n N =
      first_or_later n first position N (first_where (t n) N) (t n N) (scanned many (suc n) (suc N)) (scanned many (suc n) N)
      (found_at many (suc n) t first position N) (scanned_least many (suc n) N) (found_least many (suc n) N) (scanned_step many (suc n) N)

  nothing_scanned : (many n : ℕ) → scanned many n 0 ≡ Passed
  unfolding scanned
  nothing_scanned zero n = refl
  nothing_scanned (suc many) n = nothing_scanned many (suc n)

  lowest_scanned : (many n N : ℕ) → lowest many n t first position N ≡ scanned many n N
  lowest_scanned many n zero = lowest_none many n t first position ∙ sym (nothing_scanned many n)
  lowest_scanned many n (suc N) =
      lowest_more many n t first position N
      ∙ ap (λ (x : Settled). lower x (found_at many n t first position N)) (lowest_scanned many n N)
      ∙ sym (scanned_step many n N)

  -- of 2 to 4, and of 7 and 8
  pub lowest_of_three : (N : ℕ) → lowest 3 2 t first position N
      ≡ found_first 2 first position (first_where (t 2) N) (found_first 3 first position (first_where (t 3) N) (found_first 4 first position (first_where (t 4) N) Passed))
  unfolding scanned
  lowest_of_three N = lowest_scanned 3 2 N

  pub lowest_of_two : (N : ℕ) → lowest 2 7 t first position N
      ≡ found_first 7 first position (first_where (t 7) N) (found_first 8 first position (first_where (t 8) N) Passed)
  unfolding scanned
  lowest_of_two N = lowest_scanned 2 7 N

module _ (k : Kind) (l : List ℕ) (first position : ℕ) where
  -- where 2 to 4 find nothing, neither 2 nor 3 does
  pub unfound_sound : lowest 3 2 (test k l) first position (count l) ≡ Passed → Sound k l
  unfolding test
  unfound_sound e = go (first_where (misplaced k l) (count l)) (first_where (λ i. wrong (record_at l i)) (count l)) refl refl (sym (lowest_of_three (test k l) first position (count l)) ∙ e)
    where
      no_find : (n i : ℕ) → Err (refusal_at n position (first + i)) ≡ Passed → ⊥
      no_find n i q = subst is_found q tt
        where
          is_found : Settled → Type 0
          is_found (Ok u) = ⊥
          is_found (Err r) = Unit {0}

      go : (a b : Option ℕ) → first_where (misplaced k l) (count l) ≡ a → first_where (λ i. wrong (record_at l i)) (count l) ≡ b
          → found_first 2 first position a (found_first 3 first position b (found_first 4 first position (first_where (disordered k l) (count l)) Passed)) ≡ Passed → Sound k l
      go (some i) b d f q = absurd (no_find 2 i q)
      go none (some i) d f q = absurd (no_find 3 i q)
      go none none d f q = record { none_misplaced = d; none_wrong = f }

-- ---- the steps come to the file's refusal

-- the findings from a number on
abbrev from_eighth : Kind → List ℕ → List (Option ℕ)
from_eighth k l = first_where (crossing k l) (count l) ∷ []

abbrev from_seventh : Kind → List ℕ → List (Option ℕ)
from_seventh k l = first_where (past k l) (count l) ∷ from_eighth k l

abbrev from_fifth : Limits → Kind → List ℕ → List (Option ℕ)
from_fifth L k l = whole (passed L k l) ∷ whole (missing k l) ∷ from_seventh k l

abbrev from_fourth : Limits → Kind → List ℕ → List (Option ℕ)
from_fourth L k l = first_where (disordered k l) (count l) ∷ from_fifth L k l

-- what is answered by a file's refusal, where an accepted file is answered so
abbrev pub answered_by : Checked → ℕ → Option (ℕ × ℕ) → Checked
answered_by a position none = a
answered_by a position (some x) = Err (refusal_at x.0 position x.1)

module _ (a : Checked) (position n : ℕ) (ms : List (Option ℕ)) (rest : Checked) where
  -- a step of the whole file, and one that looks at each record
  pub whole_step : (b : Bool) → (b ≡ false → rest ≡ answered_by a position (pick (suc n) ms))
      → cond b (Err (refusal_at n position 0)) rest ≡ answered_by a position (pick n (whole b ∷ ms))
  whole_step true f = refl
  whole_step false f = f refl

  pub scan_step : (x : Settled) (m : Option ℕ) → (m ≡ none → unless x rest ≡ answered_by a position (pick (suc n) ms))
      → unless (found_first n 0 position m x) rest ≡ answered_by a position (pick n (m ∷ ms))
  scan_step x none f = f refl
  scan_step x (some i) f = ap (λ (j : ℕ). Err (refusal_at n position j)) (zero-add i)

pub by_same : (k : Kind) (l : List ℕ) (position : ℕ) (o : Option (ℕ × ℕ)) → answered_by (Accepted (nodes_in k l) (count l)) position o ≡ checked_by k l position o
by_same k l position none = refl
by_same k l position (some x) = refl

module _ (k : Kind) (l : List ℕ) (position : ℕ) where
  abbrev accepted : Checked
  accepted = Accepted (nodes_in k l) (count l)

  abbrev by : Option (ℕ × ℕ) → Checked
  by = answered_by accepted position

  -- the steps from number 7 on, where 2 and 3 find nothing, and from 5 on
  seven_on : from_seven k l 0 position ≡ by (pick 7 (from_seventh k l))
  unfolding test
  seven_on =
      from_seven_is k l 0 position
      ∙ ap (λ (x : Settled). unless x accepted) (lowest_of_two (test k l) 0 position (count l))
      ∙ scan_step accepted position 7 (from_eighth k l) accepted (found_first 8 0 position (first_where (crossing k l) (count l)) Passed) (first_where (past k l) (count l))
      (λ e. scan_step accepted position 8 [] accepted Passed (first_where (crossing k l) (count l)) (λ f. refl))

  five_on : (L : Limits) → Sound k l → from_five L k l 0 position ≡ by (pick 5 (from_fifth L k l))
  five_on L sound =
      from_five_is L k l 0 position ∙ ap (λ (b : Bool). cond b (Err (refusal_at 5 position 0)) six) (five_agrees L k l sound)
      ∙ whole_step accepted position 5 (whole (missing k l) ∷ from_seventh k l) six (passed L k l)
      (λ e. whole_step accepted position 6 (from_seventh k l) (from_seven k l 0 position) (missing k l) (λ f. seven_on))
    where
      six : Checked
      six = cond (missing k l) (Err (refusal_at 6 position 0)) (from_seven k l 0 position)

-- the steps that the code takes come to the file's refusal
pub checked_steps : (L : Limits) (k : Kind) (l : List ℕ) (position : ℕ) → from_one L k l position ≡ checked L k l position
unfolding test
checked_steps L k l position =
    one_on
    ∙ ap (λ (ms : List (Option ℕ)). by k l position (pick 1 ms)) (sym (findings_are L k l))
    ∙ by_same k l position (pick 1 (findings L k l))
    ∙ ap (checked_by k l position) (sym (refusal_is L k l))
    ∙ sym (checked_is L k l position)
  where
    yes_so : Checked
    yes_so = Accepted (nodes_in k l) (count l)

    thirds : List (Option ℕ)
    thirds = first_where (λ i. wrong (record_at l i)) (count l) ∷ from_fourth L k l

    rest : Checked
    rest = from_five L k l 0 position

    two_on : from_two L k l 0 position ≡ by k l position (pick 2 (first_where (misplaced k l) (count l) ∷ thirds))
    two_on =
        from_two_is L k l 0 position
        ∙ ap (λ (x : Settled). unless x rest) (lowest_of_three (test k l) 0 position (count l))
        ∙ scan_step yes_so position 2 thirds rest (found_first 3 0 position (first_where (λ i. wrong (record_at l i)) (count l)) (found_first 4 0 position (first_where (disordered k l) (count l)) Passed))
        (first_where (misplaced k l) (count l))
        (λ two. scan_step yes_so position 3 (from_fourth L k l) rest (found_first 4 0 position (first_where (disordered k l) (count l)) Passed) (first_where (λ i. wrong (record_at l i)) (count l))
        (λ three. scan_step yes_so position 4 (from_fifth L k l) rest Passed (first_where (disordered k l) (count l))
        (λ four. five_on k l position L (record { none_misplaced = two; none_wrong = three }))))

    one_on : from_one L k l position ≡ by k l position (pick 1 (whole (not (eqb (length l % 6) 0)) ∷ first_where (misplaced k l) (count l) ∷ thirds))
    one_on =
        from_one_is L k l position
        ∙ whole_step yes_so position 1 (first_where (misplaced k l) (count l) ∷ thirds) (from_two L k l 0 position) (not (eqb (length l % 6) 0)) (λ e. two_on)
