-- What the code of a check asks for: what number 5 counts, a pass over the records, and the steps.
use Rattle.std.specs.Prelude.{Err}
use mathlib.Core.Path.{◌≡◌, refl, sym, ap, ap₂, ◌∙◌}
use mathlib.Core.Bool.{Bool, false, true}
use mathlib.Core.Option.{none}
use mathlib.Core.List.{List}
use Prim.Native.Nat.{ℕ, suc, ◌+◌, ◌≤◌, ◌%◌}
use native.Mathlib.Nat.{add_comm}
use native.Mathlib.Omega.{arith}
use native.Mathlib.Numerals.{add-one}
use lib.Dec.{eqb}
use Rattle.files.specs.Basics.Tests.{one}
use Rattle.files.specs.Basics.Tables.{tally, tally_le}
use Rattle.files.specs.Basics.First.{first_where, first_miss}
use Rattle.files.specs.Record.{count}
use Rattle.files.specs.Refusal.{Kind, graph, property, rules, interface, missing}
use Rattle.files.specs.Checking.{test, found_at, lower, lowest, counts, counted, nodes_in, nodes_with, bound_with, bound_of, missing_with, unless, over, checked, from_two, from_five, from_seven}
use lib.ListN.{length}
use Rattle.files.specs.Outcome.{refusal_at, Accepted, Settled}
use Rattle.files.specs.declared.record.Limits.{Limits}
use Rattle.files.specs.Checking.Laws.{counted_is, lowest_more, from_seven_is, from_five_is, from_two_is, from_one_is, checked_steps}

-- ---- counting

pub tally_more : (p : ℕ → Bool) (i n : ℕ) (b : Bool) → n ≡ tally p i → b ≡ p i → n + one b ≡ tally p (i + 1)
tally_more p i n b e f =
    let q : i + 1 ≡ suc i = omega arith in
    let h : n + one b ≡ one (p i) + tally p i = add_comm n (one b) ∙ ap₂ ◌+◌ (ap one f) e in
    h ∙ ap (tally p) (sym q)

-- a scan that has found nothing below i goes on past i where i does not offend
pub scan_on : (p : ℕ → Bool) (i : ℕ) → first_where p i ≡ none → p i ≡ false → first_where p (i + 1) ≡ none
scan_on p i e f = let q : i + 1 ≡ suc i = omega arith in ap (first_where p) q ∙ first_miss p i e f

-- ---- what number 5 counts, and what follows from it

pub counted_le : (k : Kind) (l : List ℕ) → counted k l ≤ count l
counted_le k l = rw (counted_is k l) (tally_le (counts k l) (count l))

pub bound_is : (k : Kind) (l : List ℕ) (c : ℕ) → c ≡ counted k l → bound_with k c (count l) ≡ bound_of k l
bound_is k l c e = ap (λ (x : ℕ). bound_with k x (count l)) e

pub nodes_are : (k : Kind) (l : List ℕ) (c : ℕ) → c ≡ counted k l → nodes_with k c ≡ nodes_in k l
nodes_are graph l c e = e ∙ counted_is graph l
nodes_are property l c e = refl
nodes_are rules l c e = refl
nodes_are interface l c e = refl

pub missing_is : (k : Kind) (l : List ℕ) → missing_with k (count l) ≡ missing k l
missing_is graph l = refl
missing_is property l = refl
missing_is rules l = refl
missing_is interface l = refl

-- ---- a pass over the records

-- one record more
pub lowest_on : (many n : ℕ) (t : ℕ → ℕ → Bool) (first position i : ℕ) (x y z : Settled) → x ≡ lowest many n t first position i → y ≡ found_at many n t first position i
    → z ≡ lower x y → z ≡ lowest many n t first position (i + 1)
lowest_on many n t first position i x y z d e f =
    f ∙ ap₂ lower d e ∙ sym (lowest_more many n t first position i) ∙ ap (lowest many n t first position) (sym (add-one i))

-- ---- the steps

-- what the pass for numbers 7 and 8 found, with what number 5 counted
pub seven_scan : (k : Kind) (l : List ℕ) (first position c : ℕ) (f : Settled) → c ≡ counted k l → f ≡ lowest 2 7 (test k l) first position (count l)
    → unless f (Accepted (nodes_with k c) (count l)) ≡ from_seven k l first position
seven_scan k l first position c f e g =
    ap₂ (λ (x : Settled) (n : ℕ). unless x (Accepted n (count l))) g (nodes_are k l c e) ∙ sym (from_seven_is k l first position)

module _ (L : Limits) (k : Kind) (l : List ℕ) (first position : ℕ) where
  -- what the pass for numbers 2 to 4 found
  pub two_scan : (f : Settled) → f ≡ lowest 3 2 (test k l) first position (count l) → unless f (from_five L k l first position) ≡ from_two L k l first position
  two_scan f g = ap (λ (x : Settled). unless x (from_five L k l first position)) g ∙ sym (from_two_is L k l first position)

  pub five_over : over L k l ≡ true → Err (refusal_at 5 position 0) ≡ from_five L k l first position
  five_over e = rw (from_five_is, e) refl

  pub six_missing : over L k l ≡ false → missing k l ≡ true → Err (refusal_at 6 position 0) ≡ from_five L k l first position
  six_missing e f = rw (from_five_is, e, f) refl

  pub five_fine : over L k l ≡ false → missing k l ≡ false → from_seven k l first position ≡ from_five L k l first position
  five_fine e f = rw (from_five_is, e, f) refl

  pub one_ragged : eqb (length l % 6) 0 ≡ false → Err (refusal_at 1 position 0) ≡ checked L k l position
  one_ragged e = rw (← checked_steps L k l position, from_one_is, e) refl

  pub one_whole : eqb (length l % 6) 0 ≡ true → from_two L k l 0 position ≡ checked L k l position
  one_whole e = rw (← checked_steps L k l position, from_one_is, e) refl
