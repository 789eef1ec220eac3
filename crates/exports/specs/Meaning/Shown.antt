-- What the six numbers of showing mean at the C boundary, where the part goes to an output of its own and 12 is one more line of the call's row.
use Rattle.std.specs.Prelude.{◌≡◌, refl, ◌↔◌, Bool, true, false, cond, List, [], ◌∷◌, ◌++◌, ℕ, ◌≤◌, leb, ltb, length, take, drop, Ok, Err}
use Rattle.std.proofs.Common.{sym, ap, subst, ◌∙◌, lit<}
use Rattle.std.proofs.Math.Option.{Option, none, some}
use Rattle.files.specs.Basics.First.{whole}
use Rattle.files.specs.Basics.Says.{says_le}
use Rattle.files.specs.Limits.{desk}
use Rattle.files.specs.Outcome.{Said, Outcome, refuses, says, answer, out_after, refusal_at, Check, whole_check, file_checks, out_check, or_next, first_refusal, unless, answered, Lines, no_lines, whole_line, file_lines, out_line, NoneOf, published, Matches}
use Rattle.files.specs.Outcome.Calls as calls
use Rattle.files.specs.Outcome.Laws.{files_match, whole_match, out_match, refused_by, accepted_by, file_accepted, file_none, file_or, file_first, whole_none, whole_none_i, none_end}
use Rattle.files.specs.Outcome.Meaning.{Decided, Refuses, Wrote, Heard, only_verdict, outcome_case, said_iff, refuses_by, wrote_by}
use Rattle.files.specs.Refusal.{graph, refusal}
use Rattle.files.specs.declared.refusal.Refusal.{Refusal}
use Rattle.runs.specs.Showing.{Shown, Part, shown_answer, show_size, show_said, show_lines, shown}
use Rattle.runs.specs.Showing.Laws.{show_accepted, show_says, shown_is}
use Rattle.runs.specs.Showing.Meaning.{PartShown, shown_of, shown_enum}
use Rattle.exports.specs.Boundary.{answer_numbers, GivesOut, fitting}
use Rattle.exports.specs.declared.Answer.{Answer}
use Rattle.exports.specs.Meaning.{as_answer}

-- showing: verdict 1 shown
abbrev pub shown_numbers : Shown → Answer
shown_numbers c = answer_numbers (shown_answer c)

shown_heard : Heard shown_numbers
shown_heard = record { hear = λ a. shown_of (as_answer a); hears = back }
  where
    back : (c : Shown) → shown_of (as_answer (shown_numbers c)) ≡ c
    back (Ok u) = refl
    back (Err x) = refl

module _ (g1 g2 : List ℕ) (number out : ℕ) where
  abbrev said : Said
  said = show_said desk g1 g2 number

  -- the checks and lines of showing, then 12
  abbrev exported_checks : List Check
  exported_checks = file_checks desk 1 graph g1 (file_checks desk 2 graph g2 (whole_check 7 (leb (show_size desk g1 g2 number) number) (out_check out said)))

  abbrev pub exported_lines : Lines
  exported_lines = file_lines desk 1 graph g1 (file_lines desk 2 graph g2 (whole_line 7 (show_size desk g1 g2 number ≤ number) (out_line out said)))

  -- they stand in the published order, and are the call's row with 12
  pub exported_order : published exported_lines ≡ true
  exported_order = refl

  pub exported_row : calls.listed exported_lines ≡ calls.row calls.show ++ ((12, 0) ∷ [])
  exported_row = refl

  exported_match : Matches exported_checks exported_lines
  exported_match = files_match desk 1 graph g1 _ _ (files_match desk 2 graph g2 _ _ (whole_match 7 _ _ (says_le (show_size desk g1 g2 number) number) _ _ (out_match out said)))

  -- what fits is what the checks with 12 come to
  fits : (x y : Option (ℕ × ℕ)) (m : Option ℕ)
      → fitting out (unless (file_or 1 x (file_or 2 y (or_next 7 0 m none))) said) ≡ unless (file_or 1 x (file_or 2 y (or_next 7 0 m (first_refusal (out_check out said))))) said
  fits (some x) y m = refl
  fits none (some y) m = refl
  fits none none (some k) = refl
  fits none none none = go (ltb out (length said.written))
    where
      go : (b : Bool) → cond b (refuses (refusal_at 12 0 0)) (says said) ≡ unless (or_next 12 0 (whole b) none) said
      go true = refl
      go false = refl

  fitting_is : fitting out (shown desk g1 g2 number) ≡ answered exported_checks said
  fitting_is =
      let b = whole (leb (show_size desk g1 g2 number) number) in
      let first : (m : Option Refusal) (cs : List Check) → m ≡ first_refusal cs
      → file_or 1 (refusal desk graph g1) (file_or 2 (refusal desk graph g2) m) ≡ first_refusal (file_checks desk 1 graph g1 (file_checks desk 2 graph g2 cs)) =
      λ m cs e.
      ap (λ (z : Option Refusal). file_or 1 (refusal desk graph g1) (file_or 2 (refusal desk graph g2) z)) e
      ∙ ap (file_or 1 (refusal desk graph g1)) (sym (file_first desk 2 graph g2 cs))
      ∙ sym (file_first desk 1 graph g1 (file_checks desk 2 graph g2 cs))
      in
      ap (fitting out) (shown_is desk g1 g2 number ∙ ap (λ (z : Option Refusal). unless z said) (sym (first (or_next 7 0 b none) _ refl)))
      ∙ fits (refusal desk graph g1) (refusal desk graph g2) b
      ∙ ap (λ (z : Option Refusal). unless z said) (first (or_next 7 0 b (first_refusal (out_check out said))) _ refl)

  exported_decided : Decided (fitting out (shown desk g1 g2 number)) said exported_lines
  exported_decided = subst (λ (o : Outcome). Decided o said exported_lines) (sym fitting_is) (record {
    refused = refused_by exported_checks exported_lines exported_match said;
    accepted = accepted_by exported_checks exported_lines exported_match said;
    only = only_verdict exported_checks said;
    numbered = lit< tt;
  })

  -- where no line applies, none of the call's own does
  own_none : NoneOf exported_lines → NoneOf (show_lines desk g1 g2 number)
  own_none t =
      let a = file_accepted desk 1 graph g1 _ t in
      let b = file_accepted desk 2 graph g2 _ a.1 in
      let c = whole_none 7 (show_size desk g1 g2 number ≤ number) (out_line out said) b.1 in
      file_none desk 1 graph g1 _ a.0 (file_none desk 2 graph g2 _ b.0 (whole_none_i 7 (show_size desk g1 g2 number ≤ number) no_lines c.0 none_end))

-- Verdict 1 is given exactly where nothing is refused, and then the first six bytes are the node's record.
pub record ShowExported (g1 g2 : List ℕ) (number : ℕ) (out out' : List ℕ) (a : Answer) : Type 0 where
  pub refuses : Refuses (λ x. shown_numbers (Err x)) (exported_lines g1 g2 number (length out)) out out' a
  pub shown_iff : (a ≡ shown_numbers Part) ↔ NoneOf (exported_lines g1 g2 number (length out))
  pub writes : a ≡ shown_numbers Part → PartShown g1 g2 number (take 6 out')
  pub past_unchanged : a ≡ shown_numbers Part → drop 6 out' ≡ drop 6 out

module _ (g1 g2 : List ℕ) (number : ℕ) (out out' : List ℕ) where
  abbrev o : Outcome
  o = fitting (length out) (shown desk g1 g2 number)

  abbrev ls : Lines
  ls = exported_lines g1 g2 number (length out)

  d : Decided o (show_said desk g1 g2 number) ls
  d = exported_decided g1 g2 number (length out)

  module _ (c : Shown) (is_answer : shown_answer c ≡ answer o) (out_is : out' ≡ out_after o out) where
    is_part : (shown_numbers c ≡ shown_numbers Part) ↔ (NoneOf ls × ((show_said desk g1 g2 number).verdict ≡ 1) × ((show_said desk g1 g2 number).values ≡ []))
    is_part = said_iff shown_enum shown_numbers shown_heard o (show_said desk g1 g2 number) ls d c is_answer Part 1 [] (lit< tt) refl

    wrote : NoneOf ls → Wrote 6 (show_said desk g1 g2 number).written out out'
    wrote t =
        let s = show_says desk g1 g2 number (show_said desk g1 g2 number) ((show_accepted desk g1 g2 number).1 (own_none g1 g2 number (length out) t)) in
        wrote_by o (show_said desk g1 g2 number) ls d out out' out_is t 6 (ap length s.part_is)

    exported : ShowExported g1 g2 number out out' (shown_numbers c)
    exported = record {
      refuses = refuses_by shown_enum shown_numbers shown_heard o (show_said desk g1 g2 number) ls d c is_answer out out' out_is;
      shown_iff = (λ q. (is_part.0 q).0, λ t. is_part.1 (t, refl, refl));
      writes = λ q.
          let t = (is_part.0 q).0 in
          let s = show_says desk g1 g2 number (show_said desk g1 g2 number) ((show_accepted desk g1 g2 number).1 (own_none g1 g2 number (length out) t)) in
          record { in_range = s.in_range; part_is = (wrote t).result ∙ s.part_is };
      past_unchanged = λ q. (wrote (is_part.0 q).0).rest;
    }

pub show_exported : (g1 g2 : List ℕ) (number : ℕ) (out out' : List ℕ) (a : Answer) → GivesOut (fitting (length out) (shown desk g1 g2 number)) out out' a
    → ShowExported g1 g2 number out out' a
show_exported g1 g2 number out out' a gives =
    let c = outcome_case shown_enum _ _ _ (exported_decided g1 g2 number (length out)) Part refl in
    subst (ShowExported g1 g2 number out out') (sym (gives.numbers_are ∙ ap answer_numbers (sym c.1))) (exported g1 g2 number out out' c.0 c.1 gives.out_is)
