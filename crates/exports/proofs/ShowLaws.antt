-- What the boundary gives back where a call's result goes to an output of its own: its refusal, 12 where the result does not fit, or the result written; and what is shown at a place that was found.
use Rattle.std.specs.Prelude.{Result, Err}
use mathlib.Core.Path.{◌≡◌, sym, ap, subst, ◌∙◌}
use mathlib.Core.Bool.{Bool, true, false, cond}
use mathlib.Core.List.{List}
use Prim.Native.Nat.{ℕ, ◌≤◌, ◌<◌}
use lib.Dec.{ltb}
use lib.ListN.{length}
use borrow.Author.Tests.{lt-ltb, le-ltb}
use Rattle.files.specs.Cells.{put_at}
use Rattle.files.specs.Cells.Laws.{put_front}
use Rattle.files.specs.Limits.{desk}
use Rattle.files.specs.Outcome.{Said, Outcome, refuses, says, refusal_at, answer, out_after}
use Rattle.files.specs.Outcome.Laws.{refusal_leaves_output}
use Rattle.files.specs.declared.record.Limits.{Limits}
use Rattle.files.specs.declared.refusal.Refusal.{Refusal}
use Rattle.runs.specs.Showing.{part_said, shown, outcome_at, InFile, Stands, found_place}
use Rattle.runs.specs.Showing.Work.{stands_found}
use Rattle.runs.specs.declared.showing.Place.{Place}
use Rattle.exports.specs.Boundary.{refused_numbers, answer_numbers, GivesOut, fitting}
use Rattle.exports.specs.declared.Answer.{Answer}

refusal_given : (o : Outcome) (out : List ℕ) (r : Refusal) (a : Answer) → o ≡ refuses r → a ≡ refused_numbers r → GivesOut o out out a
refusal_given o out r a e d = record {
  numbers_are = d ∙ sym (ap (λ (x : Outcome). answer_numbers (answer x)) e);
  out_is = sym (ap (λ (x : Outcome). out_after x out) e ∙ refusal_leaves_output r out);
}

-- ---- a result

module _ (out : List ℕ) (s : Said) where
  by_length : (b : Bool) → ltb (length out) (length s.written) ≡ b → fitting (length out) (says s) ≡ cond b (refuses (refusal_at 12 0 0)) (says s)
  by_length b = ap (λ (x : Bool). cond x (refuses (refusal_at 12 0 0)) (says s))

  -- it does not fit
  pub short_given : (r : Refusal) (a : Answer) → length out < length s.written → r ≡ refusal_at 12 0 0 → a ≡ refused_numbers r → GivesOut (fitting (length out) (says s)) out out a
  short_given r a h e =
      refusal_given (fitting (length out) (says s)) out r a (by_length true (lt-ltb (length out) (length s.written) h) ∙ ap refuses (sym e))

  -- it is written
  pub result_given : (out' : List ℕ) (a : Answer) → length s.written ≤ length out → out' ≡ put_at out 0 s.written → a ≡ answer_numbers (answer (says s))
      → GivesOut (fitting (length out) (says s)) out out' a
  result_given out' a h e d =
      let f : fitting (length out) (says s) ≡ says s = by_length false (le-ltb (length out) (length s.written) h) in
      record {
        numbers_are = d ∙ sym (ap (λ (x : Outcome). answer_numbers (answer x)) f);
        out_is = e ∙ put_front out s.written ∙ sym (ap (λ (x : Outcome). out_after x out) f);
      }

-- ---- what is shown, at the place that was found within the limits of the desk

module _ (L : Limits) (limits : L ≡ desk) (g1 g2 : List ℕ) (number : ℕ) (p : Result Place Refusal) (found : p ≡ found_place L g1 g2 number) where
  abbrev o : Outcome
  o = shown desk g1 g2 number

  at : (q : Result Place Refusal) → p ≡ q → Stands o g1 g2 q
  at q e =
      let there : found_place desk g1 g2 number ≡ q = sym (ap (λ (M : Limits). found_place M g1 g2 number) limits) ∙ sym found ∙ e in
      subst (Stands o g1 g2) there (stands_found desk g1 g2 number)

  pub in_file : (q : Result Place Refusal) → p ≡ q → InFile g1 g2 q
  in_file q e = (at q e).1

  pub nowhere_given : (out : List ℕ) (r : Refusal) (a : Answer) → p ≡ Err r → a ≡ refused_numbers r → GivesOut (fitting (length out) o) out out a
  nowhere_given out r a e = refusal_given (fitting (length out) o) out r a (ap (fitting (length out)) (at (Err r) e).0)

  -- what is given of the bytes that stand there is given of the outcome
  pub shown_given : (q : Result Place Refusal) (bytes out out' : List ℕ) (a : Answer) → p ≡ q → outcome_at g1 g2 q ≡ says (part_said bytes)
      → GivesOut (fitting (length out) (says (part_said bytes))) out out' a → GivesOut (fitting (length out) o) out out' a
  shown_given q bytes out out' a e d = subst (λ (x : Outcome). GivesOut (fitting (length out) x) out out' a) (sym ((at q e).0 ∙ d))
