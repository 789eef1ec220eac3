-- How the work of a call ends: a result that is too large or does not fit is refused, another is written; and what a check that passes leaves to those that follow.
use Rattle.std.specs.Prelude.{◌≡◌, refl, Bool, true, false, List, [], ◌∷◌, ◌++◌, ℕ, ◌≤◌, ◌<◌, T, ltb, length, drop}
use Rattle.std.proofs.Common.{sym, ap, ap₂, ◌∙◌, arith, lt-ltb, le-ltb}
use Rattle.std.proofs.Math.Option.{Option, none}
use Rattle.files.specs.Basics.Tests.{T_eq}
use Rattle.files.specs.Decode.{graph_bytes}
use Rattle.files.specs.Graph.{Graph, size}
use Rattle.files.specs.Outcome.{Said, Outcome, refuses, says, Answer, Answers, answer, refused_answer, verdict_answer, Check, file_checks, whole_check, out_check}
use Rattle.files.specs.Outcome.{first_refusal, unless, answered, refusal_at, out_after, too_large, TooLarge, graph_said}
use Rattle.files.specs.Outcome.Laws.{file_first, file_or, refusal_leaves_output, says_too_large}
use Rattle.files.specs.Refusal.{Kind, refusal}
use Rattle.files.specs.declared.record.Limits.{Limits}
use Rattle.files.specs.declared.refusal.Refusal.{Refusal}

module _ (L : Limits) (f : ℕ) (k : Kind) (l : List ℕ) (cs : List Check) (s : Said) where
  by_file : (o : Option (ℕ × ℕ)) → refusal L k l ≡ o → answered (file_checks L f k l cs) s ≡ unless (file_or f o (first_refusal cs)) s
  by_file o e = ap (λ (x : Option Refusal). unless x s) (file_first L f k l cs ∙ ap (λ (y : Option (ℕ × ℕ)). file_or f y (first_refusal cs)) e)

  pub accepted_passes : refusal L k l ≡ none → answered (file_checks L f k l cs) s ≡ answered cs s
  accepted_passes e = by_file none e

-- a number of no file
pub whole_refuses : (n : ℕ) (b : Bool) (cs : List Check) (s : Said) → b ≡ true → answered (whole_check n b cs) s ≡ refuses (refusal_at n 0 0)
whole_refuses n true cs s e = refl
whole_refuses n false cs s e = let z : ◌≡◌ {A = ℕ} 0 1 = cc in absurd (omega arith)

pub whole_passes : (n : ℕ) (b : Bool) (cs : List Check) (s : Said) → b ≡ false → answered (whole_check n b cs) s ≡ answered cs s
whole_passes n true cs s e = let z : ◌≡◌ {A = ℕ} 0 1 = cc in absurd (omega arith)
whole_passes n false cs s e = refl

-- a refusal is answered, and the output is as it was
pub answers_refused : (o : Outcome) (r : Refusal) (out : List ℕ) → o ≡ refuses r → Answers o out out (refused_answer r)
answers_refused o r out e = record {
  answer_is = sym (ap answer e);
  out_is = sym (ap (λ (x : Outcome). out_after x out) e ∙ refusal_leaves_output r out);
}

-- the same outcome by another name
pub answers_same : (o o' : Outcome) (out out' : List ℕ) (a : Answer) → o' ≡ o → Answers o out out' a → Answers o' out out' a
answers_same o o' out out' a e x = record { answer_is = x.answer_is ∙ sym (ap answer e); out_is = x.out_is ∙ sym (ap (λ (y : Outcome). out_after y out) e) }

-- ---- the output

-- what fits is said
pub out_passes : (n : ℕ) (s : Said) → length s.written ≤ n → answered (out_check n s) s ≡ says s
out_passes n s h = whole_passes 12 (ltb n (length s.written)) [] s (le-ltb n (length s.written) h)

-- what does not fit is refused
pub out_refuses : (n : ℕ) (s : Said) → n < length s.written → answered (out_check n s) s ≡ refuses (refusal_at 12 0 0)
out_refuses n s h = whole_refuses 12 (ltb n (length s.written)) [] s (lt-ltb n (length s.written) h)

-- ---- a graph as the result: 11, 12, or written

module _ (L : Limits) (G : Graph) (more out : List ℕ) where
  abbrev graph_made : Said
  graph_made = graph_said G more

  abbrev fitting : List Check
  fitting = out_check (length out) graph_made

  abbrev sized : Outcome
  sized = answered (whole_check 11 (too_large L G) fitting) graph_made

  pub answers_large : (r : Refusal) → TooLarge L G → r ≡ refusal_at 11 0 0 → Answers sized out out (refused_answer r)
  answers_large r h e =
      answers_refused sized r out (whole_refuses 11 (too_large L G) fitting graph_made (T_eq (too_large L G) ((says_too_large L G).hear h)) ∙ ap refuses (sym e))

  module _ (small : TooLarge L G → ⊥) where
    after_eleven : sized ≡ answered fitting graph_made
    after_eleven = whole_passes 11 (too_large L G) fitting graph_made (off (too_large L G) (λ t. small ((says_too_large L G).say t)))
      where
        off : (b : Bool) → (T b → ⊥) → b ≡ false
        off true f = absurd (f tt)
        off false f = refl

    pub answers_short : (r : Refusal) → length out < length (graph_bytes G) → r ≡ refusal_at 12 0 0 → Answers sized out out (refused_answer r)
    answers_short r h e = answers_refused sized r out (after_eleven ∙ out_refuses (length out) graph_made h ∙ ap refuses (sym e))

    pub answers_written : (out' : List ℕ) (n m : ℕ) → length (graph_bytes G) ≤ length out → out' ≡ graph_bytes G ++ drop (length (graph_bytes G)) out → n ≡ size G → m ≡ length G.edges
        → Answers sized out out' (verdict_answer 1 (n ∷ m ∷ more))
    answers_written out' n m h e a b =
        let o : sized ≡ says graph_made = after_eleven ∙ out_passes (length out) graph_made h in
        record { answer_is = ap₂ (λ (j k : ℕ). verdict_answer 1 (j ∷ k ∷ more)) a b ∙ sym (ap answer o); out_is = e ∙ sym (ap (λ (y : Outcome). out_after y out) o) }
