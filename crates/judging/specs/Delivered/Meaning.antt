-- What a returned value of judging deliveries means, and what becomes of it where a delivery is appended. The only hypothesis is what the contract of `judge_deliveries` states.
-- Its theorems that rest on a definition which a must-fail edit turns stand in proofs/Theorems/Delivered/Meaning.
use Rattle.files.specs.declared.refusal.Refusal.{Refusal}
use Rattle.std.specs.Prelude.{◌≡◌, List, ◌++◌, ℕ, length, Result, Err}
use Rattle.std.proofs.Common.{sym, ap, ◌∙◌}
use Rattle.files.specs.Assemble.{standing_graph, Taken}
use Rattle.files.specs.Basics.Permuted.{Permuted}
use Rattle.files.specs.Decode.{decode_property}
use Rattle.files.specs.Deliveries.{Delivery, decode_deliveries, deliveries_bytes, standing}
use Rattle.files.specs.Deliveries.Written.{Opened}
use Rattle.files.specs.Outcome.{Outcome, DoesBoth, answer, out_after, Lines}
use Rattle.files.specs.Outcome.Meaning.{Decided, Clears, Heard, only_verdict, outcome_case}
use Rattle.files.specs.declared.record.Limits.{Limits}
use Rattle.judging.specs.Delivered.{delivered_verdict, delivered_checks, delivered_lines, delivered}
use Rattle.judging.specs.Delivered.Laws.{delivered_refused, delivered_accepted, appended_judged}
use Rattle.judging.specs.Judge.{judged_answer}
use Rattle.judging.specs.Judge.Meaning.{judged_enum, judged_of, judged_back, judge_numbered, judge_told, VerdictMeans}
use Rattle.judging.specs.declared.answers.Judged.{Judged}

-- a verdict on the standing graph, in its numbers; both buffers are cleared as one
pub record DeliveredMeans {R : Type 0} (tell : Result Judged Refusal → R) (L : Limits) (l p out store work out' store' work' : List ℕ) (r : R) : Type 1 where
  pub verdict : VerdictMeans tell (standing_graph l) (decode_property p) (delivered_lines L l p (length out) (length store) (length work)) out out' r
  pub clears_store : Clears (λ x. tell (Err x)) store store' r
  pub clears_work : Clears (λ x. tell (Err x)) work work' r

-- ---- the outcome

module _ (L : Limits) (l p : List ℕ) (out store work : ℕ) where
  delivered_decided : Decided (delivered L l p out store work) (delivered_verdict L l p out store work) (delivered_lines L l p out store work)
  unfolding delivered
  delivered_decided = record {
    refused = delivered_refused L l p out store work;
    accepted = delivered_accepted L l p out store work;
    only = only_verdict (delivered_checks L l p out store work) (delivered_verdict L l p out store work);
    numbered = judge_numbered (standing_graph l) (decode_property p);
  }

  -- every outcome is a case of the enum
  pub delivered_case : (c : Result Judged Refusal) × (judged_answer c ≡ answer (delivered L l p out store work))
  delivered_case = let x = judge_told (standing_graph l) (decode_property p) in outcome_case judged_enum _ _ _ delivered_decided x.0 x.1

-- ---- what the contract gives, and so what is told of it

module _ {R : Type 0} (tell : Result Judged Refusal → R) (heard : Heard tell) (L : Limits) (l p out store work out' store' work' : List ℕ) (c : Result Judged Refusal)
    (does : DoesBoth (delivered L l p (length out) (length store) (length work)) out store work out' store' work' (judged_answer c)) where
  abbrev pub ls : Lines
  ls = delivered_lines L l p (length out) (length store) (length work)

  pub decided : Decided (delivered L l p (length out) (length store) (length work)) (delivered_verdict L l p (length out) (length store) (length work)) ls
  decided = delivered_decided L l p (length out) (length store) (length work)

-- "When a delivery appended to an accepted file leaves it accepted, .. judgement equal those of the standing deliveries alone in any order": of returned values and output
-- bytes, for every property, output and lengths of the buffers.
pub judgement_returned : (L : Limits) (l d p : List ℕ) → Taken L l → Opened d → Taken L (l ++ d) → (es : List Delivery) → Permuted (standing (decode_deliveries l ++ decode_deliveries d)) es
    → (out store work out₁ out₂ store₁ store₂ work₁ work₂ : List ℕ) (r₁ r₂ : Result Judged Refusal)
    → DoesBoth (delivered L (l ++ d) p (length out) (length store) (length work)) out store work out₁ store₁ work₁ (judged_answer r₁)
    → DoesBoth (delivered L (deliveries_bytes es) p (length out) (length store) (length work)) out store work out₂ store₂ work₂ (judged_answer r₂) → (r₁ ≡ r₂) × (out₁ ≡ out₂)
judgement_returned L l d p before begins after es order out store work out₁ out₂ store₁ store₂ work₁ work₂ r₁ r₂ a b =
    let same = appended_judged L l d p before begins after es order (length out) (length store) (length work) in
    let codes : judged_answer r₁ ≡ judged_answer r₂ = a.answers.answer_is ∙ ap answer (sym same) ∙ sym b.answers.answer_is in
    (sym (judged_back r₁) ∙ ap judged_of codes ∙ judged_back r₂, a.answers.out_is ∙ ap (λ (o : Outcome). out_after o out) (sym same) ∙ sym b.answers.out_is)
