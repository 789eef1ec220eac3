-- What the six numbers of each call at the C boundary mean: what the returned value of the call behind it means, told in numbers. The only hypothesis is what the
-- contract of the export states, of the answer and of the exit bytes.
use Rattle.files.specs.declared.refusal.Refusal.{Refusal}
use Rattle.std.specs.Prelude.{◌≡◌, refl, List, [], ◌∷◌, ℕ, length, Result, Ok, Err}
use Rattle.std.proofs.Common.{sym, ap, subst, ◌∙◌}
use Rattle.files.specs.Assemble.{Assembled, assembled_outcome, assembled_answer}
use Rattle.files.specs.Assemble.Meaning.{AssembleMeans, assembled_of, assemble_case, assemble_tells}
use Rattle.files.specs.Limits.{desk}
use Rattle.files.specs.Outcome as outcome
use Rattle.files.specs.Outcome.Meaning.{Heard}
use Rattle.judging.specs.Compare.{compared, compared_answer}
use Rattle.judging.specs.Compare.Meaning.{CompareMeans, compared_of, compare_case, compare_tells}
use Rattle.judging.specs.Delivered.{delivered}
use Rattle.judging.specs.Delivered.Meaning.{DeliveredMeans, delivered_case}
use Rattle.judging.proofs.Theorems.Delivered.Meaning.{delivered_tells}
use Rattle.judging.specs.Judge.{judged, judged_answer}
use Rattle.judging.specs.Judge.Meaning.{JudgeMeans, judged_of, judge_case}
use Rattle.judging.proofs.Theorems.Judge.Meaning.{judge_tells}
use Rattle.judging.specs.declared.answers.Compared.{Compared}
use Rattle.judging.specs.declared.answers.Compared.TheVariants as compared_variants
use Rattle.judging.specs.declared.answers.Judged.{Judged}
use Rattle.judging.specs.declared.answers.Judged.TheVariants as judged_variants
use Rattle.maximal.specs.Modelling.{Modelled, modelled, modelled_answer}
use Rattle.maximal.specs.Modelling.Meaning.{ModelMeans, modelled_of, model_case}
use Rattle.maximal.proofs.Theorems.Modelling.Meaning.{model_tells}
use Rattle.runs.specs.Answer.{watched_answer, verdict_of}
use Rattle.runs.specs.Composing.{composed}
use Rattle.runs.specs.Composing.Meaning.{ComposeMeans, compose_case}
use Rattle.runs.proofs.Theorems.Composing.Meaning.{compose_tells}
use Rattle.runs.specs.Joining.{joined, joined_answer}
use Rattle.runs.specs.Joining.Meaning.{JoinMeans, joined_of, join_case, join_tells}
use Rattle.runs.specs.Unwritten.{composed_both}
use Rattle.runs.specs.Unwritten.Meaning.{BothMeans, both_case}
use Rattle.runs.proofs.Theorems.Unwritten.Meaning.{both_tells}
use Rattle.runs.specs.Watching.{watched}
use Rattle.runs.specs.Watching.Meaning.{WatchMeans, watch_case}
use Rattle.runs.proofs.Theorems.Watching.Meaning.{watch_tells}
use Rattle.runs.specs.declared.answers.Joined.{Joined}
use Rattle.runs.specs.declared.answers.Verdict.{Verdict}
use Rattle.runs.specs.declared.answers.Verdict.TheVariants as verdict_variants
use Rattle.exports.specs.Boundary.{answer_numbers, Gives, GivesBoth, GivesOut}
use Rattle.exports.specs.declared.Answer.{Answer}
pub mod Shown

-- ---- cases told in numbers, and heard from them

-- six numbers as an answer, its values the last four
abbrev pub as_answer : Answer → outcome.Answer
as_answer a = record { verdict = a.verdict; number = a.number; values = a.first ∷ a.second ∷ a.third ∷ a.fourth ∷ [] }

-- judging: verdict 1 holds; 2 fails, with the records of the sheet
abbrev pub judged_numbers : Result Judged Refusal → Answer
judged_numbers c = answer_numbers (judged_answer c)

judged_heard : Heard judged_numbers
judged_heard = record { hear = λ a. judged_of (as_answer a); hears = back }
  where
    back : (c : Result Judged Refusal) → judged_of (as_answer (judged_numbers c)) ≡ c
    back (Ok judged_variants.Holds) = refl
    back (Ok (judged_variants.Fails n)) = refl
    back (Err x) = refl

-- comparing: verdict 1 yes; 2 no, with the lowest uncovered entry
abbrev pub compared_numbers : Result Compared Refusal → Answer
compared_numbers c = answer_numbers (compared_answer c)

compared_heard : Heard compared_numbers
compared_heard = record { hear = λ a. compared_of (as_answer a); hears = back }
  where
    back : (c : Result Compared Refusal) → compared_of (as_answer (compared_numbers c)) ≡ c
    back (Ok compared_variants.Yes) = refl
    back (Ok (compared_variants.No n)) = refl
    back (Err x) = refl

-- modelling: verdict 1 written, with nodes and edges
abbrev pub modelled_numbers : Modelled → Answer
modelled_numbers c = answer_numbers (modelled_answer c)

modelled_heard : Heard modelled_numbers
modelled_heard = record { hear = λ a. modelled_of (as_answer a); hears = back }
  where
    back : (c : Modelled) → modelled_of (as_answer (modelled_numbers c)) ≡ c
    back (Ok v) = refl
    back (Err x) = refl

-- assembling: verdict 1 written, with nodes and edges
abbrev pub assembled_numbers : Assembled → Answer
assembled_numbers c = answer_numbers (assembled_answer c)

assembled_heard : Heard assembled_numbers
assembled_heard = record { hear = λ a. assembled_of (as_answer a); hears = back }
  where
    back : (c : Assembled) → assembled_of (as_answer (assembled_numbers c)) ≡ c
    back (Ok v) = refl
    back (Err x) = refl

-- joining: verdict 1 written, with nodes, edges, provided and required methods
abbrev pub joined_numbers : Result Joined Refusal → Answer
joined_numbers c = answer_numbers (joined_answer c)

joined_heard : Heard joined_numbers
joined_heard = record { hear = λ a. joined_of (as_answer a); hears = back }
  where
    back : (c : Result Joined Refusal) → joined_of (as_answer (joined_numbers c)) ≡ c
    back (Ok v) = refl
    back (Err x) = refl

-- watching and the composed verdict: verdict 1 clean; 2 bad, with the records of the trail; 3 impossible, of composed verdicts only
abbrev pub verdict_told : Result Verdict Refusal → Answer
verdict_told c = answer_numbers (watched_answer c)

verdict_heard : Heard verdict_told
verdict_heard = record { hear = λ a. verdict_of (as_answer a); hears = back }
  where
    back : (c : Result Verdict Refusal) → verdict_of (as_answer (verdict_told c)) ≡ c
    back (Ok verdict_variants.Clean) = refl
    back (Ok (verdict_variants.Bad n)) = refl
    back (Err x) = refl
    back (Ok verdict_variants.Impossible) = refl

-- ---- the calls (what is shown: Shown)

pub judge_exported : (g p out work out' work' : List ℕ) (a : Answer) → Gives (judged desk g p (length out) (length work)) out work out' work' a
    → JudgeMeans judged_numbers desk g p out work out' work' a
judge_exported g p out work out' work' a gives =
    let c = judge_case desk g p (length out) (length work) in
    subst (JudgeMeans judged_numbers desk g p out work out' work') (sym (gives.numbers_are ∙ ap answer_numbers (sym c.1)))
    (judge_tells judged_numbers judged_heard desk g p out work out' work' c.0 (record { answers = record { answer_is = c.1; out_is = gives.out_is }; work_is = gives.work_is }))

pub compare_exported : (f g out work out' work' : List ℕ) (a : Answer) → Gives (compared desk f g (length out) (length work)) out work out' work' a
    → CompareMeans compared_numbers desk f g out work out' work' a
compare_exported f g out work out' work' a gives =
    let c = compare_case desk f g (length out) (length work) in
    subst (CompareMeans compared_numbers desk f g out work out' work') (sym (gives.numbers_are ∙ ap answer_numbers (sym c.1)))
    (compare_tells compared_numbers compared_heard desk f g out work out' work' c.0 (record { answers = record { answer_is = c.1; out_is = gives.out_is }; work_is = gives.work_is }))

pub model_exported : (i p out work out' work' : List ℕ) (a : Answer) → Gives (modelled desk i p (length out) (length work)) out work out' work' a
    → ModelMeans modelled_numbers desk i p out work out' work' a
model_exported i p out work out' work' a gives =
    let c = model_case desk i p (length out) (length work) in
    subst (ModelMeans modelled_numbers desk i p out work out' work') (sym (gives.numbers_are ∙ ap answer_numbers (sym c.1)))
    (model_tells modelled_numbers modelled_heard desk i p out work out' work' c.0 (record { answers = record { answer_is = c.1; out_is = gives.out_is }; work_is = gives.work_is }))

pub assemble_exported : (l out out' : List ℕ) (a : Answer) → GivesOut (assembled_outcome desk l (length out)) out out' a → AssembleMeans assembled_numbers desk l out out' a
assemble_exported l out out' a gives =
    let c = assemble_case desk l (length out) in
    subst (AssembleMeans assembled_numbers desk l out out') (sym (gives.numbers_are ∙ ap answer_numbers (sym c.1)))
    (assemble_tells assembled_numbers assembled_heard desk l out out' c.0 (record { answer_is = c.1; out_is = gives.out_is }))

pub delivered_exported : (l p out store work out' store' work' : List ℕ) (a : Answer)
    → GivesBoth (delivered desk l p (length out) (length store) (length work)) out store work out' store' work' a → DeliveredMeans judged_numbers desk l p out store work out' store' work' a
delivered_exported l p out store work out' store' work' a gives =
    let c = delivered_case desk l p (length out) (length store) (length work) in
    subst (DeliveredMeans judged_numbers desk l p out store work out' store' work') (sym (gives.numbers_are ∙ ap answer_numbers (sym c.1)))
    (delivered_tells judged_numbers judged_heard desk l p out store work out' store' work' c.0
    (record { answers = record { answer_is = c.1; out_is = gives.out_is }; store_is = gives.store_is; work_is = gives.work_is }))

pub join_exported : (i1 g1 i2 g2 out out' : List ℕ) (a : Answer) → GivesOut (joined desk i1 g1 i2 g2 (length out)) out out' a
    → JoinMeans joined_numbers desk i1 g1 i2 g2 out out' a
join_exported i1 g1 i2 g2 out out' a gives =
    let c = join_case desk i1 g1 i2 g2 (length out) in
    subst (JoinMeans joined_numbers desk i1 g1 i2 g2 out out') (sym (gives.numbers_are ∙ ap answer_numbers (sym c.1)))
    (join_tells joined_numbers joined_heard desk i1 g1 i2 g2 out out' c.0 (record { answer_is = c.1; out_is = gives.out_is }))

pub watch_exported : (i g r : List ℕ) (m : ℕ) (out work out' work' : List ℕ) (a : Answer) → Gives (watched desk i g r m (length out) (length work)) out work out' work' a
    → WatchMeans verdict_told desk i g r m out work out' work' a
watch_exported i g r m out work out' work' a gives =
    let c = watch_case desk i g r m (length out) (length work) in
    subst (WatchMeans verdict_told desk i g r m out work out' work') (sym (gives.numbers_are ∙ ap answer_numbers (sym c.1)))
    (watch_tells verdict_told verdict_heard desk i g r m out work out' work' c.0 (record { answers = record { answer_is = c.1; out_is = gives.out_is }; work_is = gives.work_is }))

pub compose_exported : (ki kg oi p r : List ℕ) (m : ℕ) (out store work out' store' work' : List ℕ) (a : Answer)
    → GivesBoth (composed desk ki kg oi p r m (length out) (length store) (length work)) out store work out' store' work' a
    → ComposeMeans verdict_told desk ki kg oi p r m out store work out' store' work' a
compose_exported ki kg oi p r m out store work out' store' work' a gives =
    let c = compose_case desk ki kg oi p r m (length out) (length store) (length work) in
    subst (ComposeMeans verdict_told desk ki kg oi p r m out store work out' store' work') (sym (gives.numbers_are ∙ ap answer_numbers (sym c.1)))
    (compose_tells verdict_told verdict_heard desk ki kg oi p r m out store work out' store' work' c.0
    (record { answers = record { answer_is = c.1; out_is = gives.out_is }; store_is = gives.store_is; work_is = gives.work_is }))

pub both_exported : (i₁ p₁ i₂ p₂ r : List ℕ) (m : ℕ) (out store work out' store' work' : List ℕ) (a : Answer)
    → GivesBoth (composed_both desk i₁ p₁ i₂ p₂ r m (length out) (length store) (length work)) out store work out' store' work' a
    → BothMeans verdict_told desk i₁ p₁ i₂ p₂ r m out store work out' store' work' a
both_exported i₁ p₁ i₂ p₂ r m out store work out' store' work' a gives =
    let c = both_case desk i₁ p₁ i₂ p₂ r m (length out) (length store) (length work) in
    subst (BothMeans verdict_told desk i₁ p₁ i₂ p₂ r m out store work out' store' work') (sym (gives.numbers_are ∙ ap answer_numbers (sym c.1)))
    (both_tells verdict_told verdict_heard desk i₁ p₁ i₂ p₂ r m out store work out' store' work' c.0
    (record { answers = record { answer_is = c.1; out_is = gives.out_is }; store_is = gives.store_is; work_is = gives.work_is }))
