-- The paper's number and values for each case of a verdict on runs.
use Rattle.std.specs.Prelude.{[], ◌∷◌, List, ◌≡◌, refl, ℕ, cond, eqb, get_or, Result, Ok, Err}
use Rattle.files.specs.Outcome.{Answer, refused_answer, verdict_answer, answer, says, refuses, refusal_at}
use Rattle.runs.specs.declared.answers.Verdict.{Verdict}
use Rattle.runs.specs.declared.answers.Verdict.TheVariants.{Clean, Bad, Impossible}
use Rattle.files.specs.Outcome.Meaning.{Enum}
use Rattle.files.specs.declared.refusal.Refusal.{Refusal}

abbrev pub watched_answer : Result Verdict Refusal → Answer
watched_answer (Ok Clean) = verdict_answer 1 []
watched_answer (Ok (Bad n)) = verdict_answer 2 (n ∷ [])
watched_answer (Err r) = refused_answer r
watched_answer (Ok Impossible) = verdict_answer 3 []

-- each case answers what its outcome says
pub verdict_answers : (n : ℕ) (ws : List ℕ) (r : Refusal) → (watched_answer (Ok Clean) ≡ answer (says (record { verdict = 1; values = []; written = [] })))
    × (watched_answer (Ok (Bad n)) ≡ answer (says (record { verdict = 2; values = n ∷ []; written = ws }))) × (watched_answer (Err r) ≡ answer (refuses r))
    × (watched_answer (Ok Impossible) ≡ answer (says (record { verdict = 3; values = []; written = [] })))
verdict_answers n ws r = (refl, refl, refl, refl)

-- the case of a number and its values
abbrev pub verdict_of : Answer → Result Verdict Refusal
verdict_of a = cond (eqb a.verdict 1) (Ok Clean) (cond (eqb a.verdict 2) (Ok (Bad (get_or a.values 0 0))) (cond (eqb a.verdict 3) (Ok Impossible)
    (Err (refusal_at a.number (get_or a.values 0 0) (get_or a.values 1 0)))))

pub verdict_back : (r : Result Verdict Refusal) → verdict_of (watched_answer r) ≡ r
verdict_back (Ok Clean) = refl
verdict_back (Ok (Bad n)) = refl
verdict_back (Err x) = refl
verdict_back (Ok Impossible) = refl

abbrev pub verdict_enum : Enum (Result Verdict Refusal)
verdict_enum = record { code = watched_answer; back = verdict_of; back_code = verdict_back; refused = Err; code_refused = λ x. refl }
