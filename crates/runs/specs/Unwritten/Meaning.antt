-- What a returned value of the verdict on two unwritten sides means. The only hypothesis is what the contract of `compose_both` states.
-- Its theorems that rest on a definition which a must-fail edit turns stand in proofs/Theorems/Unwritten/Meaning.
use Rattle.files.specs.declared.refusal.Refusal.{Refusal}
use Rattle.std.specs.Prelude.{◌≡◌, List, ℕ, length, Result, Err}
use Rattle.files.specs.Decode.{decode_rules}
use Rattle.files.specs.Outcome.{Outcome, answer, Lines, DoesBoth}
use Rattle.files.specs.Outcome.Meaning.{Decided, Clears, Heard, only_verdict, outcome_case}
use Rattle.files.specs.Rules.{watch}
use Rattle.files.specs.declared.record.Limits.{Limits}
use Rattle.runs.specs.Answer.{watched_answer, verdict_enum}
use Rattle.runs.specs.Composing.Returned.{SidesMeans, sides_numbered, sides_told}
use Rattle.runs.specs.Unwritten.{first_side, second_side, both_said, both_checks, both_lines, composed_both}
use Rattle.runs.specs.Unwritten.Laws.{both_refused, both_accepted}
use Rattle.runs.specs.declared.answers.Verdict.{Verdict}

-- what is said of any two sides, of these two; both buffers are cleared as one
pub record BothMeans {R : Type 0} (tell : Result Verdict Refusal → R) (L : Limits) (i₁ p₁ i₂ p₂ r : List ℕ) (m : ℕ) (out store work out' store' work' : List ℕ) (v : R) : Type 0 where
  pub sides : SidesMeans tell (both_lines L i₁ p₁ i₂ p₂ r m (length out) (length store) (length work)) (first_side i₁ p₁) (second_side i₂ p₂) (watch (decode_rules r)) m out out' v
  pub clears_store : Clears (λ x. tell (Err x)) store store' v
  pub clears_work : Clears (λ x. tell (Err x)) work work' v

module _ (L : Limits) (i₁ p₁ i₂ p₂ r : List ℕ) (m out store work : ℕ) where
  both_decided : Decided (composed_both L i₁ p₁ i₂ p₂ r m out store work) (both_said i₁ p₁ i₂ p₂ r m) (both_lines L i₁ p₁ i₂ p₂ r m out store work)
  unfolding composed_both
  both_decided = record {
    refused = both_refused L i₁ p₁ i₂ p₂ r m out store work;
    accepted = both_accepted L i₁ p₁ i₂ p₂ r m out store work;
    only = only_verdict (both_checks L i₁ p₁ i₂ p₂ r m out store work) (both_said i₁ p₁ i₂ p₂ r m);
    numbered = sides_numbered (first_side i₁ p₁) (second_side i₂ p₂) (watch (decode_rules r)) m;
  }

  -- every outcome is a case of the enum
  pub both_case : (c : Result Verdict Refusal) × (watched_answer c ≡ answer (composed_both L i₁ p₁ i₂ p₂ r m out store work))
  both_case = let x = sides_told (first_side i₁ p₁) (second_side i₂ p₂) (watch (decode_rules r)) m in outcome_case verdict_enum _ _ _ both_decided x.0 x.1

module _ {R : Type 0} (tell : Result Verdict Refusal → R) (heard : Heard tell) (L : Limits) (i₁ p₁ i₂ p₂ r : List ℕ) (m : ℕ) (out store work out' store' work' : List ℕ) (c : Result Verdict Refusal)
    (does : DoesBoth (composed_both L i₁ p₁ i₂ p₂ r m (length out) (length store) (length work)) out store work out' store' work' (watched_answer c)) where
  abbrev pub o : Outcome
  o = composed_both L i₁ p₁ i₂ p₂ r m (length out) (length store) (length work)

  abbrev pub ls : Lines
  ls = both_lines L i₁ p₁ i₂ p₂ r m (length out) (length store) (length work)

  pub d : Decided o (both_said i₁ p₁ i₂ p₂ r m) ls
  d = both_decided L i₁ p₁ i₂ p₂ r m (length out) (length store) (length work)
