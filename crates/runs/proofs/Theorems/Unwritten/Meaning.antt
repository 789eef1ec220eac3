-- The theorems of specs/Unwritten/Meaning that rest on a definition which a must-fail edit turns: there they could not be read under the edit.
-- Meaning: What a returned value of the verdict on two unwritten sides means. The only hypothesis is what the contract of `compose_both` states.
use Rattle.files.specs.declared.refusal.Refusal.{Refusal}
use Rattle.std.specs.Prelude.{List, ℕ, length, Result}
use Rattle.files.specs.Decode.{decode_rules}
use Rattle.files.specs.Outcome.{NoneOf, DoesBoth}
use Rattle.files.specs.Outcome.Meaning.{Heard, itself, heard_itself, clears_by}
use Rattle.files.specs.Rules.{watch}
use Rattle.files.specs.declared.record.Limits.{Limits}
use Rattle.runs.specs.Answer.{watched_answer, verdict_enum}
use Rattle.runs.specs.Composing.Entries.{SidesSay}
use Rattle.runs.specs.Composing.Returned.{sides_tell}
use Rattle.runs.specs.Unwritten.{first_side, second_side, both_said, composed_both}
use Rattle.runs.proofs.Theorems.Unwritten.Laws.{both_says}
use Rattle.runs.specs.declared.answers.Verdict.{Verdict}
use Rattle.runs.specs.Unwritten.Meaning.{BothMeans, d, ls, o}

module _ {R : Type 0} (tell : Result Verdict Refusal → R) (heard : Heard tell) (L : Limits) (i₁ p₁ i₂ p₂ r : List ℕ) (m : ℕ) (out store work out' store' work' : List ℕ) (c : Result Verdict Refusal)
    (does : DoesBoth (composed_both L i₁ p₁ i₂ p₂ r m (length out) (length store) (length work)) out store work out' store' work' (watched_answer c)) where
  means : NoneOf (ls tell heard L i₁ p₁ i₂ p₂ r m out store work out' store' work' c does) → SidesSay (first_side i₁ p₁) (second_side i₂ p₂) (watch (decode_rules r)) m (both_said i₁ p₁ i₂ p₂ r m)
  means t = both_says L i₁ p₁ i₂ p₂ r m (length out) (length store) (length work) (both_said i₁ p₁ i₂ p₂ r m) ((d tell heard L i₁ p₁ i₂ p₂ r m out store work out' store' work' c does).accepted.1 t)

  pub both_tells : BothMeans tell L i₁ p₁ i₂ p₂ r m out store work out' store' work' (tell c)
  both_tells = record {
    sides = sides_tell tell heard (o tell heard L i₁ p₁ i₂ p₂ r m out store work out' store' work' c does) (both_said i₁ p₁ i₂ p₂ r m) (ls tell heard L i₁ p₁ i₂ p₂ r m out store work out' store' work' c does) (d tell heard L i₁ p₁ i₂ p₂ r m out store work out' store' work' c does) (first_side i₁ p₁) (second_side i₂ p₂) (watch (decode_rules r)) m means out out' c does.answers;
    clears_store = clears_by verdict_enum tell heard (o tell heard L i₁ p₁ i₂ p₂ r m out store work out' store' work' c does) (both_said i₁ p₁ i₂ p₂ r m) (ls tell heard L i₁ p₁ i₂ p₂ r m out store work out' store' work' c does) (d tell heard L i₁ p₁ i₂ p₂ r m out store work out' store' work' c does) c does.answers.answer_is store store' does.store_is;
    clears_work = clears_by verdict_enum tell heard (o tell heard L i₁ p₁ i₂ p₂ r m out store work out' store' work' c does) (both_said i₁ p₁ i₂ p₂ r m) (ls tell heard L i₁ p₁ i₂ p₂ r m out store work out' store' work' c does) (d tell heard L i₁ p₁ i₂ p₂ r m out store work out' store' work' c does) c does.answers.answer_is work work' does.work_is;
  }

-- The returned value, from what the contract states of it.
pub both_means : (L : Limits) (i₁ p₁ i₂ p₂ r : List ℕ) (m : ℕ) (out store work out' store' work' : List ℕ) (v : Result Verdict Refusal)
    → DoesBoth (composed_both L i₁ p₁ i₂ p₂ r m (length out) (length store) (length work)) out store work out' store' work' (watched_answer v)
    → BothMeans itself L i₁ p₁ i₂ p₂ r m out store work out' store' work' v
both_means L i₁ p₁ i₂ p₂ r m out store work out' store' work' v does = both_tells itself heard_itself L i₁ p₁ i₂ p₂ r m out store work out' store' work' v does
