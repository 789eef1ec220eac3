-- The theorems of specs/Delivered/Meaning that rest on a definition which a must-fail edit turns: there they could not be read under the edit.
-- Meaning: What a returned value of judging deliveries means, and what becomes of it where a delivery is appended. The only hypothesis is what the contract of `judge_deliveries` states.
use Rattle.files.specs.declared.refusal.Refusal.{Refusal}
use Rattle.std.specs.Prelude.{List, ℕ, length, Result}
use Rattle.files.specs.Assemble.{standing_graph}
use Rattle.files.specs.Decode.{decode_property}
use Rattle.files.specs.Outcome.{DoesBoth}
use Rattle.files.specs.Outcome.Meaning.{Heard, itself, heard_itself, clears_by}
use Rattle.files.specs.declared.record.Limits.{Limits}
use Rattle.judging.specs.Delivered.{delivered}
use Rattle.judging.proofs.Theorems.Delivered.Laws.{delivered_says}
use Rattle.judging.specs.Judge.{judged_answer}
use Rattle.judging.specs.Judge.Meaning.{judged_enum, verdict_tells}
use Rattle.judging.specs.declared.answers.Judged.{Judged}
use Rattle.judging.specs.Delivered.Meaning.{DeliveredMeans, decided, ls}

module _ {R : Type 0} (tell : Result Judged Refusal → R) (heard : Heard tell) (L : Limits) (l p out store work out' store' work' : List ℕ) (c : Result Judged Refusal)
    (does : DoesBoth (delivered L l p (length out) (length store) (length work)) out store work out' store' work' (judged_answer c)) where
  pub delivered_tells : DeliveredMeans tell L l p out store work out' store' work' (tell c)
  delivered_tells = record {
    verdict =
        verdict_tells tell heard (standing_graph l) (decode_property p) _ (ls tell heard L l p out store work out' store' work' c does) (decided tell heard L l p out store work out' store' work' c does) (λ t. delivered_says L l p (length out) (length store) (length work) _ ((decided tell heard L l p out store work out' store' work' c does).accepted.1 t)) out out' c does.answers;
    clears_store = clears_by judged_enum tell heard _ _ (ls tell heard L l p out store work out' store' work' c does) (decided tell heard L l p out store work out' store' work' c does) c does.answers.answer_is store store' does.store_is;
    clears_work = clears_by judged_enum tell heard _ _ (ls tell heard L l p out store work out' store' work' c does) (decided tell heard L l p out store work out' store' work' c does) c does.answers.answer_is work work' does.work_is;
  }

-- The returned value, from what the contract states of it.
pub delivered_means : (L : Limits) (l p out store work out' store' work' : List ℕ) (r : Result Judged Refusal)
    → DoesBoth (delivered L l p (length out) (length store) (length work)) out store work out' store' work' (judged_answer r) → DeliveredMeans itself L l p out store work out' store' work' r
delivered_means L l p out store work out' store' work' r does = delivered_tells itself heard_itself L l p out store work out' store' work' r does
