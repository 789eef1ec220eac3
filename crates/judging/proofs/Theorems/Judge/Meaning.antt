-- The theorems of specs/Judge/Meaning that rest on a definition which a must-fail edit turns: there they could not be read under the edit.
-- Meaning: What a returned value of judging means. The only hypothesis is what the contract of `judge` states.
use Rattle.files.specs.declared.refusal.Refusal.{Refusal}
use Rattle.std.specs.Prelude.{List, ℕ, length, Result}
use Rattle.files.specs.Decode.{decode_graph, decode_property}
use Rattle.files.specs.Outcome.{Does}
use Rattle.files.specs.Outcome.Meaning.{Heard, itself, heard_itself, clears_by}
use Rattle.files.specs.declared.record.Limits.{Limits}
use Rattle.judging.specs.declared.answers.Judged.{Judged}
use Rattle.judging.specs.Judge.{judged_answer, judged}
use Rattle.judging.proofs.Theorems.Judge.Laws.{judge_says}
use Rattle.judging.specs.Judge.Meaning.{JudgeMeans, decided, judged_enum, ls, verdict_tells}

module _ {R : Type 0} (tell : Result Judged Refusal → R) (heard : Heard tell) (L : Limits) (g p out work out' work' : List ℕ) (c : Result Judged Refusal)
    (does : Does (judged L g p (length out) (length work)) out work out' work' (judged_answer c)) where
  pub judge_tells : JudgeMeans tell L g p out work out' work' (tell c)
  judge_tells = record {
    verdict = verdict_tells tell heard (decode_graph g) (decode_property p) _ (ls tell heard L g p out work out' work' c does) (decided tell heard L g p out work out' work' c does) (λ t. judge_says L g p (length out) (length work) _ ((decided tell heard L g p out work out' work' c does).accepted.1 t)) out out' c does.answers;
    clears = clears_by judged_enum tell heard _ _ (ls tell heard L g p out work out' work' c does) (decided tell heard L g p out work out' work' c does) c does.answers.answer_is work work' does.work_is;
  }

-- The returned value, from what the contract states of it.
pub judge_means : (L : Limits) (g p out work out' work' : List ℕ) (r : Result Judged Refusal)
    → Does (judged L g p (length out) (length work)) out work out' work' (judged_answer r) → JudgeMeans itself L g p out work out' work' r
judge_means L g p out work out' work' r does = judge_tells itself heard_itself L g p out work out' work' r does
