-- What the C boundary gives back: each answer as six numbers, through one definition for each type of answer.
use Rattle.std.specs.Prelude.{◌≡◌, cond, List, ℕ, eqb, ltb, length, get_or, Ok, Err}
use Rattle.files.specs.declared.refusal.Refusal.{Refusal}
use Rattle.files.specs.Outcome.{Checked, Outcome, refuses, says, refusal_at, answer, out_after, work_after}
use Rattle.files.specs.Outcome as outcome
use Rattle.judging.specs.Delivered.{deliveries_store}
use Rattle.judging.specs.Places.{judge_room, compare_room}
use Rattle.maximal.specs.Places.{model_room}
use Rattle.runs.specs.Composing.{compose_store, compose_work}
use Rattle.runs.specs.Regions.{watch_room}
use Rattle.runs.specs.Unwritten.{both_store, both_work}
use Rattle.exports.specs.declared.Answer.{Answer}

-- verdict 0: the refusal's number, then file and record
abbrev pub refused_numbers : Refusal → Answer
refused_numbers r = record { verdict = 0; number = r.number; first = r.file; second = r.«record»; third = 0; fourth = 0 }

-- a verdict with its values
abbrev pub verdict_numbers : ℕ → ℕ → ℕ → ℕ → ℕ → Answer
verdict_numbers v a b c d = record { verdict = v; number = 0; first = a; second = b; third = c; fourth = d }

-- a file accepted is verdict 1 with its nodes and its records
abbrev pub checked_numbers : Checked → Answer
checked_numbers (Ok c) = verdict_numbers 1 c.nodes c.records 0 0
checked_numbers (Err r) = refused_numbers r

-- an answer of any call as six numbers: its values from first on, 0 where it has no more
abbrev pub answer_numbers : outcome.Answer → Answer
answer_numbers a =
    record { verdict = a.verdict; number = a.number; first = get_or a.values 0 0; second = get_or a.values 1 0; third = get_or a.values 2 0; fourth = get_or a.values 3 0 }

-- what a call gives back at the boundary, by its outcome
pub record Gives (o : Outcome) (out work out' work' : List ℕ) (a : Answer) : Type 0 where
  pub numbers_are : a ≡ answer_numbers (answer o)
  pub out_is : out' ≡ out_after o out
  pub work_is : work' ≡ work_after o work

-- the same of a call that is lent two work buffers
pub record GivesBoth (o : Outcome) (out store work out' store' work' : List ℕ) (a : Answer) : Type 0 where
  pub numbers_are : a ≡ answer_numbers (answer o)
  pub out_is : out' ≡ out_after o out
  pub store_is : store' ≡ work_after o store
  pub work_is : work' ≡ work_after o work

-- the same of a call that is lent no work buffer
pub record GivesOut (o : Outcome) (out out' : List ℕ) (a : Answer) : Type 0 where
  pub numbers_are : a ≡ answer_numbers (answer o)
  pub out_is : out' ≡ out_after o out

-- a result that goes to an output of so many bytes: 12 where it does not fit, after all refusals of the call itself
abbrev pub fitting : ℕ → Outcome → Outcome
fitting out (refuses r) = refuses r
fitting out (says s) = cond (ltb out (length s.written)) (refuses (refusal_at 12 0 0)) (says s)

-- the published length of a call's work buffer, by the call's number; 8 is the composed verdict's `store`, 9 is judging deliveries, 10 its `store`,
-- 11 is the composed verdict of two unwritten sides, 12 its `store`
abbrev pub work_lengths : ℕ → ℕ
work_lengths call =
    cond (eqb call 1) judge_room (cond (eqb call 2) compare_room (cond (eqb call 3) model_room (cond (eqb call 6) watch_room (cond (eqb call 7) compose_work
    (cond (eqb call 8) compose_store (cond (eqb call 9) judge_room (cond (eqb call 10) deliveries_store (cond (eqb call 11) both_work (cond (eqb call 12) both_store 0)))))))))
