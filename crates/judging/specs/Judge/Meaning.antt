-- What a returned value of judging means. The only hypothesis is what the contract of `judge` states.
-- Its theorems that rest on a definition which a must-fail edit turns stand in proofs/Theorems/Judge/Meaning.
use Rattle.files.specs.declared.refusal.Refusal.{Refusal}
use Rattle.std.specs.Prelude.{◌≡◌, refl, ◌↔◌, cond, List, [], ◌∷◌, ℕ, ◌*◌, ◌<◌, eqb, length, get_or, take, drop, Result, Ok, Err}
use Rattle.std.proofs.Common.{sym, ap, subst, ◌∙◌, lit<}
use Rattle.files.specs.Decode.{decode_graph, decode_property}
use Rattle.files.specs.Graph.{Graph}
use Rattle.files.specs.Outcome.{Said, Outcome, Answer, Answers, Does, answer, says, refusal_at, NoneOf, Lines}
use Rattle.files.specs.Outcome.Meaning.{Decided, Refuses, Clears, Wrote, Enum, Heard, only_verdict, numbered_cond, outcome_case, case_cond, said_iff, refuses_by, wrote_by}
use Rattle.files.specs.Places.{record_len}
use Rattle.files.specs.Property.{Row}
use Rattle.files.specs.declared.record.Limits.{Limits}
use Rattle.judging.specs.declared.answers.Judged.{Judged}
use Rattle.judging.specs.declared.answers.Judged.TheVariants.{Holds, Fails}
use Rattle.judging.specs.Judge.{judged_answer, judge_said, judge_verdict, judge_checks, judge_lines, judged, Judges}
use Rattle.judging.specs.Judge.Laws.{judge_refused, judge_accepted}
use Rattle.judging.specs.Levels.{Satisfies, satisfies}
use Rattle.judging.specs.Levels.Sheet.{sheet, sheet_bytes, read_sheet}
use Rattle.judging.specs.Levels.Sheet.Laws.{sheet_bytes_length, sheet_read}
use Rattle.judging.specs.Levels.Sheet.Meaning.{SheetShows}

-- the case of a number and its values
abbrev pub judged_of : Answer → Result Judged Refusal
judged_of a = cond (eqb a.verdict 1) (Ok Holds) (cond (eqb a.verdict 2) (Ok (Fails (get_or a.values 0 0))) (Err (refusal_at a.number (get_or a.values 0 0) (get_or a.values 1 0))))

pub judged_back : (r : Result Judged Refusal) → judged_of (judged_answer r) ≡ r
judged_back (Ok Holds) = refl
judged_back (Ok (Fails n)) = refl
judged_back (Err x) = refl

abbrev pub judged_enum : Enum (Result Judged Refusal)
judged_enum = record { code = judged_answer; back = judged_of; back_code = judged_back; refused = Err; code_refused = λ x. refl }

-- what bytes of n records hold: the fault sheet, which shows why
pub record WrittenSheet (G : Graph) (P : List Row) (n : ℕ) (bytes : List ℕ) : Type 0 where
  pub is_the_sheet : read_sheet bytes ≡ sheet G P
  pub counted : length (read_sheet bytes) ≡ n
  pub shows : SheetShows G P (read_sheet bytes)

-- What is returned where the verdict is on G and P and the lines are the call's: `Holds` exactly where nothing is refused and the graph satisfies the property, `Fails n`
-- exactly where it does not, and then the first 6 n bytes are the fault sheet. `tell` is how a case is returned: as itself, or in numbers.
pub record VerdictMeans {R : Type 0} (tell : Result Judged Refusal → R) (G : Graph) (P : List Row) (ls : Lines) (out out' : List ℕ) (r : R) : Type 1 where
  pub refuses : Refuses (λ x. tell (Err x)) ls out out' r
  pub holds_iff : (r ≡ tell (Ok Holds)) ↔ (NoneOf ls × Satisfies G P)
  pub fails_iff : ((n : ℕ) × (r ≡ tell (Ok (Fails n)))) ↔ (NoneOf ls × (Satisfies G P → ⊥))
  pub judges : NoneOf ls → Judges G P (judge_said G P)
  pub holds_leaves : r ≡ tell (Ok Holds) → out' ≡ out
  pub fails_writes : (n : ℕ) → r ≡ tell (Ok (Fails n)) → WrittenSheet G P n (take (record_len * n) out')
  pub past_unchanged : (n : ℕ) → r ≡ tell (Ok (Fails n)) → drop (record_len * n) out' ≡ drop (record_len * n) out

-- "A property holds exactly when the greatest solution of its equations says so"
pub record JudgeMeans {R : Type 0} (tell : Result Judged Refusal → R) (L : Limits) (g p out work out' work' : List ℕ) (r : R) : Type 1 where
  pub verdict : VerdictMeans tell (decode_graph g) (decode_property p) (judge_lines L g p (length out) (length work)) out out' r
  pub clears : Clears (λ x. tell (Err x)) work work' r

-- ---- the outcome

pub judge_numbered : (G : Graph) (P : List Row) → 0 < (judge_said G P).verdict
unfolding judge_said
judge_numbered G P = numbered_cond (satisfies G P) _ _ (lit< tt) (lit< tt)

pub judge_told : (G : Graph) (P : List Row) → (c : Result Judged Refusal) × (judged_answer c ≡ answer (says (judge_said G P)))
unfolding judge_said
judge_told G P = case_cond judged_enum (satisfies G P) _ _ (Ok Holds) (Ok (Fails (length (sheet G P)))) refl refl

module _ (L : Limits) (g p : List ℕ) (out work : ℕ) where
  judge_decided : Decided (judged L g p out work) (judge_verdict L g p out work) (judge_lines L g p out work)
  unfolding judged
  judge_decided = record {
    refused = judge_refused L g p out work;
    accepted = judge_accepted L g p out work;
    only = only_verdict (judge_checks L g p out work) (judge_verdict L g p out work);
    numbered = judge_numbered (decode_graph g) (decode_property p);
  }

  -- every outcome is a case of the enum
  pub judge_case : (c : Result Judged Refusal) × (judged_answer c ≡ answer (judged L g p out work))
  judge_case = let x = judge_told (decode_graph g) (decode_property p) in outcome_case judged_enum _ _ _ judge_decided x.0 x.1

-- ---- what a contract gives, and so what is told of it

module _ {R : Type 0} (tell : Result Judged Refusal → R) (heard : Heard tell) (G : Graph) (P : List Row) (o : Outcome) (ls : Lines) (d : Decided o (judge_said G P) ls)
    (means : NoneOf ls → Judges G P (judge_said G P)) (out out' : List ℕ) (c : Result Judged Refusal) (answers : Answers o out out' (judged_answer c)) where
  abbrev said : Said
  said = judge_said G P

  is_holds : (tell c ≡ tell (Ok Holds)) ↔ (NoneOf ls × (said.verdict ≡ 1) × (said.values ≡ []))
  is_holds = said_iff judged_enum tell heard o said ls d c answers.answer_is (Ok Holds) 1 [] (lit< tt) refl

  is_fails : (n : ℕ) → (tell c ≡ tell (Ok (Fails n))) ↔ (NoneOf ls × (said.verdict ≡ 2) × (said.values ≡ n ∷ []))
  is_fails n = said_iff judged_enum tell heard o said ls d c answers.answer_is (Ok (Fails n)) 2 (n ∷ []) (lit< tt) refl

  counts : (n : ℕ) → tell c ≡ tell (Ok (Fails n)) → length (sheet G P) ≡ n
  counts n q = let a = (is_fails n).0 q in ap (λ (xs : List ℕ). get_or xs 0 0) (sym ((means a.0).fails_writes a.1).0 ∙ a.2)

  wrote : (n : ℕ) → tell c ≡ tell (Ok (Fails n)) → Wrote (record_len * n) (sheet_bytes G P) out out'
  wrote n q =
      let a = (is_fails n).0 q in
      let w = ((means a.0).fails_writes a.1).1 in
      subst (λ (ws : List ℕ). Wrote (record_len * n) ws out out') w
      (wrote_by o said ls d out out' answers.out_is a.0 (record_len * n) (ap length w ∙ sheet_bytes_length G P ∙ ap (λ (m : ℕ). record_len * m) (counts n q)))

  writes : (n : ℕ) → tell c ≡ tell (Ok (Fails n)) → WrittenSheet G P n (take (record_len * n) out')
  writes n q =
      let a = (is_fails n).0 q in
      let e = ap read_sheet (wrote n q).result ∙ sheet_read G P in
      record { is_the_sheet = e; counted = ap length e ∙ counts n q; shows = subst (SheetShows G P) (sym e) ((means a.0).fails_shows a.1) }

  leaves : tell c ≡ tell (Ok Holds) → out' ≡ out
  leaves q = let a = is_holds.0 q in (wrote_by o said ls d out out' answers.out_is a.0 0 (ap length ((means a.0).holds_writes a.1).1)).rest

  pub verdict_tells : VerdictMeans tell G P ls out out' (tell c)
  verdict_tells = record {
    refuses = refuses_by judged_enum tell heard o said ls d c answers.answer_is out out' answers.out_is;
    holds_iff = (
      λ q. let a = is_holds.0 q in (a.0, (means a.0).holds_iff.0 a.1),
      λ a. let v = (means a.0).holds_iff.1 a.1 in is_holds.1 (a.0, v, ((means a.0).holds_writes v).0),
    );
    fails_iff = (
      λ q. let a = (is_fails q.0).0 q.1 in (a.0, (means a.0).fails_iff.0 a.1),
      λ a. let v = (means a.0).fails_iff.1 a.1 in (length (sheet G P), (is_fails (length (sheet G P))).1 (a.0, v, ((means a.0).fails_writes v).0)),
    );
    judges = means;
    holds_leaves = leaves;
    fails_writes = writes;
    past_unchanged = λ n q. (wrote n q).rest;
  }

module _ {R : Type 0} (tell : Result Judged Refusal → R) (heard : Heard tell) (L : Limits) (g p out work out' work' : List ℕ) (c : Result Judged Refusal)
    (does : Does (judged L g p (length out) (length work)) out work out' work' (judged_answer c)) where
  abbrev pub ls : Lines
  ls = judge_lines L g p (length out) (length work)

  pub decided : Decided (judged L g p (length out) (length work)) (judge_verdict L g p (length out) (length work)) ls
  decided = judge_decided L g p (length out) (length work)
