-- What a returned verdict on runs means, and so a returned value of watching. The only hypothesis is what the contract of `watch` states.
-- Its theorems that rest on a definition which a must-fail edit turns stand in proofs/Theorems/Watching/Meaning.
use Rattle.files.specs.declared.refusal.Refusal.{Refusal}
use Rattle.std.specs.Prelude.{◌≡◌, refl, ◌↔◌, List, [], ◌∷◌, ℕ, ◌*◌, ◌<◌, length, get_or, take, drop, Result, Ok, Err}
use Rattle.std.proofs.Common.{sym, ap, subst, ◌∙◌, arith, lit<}
use Rattle.files.specs.Decode.{decode_graph, decode_interface, decode_rules}
use Rattle.files.specs.Graph.{Graph}
use Rattle.files.specs.Interface.{Of}
use Rattle.files.specs.Outcome.{Said, Outcome, Answers, answer, says, work_after, refusal_at, NoneOf, Lines}
use Rattle.files.specs.Outcome.Meaning.{Decided, Refuses, Clears, Wrote, Heard, only_verdict, numbered_cond, outcome_case, case_cond, said_iff, refuses_by, clears_by, wrote_by}
use Rattle.files.specs.Places.{record_len}
use Rattle.files.specs.Rules.{Monitor, watch}
use Rattle.files.specs.declared.record.Limits.{Limits}
use Rattle.runs.specs.Answer.{watched_answer, verdict_enum}
use Rattle.runs.specs.Runs.{Bad as BadRun, Clean as CleanRuns}
use Rattle.runs.specs.Summary.{clean}
use Rattle.runs.specs.Summary.Trails.{read_trail, trail, trail_bytes}
use Rattle.runs.specs.Summary.Trails.Behind.{TrailShows}
use Rattle.runs.specs.Summary.Trails.Laws.{trail_bytes_length, trail_read}
use Rattle.runs.specs.Watching.{watch_said, watch_verdict, watch_checks, watch_lines, watched, Watches}
use Rattle.runs.specs.Watching.Laws.{watch_refused, watch_accepted}
use Rattle.runs.specs.declared.answers.Verdict.{Verdict}
use Rattle.runs.specs.declared.answers.Verdict.TheVariants.{Clean, Bad}

-- what bytes of n records hold: the trail, which shows a run to state 7
pub record WrittenTrail (J : Graph) (mon : Monitor) (m n : ℕ) (bytes : List ℕ) : Type 0 where
  pub is_the_trail : read_trail bytes ≡ trail J mon m
  pub counted : length (read_trail bytes) ≡ n
  pub shows : TrailShows J mon m (read_trail bytes)

-- "a monitor goes bad exactly when some run with an unbounded stack takes it there": of the graph J that is watched, `Clean` is returned exactly where nothing is
-- refused and no run takes the monitor to state 7, `Bad n` exactly where some run does, and then the first 6 n bytes are the trail. `tell` is how a case is returned:
-- as itself, or in numbers.
pub record VerdictMeans {R : Type 0} (tell : Result Verdict Refusal → R) (ls : Lines) (J : Graph) (mon : Monitor) (m : ℕ) (out out' : List ℕ) (r : R) : Type 0 where
  pub refuses : Refuses (λ x. tell (Err x)) ls out out' r
  pub clean_iff : (r ≡ tell (Ok Clean)) ↔ (NoneOf ls × CleanRuns J mon m)
  pub bad_iff : ((n : ℕ) × (r ≡ tell (Ok (Bad n)))) ↔ (NoneOf ls × BadRun J mon m)
  pub clean_leaves : r ≡ tell (Ok Clean) → out' ≡ out
  pub bad_writes : (n : ℕ) → r ≡ tell (Ok (Bad n)) → WrittenTrail J mon m n (take (record_len * n) out')
  pub past_unchanged : (n : ℕ) → r ≡ tell (Ok (Bad n)) → drop (record_len * n) out' ≡ drop (record_len * n) out

pub watch_numbered : (J : Graph) (mon : Monitor) (m : ℕ) → 0 < (watch_said J mon m).verdict
unfolding watch_said
watch_numbered J mon m = numbered_cond (clean J mon m) _ _ (lit< tt) (lit< tt)

-- a verdict on runs is a case of the enum
pub watch_told : (J : Graph) (mon : Monitor) (m : ℕ) → (c : Result Verdict Refusal) × (watched_answer c ≡ answer (says (watch_said J mon m)))
unfolding watch_said
watch_told J mon m = case_cond verdict_enum (clean J mon m) _ _ (Ok Clean) (Ok (Bad (length (trail J mon m)))) refl refl

module _ {R : Type 0} (tell : Result Verdict Refusal → R) (heard : Heard tell) (o : Outcome) (said : Said) (ls : Lines) (d : Decided o said ls) (J : Graph) (mon : Monitor) (m : ℕ)
    (means : NoneOf ls → (said.verdict ≡ 3 → ⊥) → Watches J mon m said) (out out' : List ℕ) (c : Result Verdict Refusal) (answers : Answers o out out' (watched_answer c)) where
  pub is_clean : (tell c ≡ tell (Ok Clean)) ↔ (NoneOf ls × (said.verdict ≡ 1) × (said.values ≡ []))
  is_clean = said_iff verdict_enum tell heard o said ls d c answers.answer_is (Ok Clean) 1 [] (lit< tt) refl

  pub is_bad : (n : ℕ) → (tell c ≡ tell (Ok (Bad n))) ↔ (NoneOf ls × (said.verdict ≡ 2) × (said.values ≡ n ∷ []))
  is_bad n = said_iff verdict_enum tell heard o said ls d c answers.answer_is (Ok (Bad n)) 2 (n ∷ []) (lit< tt) refl

  counts : (n : ℕ) → tell c ≡ tell (Ok (Bad n)) → length (trail J mon m) ≡ n
  counts n q = let a = (is_bad n).0 q in ap (λ (xs : List ℕ). get_or xs 0 0) (sym ((means a.0 (λ z. omega (arith, a.1))).bad_writes a.1).0 ∙ a.2)

  pub wrote : (n : ℕ) → tell c ≡ tell (Ok (Bad n)) → Wrote (record_len * n) (trail_bytes J mon m) out out'
  wrote n q =
      let a = (is_bad n).0 q in
      let w = ((means a.0 (λ z. omega (arith, a.1))).bad_writes a.1).1 in
      subst (λ (ws : List ℕ). Wrote (record_len * n) ws out out') w
      (wrote_by o said ls d out out' answers.out_is a.0 (record_len * n) (ap length w ∙ trail_bytes_length J mon m ∙ ap (λ (k : ℕ). record_len * k) (counts n q)))

  pub writes : (n : ℕ) → tell c ≡ tell (Ok (Bad n)) → WrittenTrail J mon m n (take (record_len * n) out')
  writes n q =
      let a = (is_bad n).0 q in
      let e = ap read_trail (wrote n q).result ∙ trail_read J mon m in
      record { is_the_trail = e; counted = ap length e ∙ counts n q; shows = subst (TrailShows J mon m) (sym e) ((means a.0 (λ z. omega (arith, a.1))).bad_shows a.1) }

  pub leaves : tell c ≡ tell (Ok Clean) → out' ≡ out
  leaves q = let a = is_clean.0 q in (wrote_by o said ls d out out' answers.out_is a.0 0 (ap length ((means a.0 (λ z. omega (arith, a.1))).clean_writes a.1).1)).rest

  pub verdict_clears : (work work' : List ℕ) → work' ≡ work_after o work → Clears (λ x. tell (Err x)) work work' (tell c)
  verdict_clears = clears_by verdict_enum tell heard o said ls d c answers.answer_is

  pub verdict_tells : (NoneOf ls → Watches J mon m said) → VerdictMeans tell ls J mon m out out' (tell c)
  verdict_tells sure = record {
    refuses = refuses_by verdict_enum tell heard o said ls d c answers.answer_is out out' answers.out_is;
    clean_iff = (
      λ q. let a = is_clean.0 q in (a.0, (sure a.0).clean_iff.0 a.1),
      λ a. let v = (sure a.0).clean_iff.1 a.1 in is_clean.1 (a.0, v, ((sure a.0).clean_writes v).0),
    );
    bad_iff = (
      λ q. let a = (is_bad q.0).0 q.1 in (a.0, (sure a.0).bad_iff.0 a.1),
      λ a. let v = (sure a.0).bad_iff.1 a.1 in (length (trail J mon m), (is_bad (length (trail J mon m))).1 (a.0, v, ((sure a.0).bad_writes v).0)),
    );
    clean_leaves = leaves;
    bad_writes = writes;
    past_unchanged = λ n q. (wrote n q).rest;
  }

-- ---- watching

-- watching's graph that is of its interface is never refused by 9
pub record WatchMeans {R : Type 0} (tell : Result Verdict Refusal → R) (L : Limits) (i g r : List ℕ) (m : ℕ) (out work out' work' : List ℕ) (v : R) : Type 0 where
  pub verdict : VerdictMeans tell (watch_lines L i g r m (length out) (length work)) (decode_graph g) (watch (decode_rules r)) m out out' v
  pub clears : Clears (λ x. tell (Err x)) work work' v
  pub own_graph : Of (decode_interface i) (decode_graph g) → (k : ℕ) → v ≡ tell (Err (refusal_at 9 2 k)) → ⊥

module _ (L : Limits) (i g r : List ℕ) (m out work : ℕ) where
  pub watch_decided : Decided (watched L i g r m out work) (watch_verdict L i g r m out work) (watch_lines L i g r m out work)
  unfolding watched
  watch_decided = record {
    refused = watch_refused L i g r m out work;
    accepted = watch_accepted L i g r m out work;
    only = only_verdict (watch_checks L i g r m out work) (watch_verdict L i g r m out work);
    numbered = watch_numbered (decode_graph g) (watch (decode_rules r)) m;
  }

  -- every outcome is a case of the enum
  pub watch_case : (c : Result Verdict Refusal) × (watched_answer c ≡ answer (watched L i g r m out work))
  watch_case = let x = watch_told (decode_graph g) (watch (decode_rules r)) m in outcome_case verdict_enum _ _ _ watch_decided x.0 x.1
