-- The theorems of specs/Watching/Meaning that rest on a definition which a must-fail edit turns: there they could not be read under the edit.
-- Meaning: What a returned verdict on runs means, and so a returned value of watching. The only hypothesis is what the contract of `watch` states.
use Rattle.files.specs.declared.refusal.Refusal.{Refusal}
use Rattle.std.specs.Prelude.{List, ℕ, length, Result}
use Rattle.files.specs.Decode.{decode_graph, decode_rules}
use Rattle.files.specs.Outcome.{Does, refusal_at, NoneOf}
use Rattle.files.specs.Outcome.Meaning.{Heard, itself, heard_itself}
use Rattle.files.specs.Rules.{watch}
use Rattle.files.specs.declared.record.Limits.{Limits}
use Rattle.runs.specs.Answer.{watched_answer}
use Rattle.runs.specs.Watching.{watch_verdict, watch_lines, watched, Watches}
use Rattle.runs.specs.Watching.Laws.{watch_own}
use Rattle.runs.proofs.Theorems.Watching.Laws.{watch_says}
use Rattle.runs.specs.declared.answers.Verdict.{Verdict}
use Rattle.runs.specs.Watching.Meaning.{WatchMeans, verdict_clears, verdict_tells, watch_decided}

-- what the contract gives, and so what is told of it
pub watch_tells : {R : Type 0} (tell : Result Verdict Refusal → R) → Heard tell → (L : Limits) (i g r : List ℕ) (m : ℕ) (out work out' work' : List ℕ) (c : Result Verdict Refusal)
    → Does (watched L i g r m (length out) (length work)) out work out' work' (watched_answer c) → WatchMeans tell L i g r m out work out' work' (tell c)
watch_tells tell heard L i g r m out work out' work' c does =
    let o = watched L i g r m (length out) (length work) in
    let said = watch_verdict L i g r m (length out) (length work) in
    let ls = watch_lines L i g r m (length out) (length work) in
    let d = watch_decided L i g r m (length out) (length work) in
    let f : NoneOf ls → Watches (decode_graph g) (watch (decode_rules r)) m said = λ t. watch_says L i g r m (length out) (length work) said (d.accepted.1 t) in
    let v = verdict_tells tell heard o said ls d (decode_graph g) (watch (decode_rules r)) m (λ t q. f t) out out' c does.answers f in
    record {
      verdict = v;
      clears = verdict_clears tell heard o said ls d (decode_graph g) (watch (decode_rules r)) m (λ t q. f t) out out' c does.answers work work' does.work_is;
      own_graph = λ of k q. watch_own L i g r m (length out) (length work) of k ((v.refuses.refused_iff (refusal_at 9 2 k)).0 q);
    }

-- The returned value, from what the contract states of it.
pub watch_means : (L : Limits) (i g r : List ℕ) (m : ℕ) (out work out' work' : List ℕ) (v : Result Verdict Refusal)
    → Does (watched L i g r m (length out) (length work)) out work out' work' (watched_answer v) → WatchMeans itself L i g r m out work out' work' v
watch_means L i g r m out work out' work' v does = watch_tells itself heard_itself L i g r m out work out' work' v does
