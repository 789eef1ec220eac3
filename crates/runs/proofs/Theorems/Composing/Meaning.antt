-- The theorems of specs/Composing/Meaning that rest on a definition which a must-fail edit turns: there they could not be read under the edit.
-- Meaning: What a returned value of the composed verdict means. The only hypothesis is what the contract of `compose` states.
use Rattle.files.specs.declared.refusal.Refusal.{Refusal}
use Rattle.std.specs.Prelude.{refl, List, ℕ, length, Result}
use Rattle.std.proofs.Common.{sym, subst, inr}
use Rattle.files.specs.Graph.{Graph}
use Rattle.files.specs.Outcome.{refusal_at, NoneOf, DoesBoth}
use Rattle.files.specs.Outcome.Meaning.{Heard, itself, heard_itself, clears_by}
use Rattle.files.specs.declared.record.Limits.{Limits}
use Rattle.runs.specs.Answer.{watched_answer, verdict_enum}
use Rattle.runs.specs.Composing.{known, unwritten, composed}
use Rattle.runs.specs.Composing.Entries.{SidesSay}
use Rattle.runs.specs.Composing.Laws.{compose_own}
use Rattle.runs.proofs.Theorems.Composing.Laws.{compose_says}
use Rattle.runs.specs.Composing.Returned.{SidesMeans, sides_tell}
use Rattle.files.specs.Join.{join}
use Rattle.runs.specs.Runs.{Bad as BadRun, Clean as CleanRuns}
use Rattle.runs.specs.declared.answers.Verdict.{Verdict}
use Rattle.runs.specs.Composing.Meaning.{ComposeMeans, I, K, P, d, ls, mon, none_loads, o, said}

module _ {R : Type 0} (tell : Result Verdict Refusal → R) (heard : Heard tell) (L : Limits) (ki kg oi p r : List ℕ) (m : ℕ) (out store work out' store' work' : List ℕ) (c : Result Verdict Refusal)
    (does : DoesBoth (composed L ki kg oi p r m (length out) (length store) (length work)) out store work out' store' work' (watched_answer c)) where
  means : NoneOf (ls tell heard L ki kg oi p r m out store work out' store' work' c does) → SidesSay (known (K tell heard L ki kg oi p r m out store work out' store' work' c does)) (unwritten (I tell heard L ki kg oi p r m out store work out' store' work' c does) (P tell heard L ki kg oi p r m out store work out' store' work' c does)) (mon tell heard L ki kg oi p r m out store work out' store' work' c does) m (said tell heard L ki kg oi p r m out store work out' store' work' c does)
  means t = (compose_says L ki kg oi p r m (length out) (length store) (length work) (said tell heard L ki kg oi p r m out store work out' store' work' c does) ((d tell heard L ki kg oi p r m out store work out' store' work' c does).accepted.1 t)).on_sides

  told : SidesMeans tell (ls tell heard L ki kg oi p r m out store work out' store' work' c does) (known (K tell heard L ki kg oi p r m out store work out' store' work' c does)) (unwritten (I tell heard L ki kg oi p r m out store work out' store' work' c does) (P tell heard L ki kg oi p r m out store work out' store' work' c does)) (mon tell heard L ki kg oi p r m out store work out' store' work' c does) m out out' (tell c)
  told = sides_tell tell heard (o tell heard L ki kg oi p r m out store work out' store' work' c does) (said tell heard L ki kg oi p r m out store work out' store' work' c does) (ls tell heard L ki kg oi p r m out store work out' store' work' c does) (d tell heard L ki kg oi p r m out store work out' store' work' c does) (known (K tell heard L ki kg oi p r m out store work out' store' work' c does)) (unwritten (I tell heard L ki kg oi p r m out store work out' store' work' c does) (P tell heard L ki kg oi p r m out store work out' store' work' c does)) (mon tell heard L ki kg oi p r m out store work out' store' work' c does) m means out out' c does.answers

  pub compose_tells : ComposeMeans tell L ki kg oi p r m out store work out' store' work' (tell c)
  compose_tells = record {
    impossible_iff = (
      λ q. let a = told.impossible_iff.0 q in (a.0, (none_loads tell heard L ki kg oi p r m out store work out' store' work' c does) a.1),
      λ a. told.impossible_iff.1 (a.0, inr a.1),
    );
    clean_iff = (
      λ q. let a = told.clean_iff.0 q in (a.0, (a.1.1.0, λ G x. a.1.1.1 (K tell heard L ki kg oi p r m out store work out' store' work' c does) G refl x)),
      λ a. told.clean_iff.1 (a.0, (((K tell heard L ki kg oi p r m out store work out' store' work' c does), refl), (a.1.0, λ X G e x. subst (λ (Y : Graph). CleanRuns (join Y G) (mon tell heard L ki kg oi p r m out store work out' store' work' c does) m) (sym e) (a.1.1 G x)))),
    );
    bad_iff = (
      λ q. let a = told.bad_iff.0 q in (a.0, (a.1.1, a.1.3, subst (λ (Y : Graph). BadRun (join Y a.1.1) (mon tell heard L ki kg oi p r m out store work out' store' work' c does) m) a.1.2 a.1.4)),
      λ a. told.bad_iff.1 (a.0, ((K tell heard L ki kg oi p r m out store work out' store' work' c does), a.1.0, refl, a.1.1, a.1.2)),
    );
    sides = told;
    clears_store = clears_by verdict_enum tell heard (o tell heard L ki kg oi p r m out store work out' store' work' c does) (said tell heard L ki kg oi p r m out store work out' store' work' c does) (ls tell heard L ki kg oi p r m out store work out' store' work' c does) (d tell heard L ki kg oi p r m out store work out' store' work' c does) c does.answers.answer_is store store' does.store_is;
    clears_work = clears_by verdict_enum tell heard (o tell heard L ki kg oi p r m out store work out' store' work' c does) (said tell heard L ki kg oi p r m out store work out' store' work' c does) (ls tell heard L ki kg oi p r m out store work out' store' work' c does) (d tell heard L ki kg oi p r m out store work out' store' work' c does) c does.answers.answer_is work work' does.work_is;
    own_graph = λ of k q. compose_own L ki kg oi p r m (length out) (length store) (length work) of k ((told.refuses.refused_iff (refusal_at 9 2 k)).0 q);
  }

-- The returned value, from what the contract states of it.
pub compose_means : (L : Limits) (ki kg oi p r : List ℕ) (m : ℕ) (out store work out' store' work' : List ℕ) (v : Result Verdict Refusal)
    → DoesBoth (composed L ki kg oi p r m (length out) (length store) (length work)) out store work out' store' work' (watched_answer v)
    → ComposeMeans itself L ki kg oi p r m out store work out' store' work' v
compose_means L ki kg oi p r m out store work out' store' work' v does = compose_tells itself heard_itself L ki kg oi p r m out store work out' store' work' v does
