-- What a returned verdict on two sides means, each a graph that is known or one that is not written yet. The verdicts with a known graph and with two unwritten sides are cases of
-- it.
use Rattle.files.specs.declared.refusal.Refusal.{Refusal}
use Rattle.std.specs.Prelude.{◌≡◌, refl, ◌⊎◌, ◌↔◌, ◌||◌, List, [], ◌∷◌, ℕ, ◌*◌, ◌<◌, length, take, drop, Result, Ok, Err}
use Rattle.std.proofs.Common.{ap, arith, lit<}
use Rattle.files.specs.Graph.{Graph}
use Rattle.files.specs.Join.{join}
use Rattle.files.specs.Outcome.{Said, Outcome, Answers, answer, says, Lines, NoneOf}
use Rattle.files.specs.Outcome.Meaning.{Decided, Refuses, Heard, numbered_cond, case_cond, said_iff, refuses_by, wrote_by}
use Rattle.files.specs.Places.{record_len}
use Rattle.files.specs.Rules.{Monitor}
use Rattle.runs.specs.Answer.{watched_answer, verdict_enum}
use Rattle.runs.specs.Composing.{Side, gives, Admits, impossible, LoadsOn, SomeLoads, NoneLoads, AllClean, SomeBad, sides_said}
use Rattle.runs.specs.Composing.Entries.{SidesSay}
use Rattle.runs.specs.Runs.{Clean as CleanRuns}
use Rattle.runs.specs.Summary.Trails.{trail}
use Rattle.runs.specs.Watching.{Watches}
use Rattle.runs.specs.Watching.Meaning.{WrittenTrail, is_clean, is_bad, wrote, writes, leaves, watch_numbered, watch_told}
use Rattle.runs.specs.declared.answers.Verdict.{Verdict}
use Rattle.runs.specs.declared.answers.Verdict.TheVariants.{Clean, Bad, Impossible}

-- `Impossible` is returned exactly where nothing is refused and nothing loads on one of the sides; `Clean` exactly where something loads on each and all that does, of any size, is
-- clean joined; `Bad n` exactly where something that loads is bad joined. The trail written is one of what the sides give, which load; "impossible" and "clean" write nothing.
-- "Clean" holds of modules without all their entries too. `tell` is how a case is returned: as itself, or in numbers.
pub record SidesMeans {R : Type 0} (tell : Result Verdict Refusal → R) (ls : Lines) (A B : Side) (mon : Monitor) (m : ℕ) (out out' : List ℕ) (v : R) : Type 0 where
  pub refuses : Refuses (λ x. tell (Err x)) ls out out' v
  pub impossible_iff : (v ≡ tell (Ok Impossible)) ↔ (NoneOf ls × (NoneLoads A ⊎ NoneLoads B))
  pub clean_iff : (v ≡ tell (Ok Clean)) ↔ (NoneOf ls × (SomeLoads A × (SomeLoads B × AllClean A B mon m)))
  pub bad_iff : ((n : ℕ) × (v ≡ tell (Ok (Bad n)))) ↔ (NoneOf ls × SomeBad A B mon m)
  pub clean_without_entries : v ≡ tell (Ok Clean) → (G H : Graph) → Admits A G → Admits B H → CleanRuns (join G H) mon m
  pub given : (n : ℕ) → v ≡ tell (Ok (Bad n)) → LoadsOn A (gives A) × LoadsOn B (gives B)
  pub impossible_leaves : v ≡ tell (Ok Impossible) → out' ≡ out
  pub clean_leaves : v ≡ tell (Ok Clean) → out' ≡ out
  pub bad_writes : (n : ℕ) → v ≡ tell (Ok (Bad n)) → WrittenTrail (join (gives A) (gives B)) mon m n (take (record_len * n) out')
  pub past_unchanged : (n : ℕ) → v ≡ tell (Ok (Bad n)) → drop (record_len * n) out' ≡ drop (record_len * n) out

module _ (A B : Side) (mon : Monitor) (m : ℕ) where
  pub sides_numbered : 0 < (sides_said A B mon m).verdict
  sides_numbered = numbered_cond (impossible A || impossible B) _ _ (lit< tt) (watch_numbered (join (gives A) (gives B)) mon m)

  -- a verdict on two sides is a case of the enum
  pub sides_told : (c : Result Verdict Refusal) × (watched_answer c ≡ answer (says (sides_said A B mon m)))
  sides_told = let x = watch_told (join (gives A) (gives B)) mon m in case_cond verdict_enum (impossible A || impossible B) _ _ (Ok Impossible) x.0 refl x.1

module _ {R : Type 0} (tell : Result Verdict Refusal → R) (heard : Heard tell) (o : Outcome) (said : Said) (ls : Lines) (d : Decided o said ls) (A B : Side) (mon : Monitor) (m : ℕ)
    (means : NoneOf ls → SidesSay A B mon m said) (out out' : List ℕ) (c : Result Verdict Refusal) (answers : Answers o out out' (watched_answer c)) where
  abbrev J : Graph
  J = join (gives A) (gives B)

  watches : NoneOf ls → (said.verdict ≡ 3 → ⊥) → Watches J mon m said
  watches t = (means t).on_given

  is_impossible : (tell c ≡ tell (Ok Impossible)) ↔ (NoneOf ls × (said.verdict ≡ 3) × (said.values ≡ []))
  is_impossible = said_iff verdict_enum tell heard o said ls d c answers.answer_is (Ok Impossible) 3 [] (lit< tt) refl

  cleans : (tell c ≡ tell (Ok Clean)) ↔ (NoneOf ls × (said.verdict ≡ 1) × (said.values ≡ []))
  cleans = is_clean tell heard o said ls d J mon m watches out out' c answers

  bads : (n : ℕ) → (tell c ≡ tell (Ok (Bad n))) ↔ (NoneOf ls × (said.verdict ≡ 2) × (said.values ≡ n ∷ []))
  bads = is_bad tell heard o said ls d J mon m watches out out' c answers

  clean_values : NoneOf ls → said.verdict ≡ 1 → said.values ≡ []
  clean_values t v = ((watches t (λ z. omega (arith, v))).clean_writes v).0

  bad_values : NoneOf ls → said.verdict ≡ 2 → said.values ≡ length (trail J mon m) ∷ []
  bad_values t v = ((watches t (λ z. omega (arith, v))).bad_writes v).0

  pub sides_tell : SidesMeans tell ls A B mon m out out' (tell c)
  sides_tell = record {
    refuses = refuses_by verdict_enum tell heard o said ls d c answers.answer_is out out' answers.out_is;
    impossible_iff = (
      λ q. let a = is_impossible.0 q in (a.0, (means a.0).impossible_is.0 a.1),
      λ a. let v = (means a.0).impossible_is.1 a.1 in is_impossible.1 (a.0, v, ((means a.0).impossible_writes v).0),
    );
    clean_iff = (
      λ q. let a = cleans.0 q in (a.0, (means a.0).clean_is.0 a.1),
      λ a. let v = (means a.0).clean_is.1 a.1 in cleans.1 (a.0, v, clean_values a.0 v),
    );
    bad_iff = (
      λ q. let a = (bads q.0).0 q.1 in (a.0, (means a.0).bad_is.0 a.1),
      λ a. let v = (means a.0).bad_is.1 a.1 in (length (trail J mon m), (bads (length (trail J mon m))).1 (a.0, v, bad_values a.0 v)),
    );
    clean_without_entries = λ q. let a = cleans.0 q in (means a.0).clean_without_entries a.1;
    given = λ n q. let a = (bads n).0 q in (means a.0).given_loads a.1;
    impossible_leaves = λ q. let a = is_impossible.0 q in (wrote_by o said ls d out out' answers.out_is a.0 0 (ap length ((means a.0).impossible_writes a.1).1)).rest;
    clean_leaves = leaves tell heard o said ls d J mon m watches out out' c answers;
    bad_writes = writes tell heard o said ls d J mon m watches out out' c answers;
    past_unchanged = λ n q. (wrote tell heard o said ls d J mon m watches out out' c answers n q).rest;
  }
