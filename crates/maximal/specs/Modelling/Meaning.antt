-- What a returned value of modelling means. The only hypothesis is what the contract of `model` states.
-- Its theorems that rest on a definition which a must-fail edit turns stand in proofs/Theorems/Modelling/Meaning.
use Rattle.std.specs.Prelude.{◌≡◌, refl, ◌↔◌, cond, List, [], ◌∷◌, ℕ, ◌+◌, ◌*◌, ◌<◌, eqb, length, get_or, take, drop, Err, Ok}
use Rattle.std.proofs.Common.{ap, ap₂, ◌∙◌}
use Rattle.std.proofs.Math.Option.{none}
use Rattle.std.proofs.Math.Dec.{lit<}
use Rattle.files.specs.Decode.{decode_graph, decode_property, decode_interface, graph_bytes}
use Rattle.files.specs.Decode.Written.{graph_length}
use Rattle.files.specs.Graph.{Graph, size, Flow}
use Rattle.files.specs.Interface.{Interface, Of}
use Rattle.files.specs.Outcome.{Said, Outcome, Answer, Does, answer, refusal_at, NoneOf, Lines, graph_said, Written}
use Rattle.files.specs.Outcome.Meaning.{Decided, Refuses, Clears, Wrote, Enum, Heard, only_verdict, outcome_case, said_iff, wrote_by}
use Rattle.files.specs.Places.{record_len}
use Rattle.files.specs.Property.{Row}
use Rattle.files.specs.Refusal.{graph, refusal}
use Rattle.files.specs.declared.record.Limits.{Limits}
use Rattle.judging.specs.Levels.{Satisfies}
use Rattle.judging.specs.Simulation.{Simulates}
use Rattle.maximal.specs.Model.{IsModel, state_at, model}
use Rattle.maximal.specs.Model.Ordered.{Earlier}
use Rattle.maximal.specs.Modelling.{modelled_answer, model_graph, model_checks, model_lines, modelled, Modelled}
use Rattle.maximal.specs.Modelling.Laws.{model_refused, model_accepted}

-- the case of a number and its values
abbrev pub modelled_of : Answer → Modelled
modelled_of a = cond (eqb a.verdict 1) (Written (get_or a.values 0 0) (get_or a.values 1 0)) (Err (refusal_at a.number (get_or a.values 0 0) (get_or a.values 1 0)))

pub modelled_back : (r : Modelled) → modelled_of (modelled_answer r) ≡ r
modelled_back (Ok v) = refl
modelled_back (Err x) = refl

abbrev pub modelled_enum : Enum Modelled
modelled_enum = record { code = modelled_answer; back = modelled_of; back_code = modelled_back; refused = Err; code_refused = λ x. refl }

-- "the model written simulates each finite flow graph of that interface, however large, exactly when that graph satisfies the property": what bytes of n nodes
-- and e edges hold
pub record WrittenModel (L : Limits) (I : Interface) (P : List Row) (n e : ℕ) (bytes : List ℕ) : Type 1 where
  pub accepted : refusal L graph bytes ≡ none
  pub nodes_are : size (decode_graph bytes) ≡ n
  pub edges_are : length (decode_graph bytes).edges ≡ e
  pub is_the_model : decode_graph bytes ≡ model I P
  pub of_interface : Of I (decode_graph bytes)
  pub is_model : IsModel I P (state_at I P) (decode_graph bytes)
  pub ascending : (i j : ℕ) → i < j → j < n → Earlier (state_at I P i) (state_at I P j)
  pub each_once : (i j : ℕ) → i < n → j < n → state_at I P i ≡ state_at I P j → i ≡ j
  pub simulates_iff : (G : Graph) → Flow G → Of I G → Simulates G (decode_graph bytes) ↔ Satisfies G P

-- `Written n e` is returned exactly where nothing is refused, and then the first 6 (n + e) bytes are the model. `tell` is how a case is returned: as itself, or in
-- numbers.
pub record ModelMeans {R : Type 0} (tell : Modelled → R) (L : Limits) (i p out work out' work' : List ℕ) (r : R) : Type 1 where
  pub refuses : Refuses (λ x. tell (Err x)) (model_lines L i p (length out) (length work)) out out' r
  pub clears : Clears (λ x. tell (Err x)) work work' r
  pub written_iff : ((n : ℕ) × (e : ℕ) × (r ≡ tell (Written n e))) ↔ NoneOf (model_lines L i p (length out) (length work))
  pub writes : (n e : ℕ) → r ≡ tell (Written n e) → WrittenModel L (decode_interface i) (decode_property p) n e (take (record_len * (n + e)) out')
  pub past_unchanged : (n e : ℕ) → r ≡ tell (Written n e) → drop (record_len * (n + e)) out' ≡ drop (record_len * (n + e)) out

-- ---- the outcome

module _ (L : Limits) (i p : List ℕ) (out work : ℕ) where
  model_decided : Decided (modelled L i p out work) (graph_said (model_graph L i p out work) []) (model_lines L i p out work)
  unfolding modelled
  model_decided = record {
    refused = model_refused L i p out work;
    accepted = model_accepted L i p out work;
    only = only_verdict (model_checks L i p out work) (graph_said (model_graph L i p out work) []);
    numbered = lit< tt;
  }

  -- every outcome is a case of the enum
  pub model_case : (c : Modelled) × (modelled_answer c ≡ answer (modelled L i p out work))
  model_case =
      let G = model_graph L i p out work in
      outcome_case modelled_enum _ _ _ model_decided (Written (size G) (length G.edges)) refl

-- ---- what the contract gives, and so what is told of it

module _ {R : Type 0} (tell : Modelled → R) (heard : Heard tell) (L : Limits) (i p out work out' work' : List ℕ) (c : Modelled)
    (does : Does (modelled L i p (length out) (length work)) out work out' work' (modelled_answer c)) where
  abbrev pub G : Graph
  G = model_graph L i p (length out) (length work)

  abbrev pub o : Outcome
  o = modelled L i p (length out) (length work)

  abbrev pub said : Said
  said = graph_said G []

  abbrev pub ls : Lines
  ls = model_lines L i p (length out) (length work)

  pub d : Decided o said ls
  d = model_decided L i p (length out) (length work)

  pub is_written : (n e : ℕ) → (tell c ≡ tell (Written n e)) ↔ (NoneOf ls × (said.verdict ≡ 1) × (said.values ≡ n ∷ e ∷ []))
  is_written n e = said_iff modelled_enum tell heard o said ls d c does.answers.answer_is (Written n e) 1 (n ∷ e ∷ []) (lit< tt) refl

  pub nodes_counted : (n e : ℕ) → tell c ≡ tell (Written n e) → size G ≡ n
  nodes_counted n e q = ap (λ (xs : List ℕ). get_or xs 0 0) ((is_written n e).0 q).2

  pub edges_counted : (n e : ℕ) → tell c ≡ tell (Written n e) → length G.edges ≡ e
  edges_counted n e q = ap (λ (xs : List ℕ). get_or xs 1 0) ((is_written n e).0 q).2

  pub wrote : (n e : ℕ) → tell c ≡ tell (Written n e) → Wrote (record_len * (n + e)) (graph_bytes G) out out'
  wrote n e q =
      wrote_by o said ls d out out' does.answers.out_is ((is_written n e).0 q).0 (record_len * (n + e))
      (graph_length G ∙ ap₂ (λ (a b : ℕ). record_len * (a + b)) (nodes_counted n e q) (edges_counted n e q))
