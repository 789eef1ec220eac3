-- What a returned value of the composed verdict means. The only hypothesis is what the contract of `compose` states.
-- Its theorems that rest on a definition which a must-fail edit turns stand in proofs/Theorems/Composing/Meaning.
use Rattle.files.specs.declared.refusal.Refusal.{Refusal}
use Rattle.std.specs.Prelude.{◌≡◌, refl, ◌⊎◌, ◌↔◌, List, ℕ, length, Result, Ok, Err}
use Rattle.std.proofs.Common.{inl, inr}
use Rattle.files.specs.Decode.{decode_graph, decode_property, decode_interface, decode_rules}
use Rattle.files.specs.Graph.{Graph}
use Rattle.files.specs.Interface.{Interface, Of}
use Rattle.files.specs.Outcome.{Said, Outcome, answer, refusal_at, NoneOf, Lines, DoesBoth}
use Rattle.files.specs.Outcome.Meaning.{Decided, Clears, Heard, only_verdict, outcome_case}
use Rattle.files.specs.Property.{Row}
use Rattle.files.specs.Rules.{Monitor, watch}
use Rattle.files.specs.declared.record.Limits.{Limits}
use Rattle.runs.specs.Answer.{watched_answer, verdict_enum}
use Rattle.runs.specs.Composing.{Loads, known, unwritten, known_side, other_side, NoneLoads, compose_verdict, compose_checks, compose_lines, composed}
use Rattle.runs.specs.Composing.Laws.{compose_refused, compose_accepted}
use Rattle.runs.specs.Composing.Returned.{SidesMeans, sides_numbered, sides_told}
use Rattle.files.specs.Join.{join}
use Rattle.runs.specs.Runs.{Bad as BadRun, Clean as CleanRuns}
use Rattle.runs.specs.declared.answers.Verdict.{Verdict}
use Rattle.runs.specs.declared.answers.Verdict.TheVariants.{Clean, Bad, Impossible}

-- Wish 6 and demand 3, of what is returned, where nothing is refused: `Impossible` exactly where no finite graph of the interface with all its entries satisfies the property;
-- `Clean` exactly where some such graph exists and each one, of any size, is clean beside the known graph; `Bad n` exactly where some is bad beside it. `sides` has the rest: the
-- bytes written, and that "clean" holds of modules without all their entries too. A known graph that is of its interface is never refused by 9. `tell` is how a case is
-- returned: as itself, or in numbers.
pub record ComposeMeans {R : Type 0} (tell : Result Verdict Refusal → R) (L : Limits) (ki kg oi p r : List ℕ) (m : ℕ) (out store work out' store' work' : List ℕ) (v : R) : Type 0 where
  pub impossible_iff : (v ≡ tell (Ok Impossible)) ↔ (NoneOf (compose_lines L ki kg oi p r m (length out) (length store) (length work))
      × ((G : Graph) → Loads (decode_interface oi) (decode_property p) G → ⊥))
  pub clean_iff : (v ≡ tell (Ok Clean)) ↔ (NoneOf (compose_lines L ki kg oi p r m (length out) (length store) (length work))
      × (((G : Graph) × Loads (decode_interface oi) (decode_property p) G)
      × ((G : Graph) → Loads (decode_interface oi) (decode_property p) G → CleanRuns (join (decode_graph kg) G) (watch (decode_rules r)) m)))
  pub bad_iff : ((n : ℕ) × (v ≡ tell (Ok (Bad n)))) ↔ (NoneOf (compose_lines L ki kg oi p r m (length out) (length store) (length work))
      × ((G : Graph) × Loads (decode_interface oi) (decode_property p) G × BadRun (join (decode_graph kg) G) (watch (decode_rules r)) m))
  pub sides : SidesMeans tell (compose_lines L ki kg oi p r m (length out) (length store) (length work)) (known (decode_graph kg)) (unwritten (decode_interface oi) (decode_property p))
      (watch (decode_rules r)) m out out' v
  pub clears_store : Clears (λ x. tell (Err x)) store store' v
  pub clears_work : Clears (λ x. tell (Err x)) work work' v
  pub own_graph : Of (decode_interface ki) (decode_graph kg) → (k : ℕ) → v ≡ tell (Err (refusal_at 9 2 k)) → ⊥

module _ (L : Limits) (ki kg oi p r : List ℕ) (m out store work : ℕ) where
  compose_decided : Decided (composed L ki kg oi p r m out store work) (compose_verdict L ki kg oi p r m out) (compose_lines L ki kg oi p r m out store work)
  unfolding composed
  compose_decided = record {
    refused = compose_refused L ki kg oi p r m out store work;
    accepted = compose_accepted L ki kg oi p r m out store work;
    only = only_verdict (compose_checks L ki kg oi p r m out store work) (compose_verdict L ki kg oi p r m out);
    numbered = sides_numbered (known_side L ki kg oi p r m out) (other_side L ki kg oi p r m out) (watch (decode_rules r)) m;
  }

  -- every outcome is a case of the enum
  pub compose_case : (c : Result Verdict Refusal) × (watched_answer c ≡ answer (composed L ki kg oi p r m out store work))
  compose_case =
      let x = sides_told (known_side L ki kg oi p r m out) (other_side L ki kg oi p r m out) (watch (decode_rules r)) m in
      outcome_case verdict_enum _ _ _ compose_decided x.0 x.1

-- ---- what the contract gives, and so what is told of it

module _ {R : Type 0} (tell : Result Verdict Refusal → R) (heard : Heard tell) (L : Limits) (ki kg oi p r : List ℕ) (m : ℕ) (out store work out' store' work' : List ℕ) (c : Result Verdict Refusal)
    (does : DoesBoth (composed L ki kg oi p r m (length out) (length store) (length work)) out store work out' store' work' (watched_answer c)) where
  abbrev pub K : Graph
  K = decode_graph kg

  abbrev pub I : Interface
  I = decode_interface oi

  abbrev pub P : List Row
  P = decode_property p

  abbrev pub mon : Monitor
  mon = watch (decode_rules r)

  abbrev pub o : Outcome
  o = composed L ki kg oi p r m (length out) (length store) (length work)

  abbrev pub said : Said
  said = compose_verdict L ki kg oi p r m (length out)

  abbrev pub ls : Lines
  ls = compose_lines L ki kg oi p r m (length out) (length store) (length work)

  pub d : Decided o said ls
  d = compose_decided L ki kg oi p r m (length out) (length store) (length work)

  -- the known graph always loads
  pub none_loads : NoneLoads (known K) ⊎ NoneLoads (unwritten I P) → NoneLoads (unwritten I P)
  none_loads (inl f) = absurd (f K refl)
  none_loads (inr f) = f
