-- What a returned value of assembling means, and what becomes of it where a delivery is appended. The only hypothesis is what the contract of `assemble` states.
use Rattle.std.specs.Prelude.{◌≡◌, refl, ◌↔◌, Ok, Err, cond, List, [], ◌∷◌, ◌++◌, ℕ, ◌+◌, ◌*◌, ◌≤◌, ◌<◌, eqb, length, get_or, take, drop}
use Rattle.std.proofs.Common.{sym, ap, ap₂, subst, ◌∙◌}
use Rattle.std.proofs.Math.Option.{none}
use Rattle.std.proofs.Math.Dec.{lit<}
use Rattle.files.specs.Assemble.{standing_graph, Taken, assemble_said, assemble_checks, assemble_lines, assembled_outcome, Assembled, assembled_answer}
use Rattle.files.specs.Assemble.Laws.{assemble_refused, assemble_accepted, assemble_says, appended}
use Rattle.files.specs.Basics.Permuted.{Permuted}
use Rattle.files.specs.Decode.{decode_graph, graph_bytes}
use Rattle.files.specs.Decode.Written.{graph_length}
use Rattle.files.specs.Deliveries.{Delivery, decode_deliveries, deliveries_bytes, standing, standing_of, block}
use Rattle.files.specs.Deliveries.Blocks.{body_of}
use Rattle.files.specs.Deliveries.Written.{Opened}
use Rattle.files.specs.Graph.{Graph, size, node}
use Rattle.files.specs.Outcome.{Written, Said, Outcome, Answer, Answers, answer, out_after, refusal_at, NoneOf, Lines}
use Rattle.files.specs.Outcome.Meaning.{Decided, Refuses, Wrote, Enum, Heard, itself, heard_itself, only_verdict, outcome_case, said_iff, refuses_by, wrote_by}
use Rattle.files.specs.Places.{record_len}
use Rattle.files.specs.Refusal.{graph, refusal}
use Rattle.files.specs.declared.record.Limits.{Limits}

-- the case of a number and its values
abbrev pub assembled_of : Answer → Assembled
assembled_of a = cond (eqb a.verdict 1) (Written (get_or a.values 0 0) (get_or a.values 1 0)) (Err (refusal_at a.number (get_or a.values 0 0) (get_or a.values 1 0)))

pub assembled_back : (r : Assembled) → assembled_of (assembled_answer r) ≡ r
assembled_back (Ok v) = refl
assembled_back (Err x) = refl

abbrev pub assembled_enum : Enum Assembled
assembled_enum = record { code = assembled_answer; back = assembled_of; back_code = assembled_back; refused = λ x. Err x; code_refused = λ x. refl }

-- what bytes of n nodes and e edges are: a graph file whose methods ascend, and in which the part of each method is the delivery that stands for it, or nothing
pub record WrittenStanding (L : Limits) (ds : List Delivery) (n e : ℕ) (bytes : List ℕ) : Type 0 where
  pub accepted : refusal L graph bytes ≡ none
  pub nodes_are : size (decode_graph bytes) ≡ n
  pub edges_are : length (decode_graph bytes).edges ≡ e
  pub ascends : (i j : ℕ) → i < j → j < size (decode_graph bytes) → (node (decode_graph bytes) i).method ≤ (node (decode_graph bytes) j).method
  pub by_method : (m : ℕ) → 1 ≤ m → m ≤ 8 → block m (decode_graph bytes) ≡ body_of (standing_of ds m)

-- `Written` is returned exactly where nothing is refused, and then the first 6 (n + e) bytes are the standing graph's file. `tell` is how a case is returned: as itself, or in
-- numbers.
pub record AssembleMeans {R : Type 0} (tell : Assembled → R) (L : Limits) (l out out' : List ℕ) (r : R) : Type 0 where
  pub refuses : Refuses (λ x. tell (Err x)) (assemble_lines L l (length out)) out out' r
  pub written_iff : ((n : ℕ) × (e : ℕ) × (r ≡ tell (Written n e))) ↔ NoneOf (assemble_lines L l (length out))
  pub writes : (n e : ℕ) → r ≡ tell (Written n e) → WrittenStanding L (decode_deliveries l) n e (take (record_len * (n + e)) out')
  pub past_unchanged : (n e : ℕ) → r ≡ tell (Written n e) → drop (record_len * (n + e)) out' ≡ drop (record_len * (n + e)) out

-- ---- the outcome

module _ (L : Limits) (l : List ℕ) (out : ℕ) where
  assemble_decided : Decided (assembled_outcome L l out) (assemble_said L l out) (assemble_lines L l out)
  unfolding assembled_outcome
  assemble_decided = record {
    refused = assemble_refused L l out;
    accepted = assemble_accepted L l out;
    only = only_verdict (assemble_checks L l out) (assemble_said L l out);
    numbered = lit< tt;
  }

  -- every outcome is a case of the enum
  pub assemble_case : (c : Assembled) × (assembled_answer c ≡ answer (assembled_outcome L l out))
  assemble_case = outcome_case assembled_enum _ _ _ assemble_decided (Written (size (standing_graph l)) (length (standing_graph l).edges)) refl

-- ---- what the contract gives, and so what is told of it

module _ {R : Type 0} (tell : Assembled → R) (heard : Heard tell) (L : Limits) (l out out' : List ℕ) (c : Assembled)
    (answers : Answers (assembled_outcome L l (length out)) out out' (assembled_answer c)) where
  abbrev G : Graph
  G = standing_graph l

  abbrev o : Outcome
  o = assembled_outcome L l (length out)

  abbrev said : Said
  said = assemble_said L l (length out)

  abbrev ls : Lines
  ls = assemble_lines L l (length out)

  d : Decided o said ls
  d = assemble_decided L l (length out)

  is_written : (n e : ℕ) → (tell c ≡ tell (Written n e)) ↔ (NoneOf ls × (said.verdict ≡ 1) × (said.values ≡ n ∷ e ∷ []))
  is_written n e = said_iff assembled_enum tell heard o said ls d c answers.answer_is (Written n e) 1 (n ∷ e ∷ []) (lit< tt) refl

  value : (n e : ℕ) → tell c ≡ tell (Written n e) → (k : ℕ) → get_or said.values k 0 ≡ get_or (n ∷ e ∷ []) k 0
  value n e x k = ap (λ (xs : List ℕ). get_or xs k 0) ((is_written n e).0 x).2

  wrote : (n e : ℕ) → tell c ≡ tell (Written n e) → Wrote (record_len * (n + e)) (graph_bytes G) out out'
  wrote n e x =
      wrote_by o said ls d out out' answers.out_is ((is_written n e).0 x).0 (record_len * (n + e))
      (graph_length G ∙ ap₂ (λ (a b : ℕ). record_len * (a + b)) (value n e x 0) (value n e x 1))

  writes : (n e : ℕ) → tell c ≡ tell (Written n e) → WrittenStanding L (decode_deliveries l) n e (take (record_len * (n + e)) out')
  writes n e x =
      let m = assemble_says L l (length out) said (d.accepted.1 ((is_written n e).0 x).0) in
      let is : decode_graph (graph_bytes G) ≡ G = m.is_assembled in
      subst (WrittenStanding L (decode_deliveries l) n e) (sym (wrote n e x).result) (record {
        accepted = m.accepted;
        nodes_are = ap (λ (H : Graph). size H) is ∙ value n e x 0;
        edges_are = ap (λ (H : Graph). length H.edges) is ∙ value n e x 1;
        ascends = subst (λ (H : Graph). (i j : ℕ) → i < j → j < size H → (node H i).method ≤ (node H j).method) (sym is) m.ascends;
        by_method = subst (λ (H : Graph). (k : ℕ) → 1 ≤ k → k ≤ 8 → block k H ≡ body_of (standing_of (decode_deliveries l) k)) (sym is) m.by_method;
      })

  pub assemble_tells : AssembleMeans tell L l out out' (tell c)
  assemble_tells = record {
    refuses = refuses_by assembled_enum tell heard o said ls d c answers.answer_is out out' answers.out_is;
    written_iff = (
      λ x. ((is_written x.0 x.1).0 x.2).0,
      λ t. (size G, length G.edges, (is_written (size G) (length G.edges)).1 (t, refl, refl)),
    );
    writes = writes;
    past_unchanged = λ n e x. (wrote n e x).rest;
  }

-- The returned value, from what the contract states of it.
pub assemble_means : (L : Limits) (l out out' : List ℕ) (r : Assembled) → Answers (assembled_outcome L l (length out)) out out' (assembled_answer r) → AssembleMeans itself L l out out' r
assemble_means L l out out' r answers = assemble_tells itself heard_itself L l out out' r answers

-- "When a delivery appended to an accepted file leaves it accepted, graph .. equal those of the standing deliveries alone in any order": of returned values and output bytes,
-- for every output.
pub appended_returned : (L : Limits) (l d : List ℕ) → Taken L l → Opened d → Taken L (l ++ d) → (es : List Delivery) → Permuted (standing (decode_deliveries l ++ decode_deliveries d)) es
    → (out out₁ out₂ : List ℕ) (r₁ r₂ : Assembled) → Answers (assembled_outcome L (l ++ d) (length out)) out out₁ (assembled_answer r₁)
    → Answers (assembled_outcome L (deliveries_bytes es) (length out)) out out₂ (assembled_answer r₂) → (r₁ ≡ r₂) × (out₁ ≡ out₂)
appended_returned L l d before begins after es order out out₁ out₂ r₁ r₂ a b =
    let same = appended L l d before begins after es order (length out) in
    let codes : assembled_answer r₁ ≡ assembled_answer r₂ = a.answer_is ∙ ap answer (sym same) ∙ sym b.answer_is in
    (sym (assembled_back r₁) ∙ ap assembled_of codes ∙ assembled_back r₂, a.out_is ∙ ap (λ (o : Outcome). out_after o out) (sym same) ∙ sym b.out_is)
