-- What a returned value of joining means. The only hypothesis is what the contract of `join` states.
use Rattle.files.specs.declared.refusal.Refusal.{Refusal}
use Rattle.std.specs.Prelude.{◌≡◌, refl, ◌↔◌, cond, List, [], ◌∷◌, ℕ, ◌+◌, ◌*◌, eqb, length, get_or, take, drop, Result, Ok, Err}
use Rattle.std.proofs.Common.{sym, ap, ap₂, subst, ◌∙◌}
use Rattle.std.proofs.Math.Option.{none}
use Rattle.std.proofs.Math.Dec.{lit<}
use Rattle.files.specs.Decode.{decode_graph, decode_interface, graph_bytes}
use Rattle.files.specs.Decode.Written.{graph_length}
use Rattle.files.specs.Graph.{Graph, size}
use Rattle.files.specs.Interface.{Interface, Of, united}
use Rattle.files.specs.Outcome.{Said, Outcome, Answer, Answers, answer, refusal_at, NoneOf, Lines}
use Rattle.files.specs.Outcome.Meaning.{Decided, Refuses, Wrote, Enum, Heard, itself, heard_itself, only_verdict, outcome_case, said_iff, refuses_by, wrote_by}
use Rattle.files.specs.Places.{record_len}
use Rattle.files.specs.Refusal.{graph, refusal}
use Rattle.files.specs.declared.record.Limits.{Limits}
use Rattle.files.specs.Join.{join}
use Rattle.runs.specs.Joining.{Written, joined_answer, join_graph, join_sides, join_said, join_checks, join_lines, joined}
use Rattle.runs.specs.Joining.Laws.{join_refused, join_own, join_own_second, join_accepted, join_says}
use Rattle.runs.specs.declared.answers.Joined.{Joined}

-- the case of a number and its values
abbrev pub joined_of : Answer → Result Joined Refusal
joined_of a =
    cond (eqb a.verdict 1) (Written (get_or a.values 0 0) (get_or a.values 1 0) (get_or a.values 2 0) (get_or a.values 3 0))
    (Err (refusal_at a.number (get_or a.values 0 0) (get_or a.values 1 0)))

pub joined_back : (r : Result Joined Refusal) → joined_of (joined_answer r) ≡ r
joined_back (Ok v) = refl
joined_back (Err x) = refl

abbrev pub joined_enum : Enum (Result Joined Refusal)
joined_enum = record { code = joined_answer; back = joined_of; back_code = joined_back; refused = Err; code_refused = λ x. refl }

-- "provided and required sets are united and returned beside the graph as an interface's two bytes": what bytes of n nodes and e edges, and the two numbers, are
pub record WrittenJoin (L : Limits) (I J : Interface) (K G : Graph) (n e p q : ℕ) (bytes : List ℕ) : Type 0 where
  pub accepted : refusal L graph bytes ≡ none
  pub is_the_join : decode_graph bytes ≡ join K G
  pub nodes_are : size (decode_graph bytes) ≡ n
  pub edges_are : length (decode_graph bytes).edges ≡ e
  pub provided_is : (united I J).provided ≡ p
  pub required_is : (united I J).required ≡ q
  pub of_united : Of (united I J) (decode_graph bytes)

-- `Written` is returned exactly where nothing is refused, and then the first 6 (n + e) bytes are the two graphs joined. A graph that is of its interface is never
-- refused by 9. `tell` is how a case is returned: as itself, or in numbers.
pub record JoinMeans {R : Type 0} (tell : Result Joined Refusal → R) (L : Limits) (i1 g1 i2 g2 out out' : List ℕ) (r : R) : Type 0 where
  pub refuses : Refuses (λ x. tell (Err x)) (join_lines L i1 g1 i2 g2 (length out)) out out' r
  pub written_iff : ((n : ℕ) × (e : ℕ) × (p : ℕ) × (q : ℕ) × (r ≡ tell (Written n e p q))) ↔ NoneOf (join_lines L i1 g1 i2 g2 (length out))
  pub writes : (n e p q : ℕ) → r ≡ tell (Written n e p q)
      → WrittenJoin L (decode_interface i1) (decode_interface i2) (decode_graph g1) (decode_graph g2) n e p q (take (record_len * (n + e)) out')
  pub past_unchanged : (n e p q : ℕ) → r ≡ tell (Written n e p q) → drop (record_len * (n + e)) out' ≡ drop (record_len * (n + e)) out
  pub own_first : Of (decode_interface i1) (decode_graph g1) → (k : ℕ) → r ≡ tell (Err (refusal_at 9 2 k)) → ⊥
  pub own_second : Of (decode_interface i2) (decode_graph g2) → (k : ℕ) → r ≡ tell (Err (refusal_at 9 4 k)) → ⊥

-- ---- the outcome

module _ (L : Limits) (i1 g1 i2 g2 : List ℕ) (out : ℕ) where
  join_decided : Decided (joined L i1 g1 i2 g2 out) (join_said L i1 g1 i2 g2 out) (join_lines L i1 g1 i2 g2 out)
  unfolding joined
  join_decided = record {
    refused = join_refused L i1 g1 i2 g2 out;
    accepted = join_accepted L i1 g1 i2 g2 out;
    only = only_verdict (join_checks L i1 g1 i2 g2 out) (join_said L i1 g1 i2 g2 out);
    numbered = lit< tt;
  }

  -- every outcome is a case of the enum
  pub join_case : (c : Result Joined Refusal) × (joined_answer c ≡ answer (joined L i1 g1 i2 g2 out))
  join_case =
      let G = join_graph L i1 g1 i2 g2 out in
      let I = join_sides L i1 g1 i2 g2 out in
      outcome_case joined_enum _ _ _ join_decided (Written (size G) (length G.edges) I.provided I.required) refl

-- ---- what the contract gives, and so what is told of it

module _ {R : Type 0} (tell : Result Joined Refusal → R) (heard : Heard tell) (L : Limits) (i1 g1 i2 g2 out out' : List ℕ) (c : Result Joined Refusal)
    (answers : Answers (joined L i1 g1 i2 g2 (length out)) out out' (joined_answer c)) where
  abbrev G : Graph
  G = join_graph L i1 g1 i2 g2 (length out)

  abbrev I : Interface
  I = join_sides L i1 g1 i2 g2 (length out)

  abbrev o : Outcome
  o = joined L i1 g1 i2 g2 (length out)

  abbrev said : Said
  said = join_said L i1 g1 i2 g2 (length out)

  abbrev ls : Lines
  ls = join_lines L i1 g1 i2 g2 (length out)

  d : Decided o said ls
  d = join_decided L i1 g1 i2 g2 (length out)

  is_written : (n e p q : ℕ) → (tell c ≡ tell (Written n e p q)) ↔ (NoneOf ls × (said.verdict ≡ 1) × (said.values ≡ n ∷ e ∷ p ∷ q ∷ []))
  is_written n e p q = said_iff joined_enum tell heard o said ls d c answers.answer_is (Written n e p q) 1 (n ∷ e ∷ p ∷ q ∷ []) (lit< tt) refl

  value : (n e p q : ℕ) → tell c ≡ tell (Written n e p q) → (k : ℕ) → get_or said.values k 0 ≡ get_or (n ∷ e ∷ p ∷ q ∷ []) k 0
  value n e p q x k = ap (λ (xs : List ℕ). get_or xs k 0) ((is_written n e p q).0 x).2

  wrote : (n e p q : ℕ) → tell c ≡ tell (Written n e p q) → Wrote (record_len * (n + e)) (graph_bytes G) out out'
  wrote n e p q x =
      wrote_by o said ls d out out' answers.out_is ((is_written n e p q).0 x).0 (record_len * (n + e))
      (graph_length G ∙ ap₂ (λ (a b : ℕ). record_len * (a + b)) (value n e p q x 0) (value n e p q x 1))

  writes : (n e p q : ℕ) → tell c ≡ tell (Written n e p q)
      → WrittenJoin L (decode_interface i1) (decode_interface i2) (decode_graph g1) (decode_graph g2) n e p q (take (record_len * (n + e)) out')
  writes n e p q x =
      let m = join_says L i1 g1 i2 g2 (length out) said (d.accepted.1 ((is_written n e p q).0 x).0) in
      subst (WrittenJoin L (decode_interface i1) (decode_interface i2) (decode_graph g1) (decode_graph g2) n e p q) (sym (wrote n e p q x).result) (record {
        accepted = m.accepted;
        is_the_join = m.is_the_join;
        nodes_are = ap (λ (H : Graph). size H) m.is_the_join ∙ value n e p q x 0;
        edges_are = ap (λ (H : Graph). length H.edges) m.is_the_join ∙ value n e p q x 1;
        provided_is = value n e p q x 2;
        required_is = value n e p q x 3;
        of_united = m.of_united;
      })

  refusing : Refuses (λ x. tell (Err x)) ls out out' (tell c)
  refusing = refuses_by joined_enum tell heard o said ls d c answers.answer_is out out' answers.out_is

  pub join_tells : JoinMeans tell L i1 g1 i2 g2 out out' (tell c)
  join_tells = record {
    refuses = refusing;
    written_iff = (
      λ x. ((is_written x.0 x.1 x.2 x.3).0 x.4).0,
      λ t. (size G, length G.edges, I.provided, I.required, (is_written (size G) (length G.edges) I.provided I.required).1 (t, refl, refl)),
    );
    writes = writes;
    past_unchanged = λ n e p q x. (wrote n e p q x).rest;
    own_first = λ of k q. join_own L i1 g1 i2 g2 (length out) of k ((refusing.refused_iff (refusal_at 9 2 k)).0 q);
    own_second = λ of k q. join_own_second L i1 g1 i2 g2 (length out) of k ((refusing.refused_iff (refusal_at 9 4 k)).0 q);
  }

-- The returned value, from what the contract states of it.
pub join_means : (L : Limits) (i1 g1 i2 g2 out out' : List ℕ) (r : Result Joined Refusal)
    → Answers (joined L i1 g1 i2 g2 (length out)) out out' (joined_answer r) → JoinMeans itself L i1 g1 i2 g2 out out' r
join_means L i1 g1 i2 g2 out out' r answers = join_tells itself heard_itself L i1 g1 i2 g2 out out' r answers
