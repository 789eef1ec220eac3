-- What a returned value of comparing means. The only hypothesis is what the contract of `compare` states.
use Rattle.files.specs.declared.refusal.Refusal.{Refusal}
use Rattle.std.specs.Prelude.{◌≡◌, refl, ◌↔◌, cond, List, [], ◌∷◌, ℕ, ◌*◌, ◌<◌, T, eqb, length, get_or, take, drop, Result, Ok, Err}
use Rattle.std.proofs.Common.{sym, ap, subst, ◌∙◌, lit<}
use Rattle.files.specs.Decode.{decode_graph}
use Rattle.files.specs.Graph.{Graph, size}
use Rattle.files.specs.Outcome.{Said, Outcome, Answer, Does, answer, says, refusal_at, NoneOf, Lines}
use Rattle.files.specs.Outcome.Meaning.{Decided, Refuses, Clears, Wrote, Enum, Heard, itself, heard_itself, only_verdict, numbered_cond, outcome_case, case_cond, said_iff, refuses_by, clears_by, wrote_by}
use Rattle.files.specs.Places.{line_bytes, max_nodes}
use Rattle.files.specs.declared.record.Limits.{Limits}
use Rattle.judging.specs.declared.answers.Compared.{Compared}
use Rattle.judging.specs.declared.answers.Compared.TheVariants.{Yes, No}
use Rattle.judging.specs.Compare.{compared_answer, compare_said, compare_verdict, compare_checks, compare_lines, compared, Lowest, Compares}
use Rattle.judging.specs.Compare.Laws.{compare_refused, compare_accepted, compare_says}
use Rattle.judging.specs.Simulation.{Simulation, Simulates, simulates, uncovered, related, relation_bytes}
use Rattle.judging.specs.Simulation.Bytes.{has, bit_says}
use Rattle.judging.specs.Simulation.Laws.{relation_length}

-- the case of a number and its values
abbrev pub compared_of : Answer → Result Compared Refusal
compared_of a = cond (eqb a.verdict 1) (Ok Yes) (cond (eqb a.verdict 2) (Ok (No (get_or a.values 0 0))) (Err (refusal_at a.number (get_or a.values 0 0) (get_or a.values 1 0))))

pub compared_back : (r : Result Compared Refusal) → compared_of (compared_answer r) ≡ r
compared_back (Ok Yes) = refl
compared_back (Ok (No g)) = refl
compared_back (Err x) = refl

abbrev pub compared_enum : Enum (Result Compared Refusal)
compared_enum = record { code = compared_answer; back = compared_of; back_code = compared_back; refused = Err; code_refused = λ x. refl }

-- what bytes of a relation hold: bit h of node g's line says whether some simulation relates the two, and so the bytes are the largest
pub record WrittenRelation (G H : Graph) (bytes : List ℕ) : Type 1 where
  pub length_is : length bytes ≡ line_bytes * size G
  pub is_largest : (g h : ℕ) → g < size G → h < max_nodes → T (has bytes g h) ↔ ((R : ℕ → ℕ → Type 0) × Simulation G H R × R g h)

-- "one graph simulates another exactly when the largest simulation covers every entry": `Yes` is returned exactly where nothing is refused and the second graph
-- simulates the first, `No n` exactly where it does not, with the lowest uncovered entry; under either verdict the largest simulation is written.
pub record CompareMeans {R : Type 0} (tell : Result Compared Refusal → R) (L : Limits) (f g out work out' work' : List ℕ) (r : R) : Type 1 where
  pub refuses : Refuses (λ x. tell (Err x)) (compare_lines L f g (length out) (length work)) out out' r
  pub clears : Clears (λ x. tell (Err x)) work work' r
  pub yes_iff : (r ≡ tell (Ok Yes)) ↔ (NoneOf (compare_lines L f g (length out) (length work)) × Simulates (decode_graph f) (decode_graph g))
  pub no_iff : ((n : ℕ) × (r ≡ tell (Ok (No n)))) ↔ (NoneOf (compare_lines L f g (length out) (length work)) × (Simulates (decode_graph f) (decode_graph g) → ⊥))
  pub no_names : (n : ℕ) → r ≡ tell (Ok (No n)) → Lowest (decode_graph f) (decode_graph g) n
  pub compares : NoneOf (compare_lines L f g (length out) (length work)) → Compares (decode_graph f) (decode_graph g) (compare_verdict L f g (length out) (length work))
  pub writes : NoneOf (compare_lines L f g (length out) (length work)) → WrittenRelation (decode_graph f) (decode_graph g) (take (32 * size (decode_graph f)) out')
  pub past_unchanged : NoneOf (compare_lines L f g (length out) (length work)) → drop (32 * size (decode_graph f)) out' ≡ drop (32 * size (decode_graph f)) out

-- ---- the outcome

compare_numbered : (G H : Graph) → 0 < (compare_said G H).verdict
unfolding compare_said
compare_numbered G H = numbered_cond (simulates G H) _ _ (lit< tt) (lit< tt)

compare_told : (G H : Graph) → (c : Result Compared Refusal) × (compared_answer c ≡ answer (says (compare_said G H)))
unfolding compare_said
compare_told G H = case_cond compared_enum (simulates G H) _ _ (Ok Yes) (Ok (No (uncovered G H))) refl refl

module _ (L : Limits) (f g : List ℕ) (out work : ℕ) where
  compare_decided : Decided (compared L f g out work) (compare_verdict L f g out work) (compare_lines L f g out work)
  unfolding compared
  compare_decided = record {
    refused = compare_refused L f g out work;
    accepted = compare_accepted L f g out work;
    only = only_verdict (compare_checks L f g out work) (compare_verdict L f g out work);
    numbered = compare_numbered (decode_graph f) (decode_graph g);
  }

  -- every outcome is a case of the enum
  pub compare_case : (c : Result Compared Refusal) × (compared_answer c ≡ answer (compared L f g out work))
  compare_case = let x = compare_told (decode_graph f) (decode_graph g) in outcome_case compared_enum _ _ _ compare_decided x.0 x.1

-- ---- what the contract gives, and so what is told of it

module _ {R : Type 0} (tell : Result Compared Refusal → R) (heard : Heard tell) (L : Limits) (f g out work out' work' : List ℕ) (c : Result Compared Refusal)
    (does : Does (compared L f g (length out) (length work)) out work out' work' (compared_answer c)) where
  abbrev G : Graph
  G = decode_graph f

  abbrev H : Graph
  H = decode_graph g

  abbrev o : Outcome
  o = compared L f g (length out) (length work)

  abbrev said : Said
  said = compare_verdict L f g (length out) (length work)

  abbrev ls : Lines
  ls = compare_lines L f g (length out) (length work)

  d : Decided o said ls
  d = compare_decided L f g (length out) (length work)

  means : NoneOf ls → Compares G H said
  means t = compare_says L f g (length out) (length work) said (d.accepted.1 t)

  is_yes : (tell c ≡ tell (Ok Yes)) ↔ (NoneOf ls × (said.verdict ≡ 1) × (said.values ≡ []))
  is_yes = said_iff compared_enum tell heard o said ls d c does.answers.answer_is (Ok Yes) 1 [] (lit< tt) refl

  is_no : (n : ℕ) → (tell c ≡ tell (Ok (No n))) ↔ (NoneOf ls × (said.verdict ≡ 2) × (said.values ≡ n ∷ []))
  is_no n = said_iff compared_enum tell heard o said ls d c does.answers.answer_is (Ok (No n)) 2 (n ∷ []) (lit< tt) refl

  names : (n : ℕ) → tell c ≡ tell (Ok (No n)) → Lowest G H n
  names n q =
      let a = (is_no n).0 q in
      let e = (means a.0).no_names a.1 in
      let i : uncovered G H ≡ n = ap (λ (xs : List ℕ). get_or xs 0 0) (sym e.0 ∙ a.2) in
      subst (Lowest G H) i e.1

  wrote : NoneOf ls → Wrote (32 * size G) (relation_bytes G H) out out'
  wrote t =
      let w = (means t).writes in
      subst (λ (ws : List ℕ). Wrote (32 * size G) ws out out') w
      (wrote_by o said ls d out out' does.answers.out_is t (32 * size G) (ap length w ∙ relation_length G H))

  writes : NoneOf ls → WrittenRelation G H (take (32 * size G) out')
  writes t =
      let m = means t in
      subst (WrittenRelation G H) (sym (wrote t).result) (record {
        length_is = relation_length G H;
        is_largest = λ g h hg hh. (
          λ b. ((λ g h. T (related G H g h)), m.is_simulation, subst T (bit_says G H g h hg hh) b),
          λ x. subst T (sym (bit_says G H g h hg hh)) (m.is_largest x.0 x.1 g h x.2),
        );
      })

  pub compare_tells : CompareMeans tell L f g out work out' work' (tell c)
  compare_tells = record {
    refuses = refuses_by compared_enum tell heard o said ls d c does.answers.answer_is out out' does.answers.out_is;
    clears = clears_by compared_enum tell heard o said ls d c does.answers.answer_is work work' does.work_is;
    yes_iff = (
      λ q. let a = is_yes.0 q in (a.0, (means a.0).yes_iff.0 a.1),
      λ a. let v = (means a.0).yes_iff.1 a.1 in is_yes.1 (a.0, v, (means a.0).yes_silent v),
    );
    no_iff = (
      λ q. let a = (is_no q.0).0 q.1 in (a.0, (means a.0).no_iff.0 a.1),
      λ a. let v = (means a.0).no_iff.1 a.1 in (uncovered G H, (is_no (uncovered G H)).1 (a.0, v, ((means a.0).no_names v).0)),
    );
    no_names = names;
    compares = means;
    writes = writes;
    past_unchanged = λ t. (wrote t).rest;
  }

-- The returned value, from what the contract states of it.
pub compare_means : (L : Limits) (f g out work out' work' : List ℕ) (r : Result Compared Refusal)
    → Does (compared L f g (length out) (length work)) out work out' work' (compared_answer r) → CompareMeans itself L f g out work out' work' r
compare_means L f g out work out' work' r does = compare_tells itself heard_itself L f g out work out' work' r does
