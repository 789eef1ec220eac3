-- Comparing is refused by the first line of its published order that applies, and otherwise says what `Compares` says.
use Rattle.std.specs.Prelude.{◌≡◌, ◌↔◌, Bool, true, false, not, cond, List, [], ◌∷◌, ℕ, ◌≤◌, ◌<◌, ◌+◌, ◌*◌, ◌/◌, ◌%◌, T, length, get_or, Ok, Err}
use Rattle.std.proofs.Math.Path.{refl}
use Rattle.std.proofs.Common.{sym, ap, ap₂, subst, ◌∙◌, arith, T_not}
use Rattle.std.proofs.Math.Option.{none}
use Rattle.files.specs.Decode.{decode_graph}
use Rattle.files.specs.Decode.Graphs.{decoded_flow}
use Rattle.files.specs.Graph.{Graph, Flow, node, size}
use Rattle.files.specs.Outcome.{Said, refuses, says, refusal_at, NoneOf, FirstOf, Matches, answer, answered, out_check}
use Rattle.files.specs.Outcome.Calls as calls
use Rattle.files.specs.Outcome.Laws.{refused_by, accepted_by}
use Rattle.files.specs.Places.{max_nodes}
use Rattle.files.specs.Refusal.{graph, refusal}
use Rattle.files.specs.declared.record.Limits.{Limits}
use Rattle.judging.specs.Places.{compare_room}
use Rattle.judging.specs.TwoFiles.{two_match, two_given, two_say}
use Rattle.judging.specs.Compare.{compare_said, compare_verdict, compare_checks, compare_lines, compared, Lowest, Compares, compared_answer, compare_first}
use Rattle.judging.specs.Simulation.{Covered, Simulates, covered, simulates, uncovered, relation_bytes, related}
use Rattle.judging.specs.Simulation.Laws.{verdict, largest, covered_e, covered_i, uncovered_is, uncovered_lowest, simulates_covers, related_simulation, relation_bit}
use Rattle.files.specs.Outcome.{published}
use Rattle.files.specs.Basics.Tests.{one}
use Rattle.files.specs.Basics.Binary.{bit}
use Rattle.files.specs.declared.refusal.Refusal.{Refusal}
use Rattle.judging.specs.declared.answers.Compared.TheVariants.{Yes, No}

module _ (L : Limits) (g h : List ℕ) (out work : ℕ) where
  compare_match : Matches (compare_checks L g h out work) (compare_lines L g h out work)
  compare_match = two_match L graph g graph h compare_room out work (compare_verdict L g h out work)

  pub compared_is : compared L g h out work ≡ answered (compare_first L g h work (out_check out (compare_verdict L g h out work))) (compare_verdict L g h out work)
  unfolding compared
  compared_is = refl

  -- the lines stand in the published order
  pub compare_order : published (compare_lines L g h out work) ≡ true
  compare_order = refl

  -- and are the call's row of the table
  pub compare_row : calls.Row L calls.compare (g ∷ h ∷ []) (compare_lines L g h out work)
  compare_row = record { numbers_are = refl; files_are = refl }

  -- refused, by number, file and record, exactly where that comes first in the published order
  pub compare_refused : (n f i : ℕ) → (compared L g h out work ≡ refuses (refusal_at n f i)) ↔ FirstOf (compare_lines L g h out work) n f i
  unfolding compared
  compare_refused = refused_by _ _ compare_match (compare_verdict L g h out work)

  -- accepted exactly where nothing applies
  pub compare_accepted : (compared L g h out work ≡ says (compare_verdict L g h out work)) ↔ NoneOf (compare_lines L g h out work)
  unfolding compared
  compare_accepted = accepted_by _ _ compare_match (compare_verdict L g h out work)

  -- a verdict is that of the two graphs, and both files are accepted
  pub compare_files : (s : Said) → compared L g h out work ≡ says s → (s ≡ compare_verdict L g h out work) × (refusal L graph g ≡ none) × (refusal L graph h ≡ none)
  unfolding compared
  compare_files = two_given L graph g graph h compare_room out work (compare_verdict L g h out work)

-- ---- what the verdict says

compare_cases : (G H : Graph) (s : Said) → Flow G → Flow H → s ≡ compare_said G H → Compares G H s
unfolding compare_said
compare_cases G H s fg fh e = go (simulates G H) refl (verdict G H fg fh) e
  where
    entry_is : T (not (simulates G H)) → Lowest G H (uncovered G H)
    entry_is t =
        let a = uncovered_is G H t in
        record {
          is_node = a.0;
          is_entry = a.1;
          uncovered_by = λ R s c. T_not (covered G H (uncovered G H)) a.2 (covered_i G H fg fh (uncovered G H) c.0 c.1 (largest G H fg fh R s (uncovered G H) c.0 c.2));
          lowest = λ k h x. ((λ g h. T (related G H g h)), related_simulation G H fg fh, covered_e G H fg fh k (uncovered_lowest G H k h x));
        }

    covers_iff : T (simulates G H) ↔ ((g : ℕ) → g < size G → T (node G g).entry → Covered H (λ g h. T (related G H g h)) g)
    covers_iff = (
      λ t g h x. covered_e G H fg fh g ((simulates_covers G H).0 t g h x),
      λ f. (simulates_covers G H).1 (λ g h x. let c = f g h x in covered_i G H fg fh g c.0 c.1 c.2),
    )

    bits : s.written ≡ relation_bytes G H → (g h : ℕ) → g < size G → h < max_nodes → bit (get_or s.written (32 * g + h / 8) 0) (h % 8) ≡ one (related G H g h)
    bits w g h hg hh = ap (λ (l : List ℕ). bit (get_or l (32 * g + h / 8) 0) (h % 8)) w ∙ relation_bit G H g h hg hh

    go : (b : Bool) → simulates G H ≡ b → T b ↔ Simulates G H
        → s ≡ cond b (record { verdict = 1; values = []; written = relation_bytes G H }) (record { verdict = 2; values = uncovered G H ∷ []; written = relation_bytes G H })
        → Compares G H s
    go true c i q =
        let v : s.verdict ≡ 1 = ap (λ (x : Said). x.verdict) q in
        record {
          first_flow = fg;
          second_flow = fh;
          yes_iff = (λ x. i.0 tt, λ x. v);
          no_iff = (λ x. absurd (omega arith), λ f. absurd (f (i.0 tt)));
          yes_silent = λ x. ap (λ (x : Said). x.values) q;
          no_names = λ x. absurd (omega arith);
          yes_covers = (λ x. covers_iff.0 (subst T (sym c) tt), λ x. v);
          is_simulation = related_simulation G H fg fh;
          is_largest = largest G H fg fh;
          writes = ap (λ (x : Said). x.written) q;
          writes_relation = bits (ap (λ (x : Said). x.written) q);
        }
    go false c i q =
        let v : s.verdict ≡ 2 = ap (λ (x : Said). x.verdict) q in
        let a = entry_is (subst (λ (b : Bool). T (not b)) (sym c) tt) in
        record {
          first_flow = fg;
          second_flow = fh;
          yes_iff = (λ x. absurd (omega arith), λ f. absurd (i.1 f));
          no_iff = (λ x f. i.1 f, λ f. v);
          yes_silent = λ x. absurd (omega arith);
          no_names = λ x. (ap (λ (x : Said). x.values) q, a);
          yes_covers = (λ x. absurd (omega arith), λ f. absurd (subst T c (covers_iff.1 f)));
          is_simulation = related_simulation G H fg fh;
          is_largest = largest G H fg fh;
          writes = ap (λ (x : Said). x.written) q;
          writes_relation = bits (ap (λ (x : Said). x.written) q);
        }

-- whatever the bytes and lengths, a verdict of comparing says what `Compares` says
pub compare_says : (L : Limits) (g h : List ℕ) (out work : ℕ) (s : Said) → compared L g h out work ≡ says s → Compares (decode_graph g) (decode_graph h) s
compare_says L g h out work s e =
    let a = compare_files L g h out work s e in
    compare_cases (decode_graph g) (decode_graph h) s (decoded_flow L g a.1) (decoded_flow L h a.2) a.0

-- ---- of accepted files

-- whatever files are accepted, with room enough, get the verdict of what they hold
pub compare_on : (L : Limits) (g h : List ℕ) (out work : ℕ) (G H : Graph) (s : Said) → refusal L graph g ≡ none → refusal L graph h ≡ none
    → decode_graph g ≡ G → decode_graph h ≡ H → compare_said G H ≡ s → length s.written ≤ out → compare_room ≤ work → compared L g h out work ≡ says s
unfolding compared
compare_on L g h out work G H s a b c d e o w =
    two_say L graph g graph h compare_room out work (compare_said (decode_graph g) (decode_graph h)) a b (omega (arith, ap (λ (x : Said). length x.written) said)) w
    ∙ ap says said
  where
    said : compare_said (decode_graph g) (decode_graph h) ≡ s
    said = ap₂ compare_said c d ∙ e

pub yes_said : (G H : Graph) → simulates G H ≡ true → compare_said G H ≡ record { verdict = 1; values = []; written = relation_bytes G H }
unfolding compare_said
yes_said G H e = ap (λ (b : Bool). cond b (record { verdict = 1; values = []; written = relation_bytes G H }) (record { verdict = 2; values = uncovered G H ∷ []; written = relation_bytes G H })) e

pub no_said : (G H : Graph) → simulates G H ≡ false → compare_said G H ≡ record { verdict = 2; values = uncovered G H ∷ []; written = relation_bytes G H }
unfolding compare_said
no_said G H e = ap (λ (b : Bool). cond b (record { verdict = 1; values = []; written = relation_bytes G H }) (record { verdict = 2; values = uncovered G H ∷ []; written = relation_bytes G H })) e

-- ---- the answer enum

-- each case answers what its outcome says
pub compare_answers : (g : ℕ) (ws : List ℕ) (r : Refusal) → (compared_answer (Ok Yes) ≡ answer (says (record { verdict = 1; values = []; written = ws })))
    × (compared_answer (Ok (No g)) ≡ answer (says (record { verdict = 2; values = g ∷ []; written = ws }))) × (compared_answer (Err r) ≡ answer (refuses r))
compare_answers g ws r = (refl, refl, refl)
