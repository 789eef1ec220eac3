-- Judging is refused by the first line of its published order that applies, and otherwise says what `Judges` says.
-- Its theorems that rest on a definition which a must-fail edit turns stand in proofs/Theorems/Judge/Laws.
use Rattle.std.specs.Prelude.{◌≡◌, ◌↔◌, Bool, true, false, cond, List, [], ◌∷◌, ℕ, ◌≤◌, length, Ok, Err}
use Rattle.std.proofs.Common.{ap, ap₂, ◌∙◌, subst, sym, arith}
use Rattle.std.proofs.Math.Path.{refl}
use Rattle.std.proofs.Math.Option.{none}
use Rattle.files.specs.Decode.{decode_graph, decode_property}
use Rattle.files.specs.Graph.{Graph}
use Rattle.files.specs.Limits.{desk}
use Rattle.files.specs.Outcome.{Said, refuses, says, refusal_at, NoneOf, FirstOf, Matches, answer, answered, out_check}
use Rattle.files.specs.Outcome.Calls as calls
use Rattle.files.specs.Outcome.Laws.{refused_by, accepted_by}
use Rattle.files.specs.Property.{Row}
use Rattle.files.specs.Refusal.{graph, property, refusal}
use Rattle.files.specs.declared.record.Limits.{Limits}
use Rattle.judging.specs.Places.{judge_room}
use Rattle.judging.specs.TwoFiles.{two_match, two_given, two_say}
use Rattle.judging.specs.Judge.{judge_first, judge_said, judge_verdict, judge_checks, judge_lines, judged, judged_answer, Strides}
use Rattle.judging.specs.Levels.{satisfies}
use Rattle.judging.specs.Levels.Sheet.{sheet, sheet_bytes}
use Rattle.files.specs.Outcome.{published}
use Rattle.files.specs.declared.refusal.Refusal.{Refusal}
use Rattle.judging.specs.declared.answers.Judged.TheVariants.{Holds, Fails}

module _ (L : Limits) (g p : List ℕ) (out work : ℕ) where
  judge_match : Matches (judge_checks L g p out work) (judge_lines L g p out work)
  judge_match = two_match L graph g property p judge_room out work (judge_verdict L g p out work)

  pub judged_is : judged L g p out work ≡ answered (judge_first L g p work (out_check out (judge_verdict L g p out work))) (judge_verdict L g p out work)
  unfolding judged
  judged_is = refl

  -- the lines stand in the published order
  pub judge_order : published (judge_lines L g p out work) ≡ true
  judge_order = refl

  -- and are the call's row of the table
  pub judge_row : calls.Row L calls.judge (g ∷ p ∷ []) (judge_lines L g p out work)
  judge_row = record { numbers_are = refl; files_are = refl }

  -- refused, by number, file and record, exactly where that comes first in the published order
  pub judge_refused : (n f i : ℕ) → (judged L g p out work ≡ refuses (refusal_at n f i)) ↔ FirstOf (judge_lines L g p out work) n f i
  unfolding judged
  judge_refused = refused_by _ _ judge_match (judge_verdict L g p out work)

  -- accepted exactly where nothing applies
  pub judge_accepted : (judged L g p out work ≡ says (judge_verdict L g p out work)) ↔ NoneOf (judge_lines L g p out work)
  unfolding judged
  judge_accepted = accepted_by _ _ judge_match (judge_verdict L g p out work)

  -- a verdict is that of the graph and the property, and both files are accepted
  pub judge_files : (s : Said) → judged L g p out work ≡ says s → (s ≡ judge_verdict L g p out work) × (refusal L graph g ≡ none) × (refusal L property p ≡ none)
  unfolding judged
  judge_files = two_given L graph g property p judge_room out work (judge_verdict L g p out work)

-- ---- of accepted files

-- whatever files are accepted, with room enough, get the verdict of what they hold
pub judge_on : (L : Limits) (g p : List ℕ) (out work : ℕ) (G : Graph) (P : List Row) (s : Said) → refusal L graph g ≡ none → refusal L property p ≡ none
    → decode_graph g ≡ G → decode_property p ≡ P → judge_said G P ≡ s → length s.written ≤ out → judge_room ≤ work → judged L g p out work ≡ says s
unfolding judged
judge_on L g p out work G P s a b c d e o w =
    two_say L graph g property p judge_room out work (judge_said (decode_graph g) (decode_property p)) a b (omega (arith, ap (λ (x : Said). length x.written) said)) w
    ∙ ap says said
  where
    said : judge_said (decode_graph g) (decode_property p) ≡ s
    said = ap₂ judge_said c d ∙ e

pub holds_said : (G : Graph) (P : List Row) → satisfies G P ≡ true → judge_said G P ≡ record { verdict = 1; values = []; written = [] }
unfolding judge_said
holds_said G P e = ap (λ (b : Bool). cond b (record { verdict = 1; values = []; written = [] }) (record { verdict = 2; values = length (sheet G P) ∷ []; written = sheet_bytes G P })) e

pub fails_said : (G : Graph) (P : List Row) → satisfies G P ≡ false → judge_said G P ≡ record { verdict = 2; values = length (sheet G P) ∷ []; written = sheet_bytes G P }
unfolding judge_said
fails_said G P e = ap (λ (b : Bool). cond b (record { verdict = 1; values = []; written = [] }) (record { verdict = 2; values = length (sheet G P) ∷ []; written = sheet_bytes G P })) e

-- ---- the answer enum

-- each case answers what its outcome says
pub judge_answers : (n : ℕ) (ws : List ℕ) (r : Refusal) → (judged_answer (Ok Holds) ≡ answer (says (record { verdict = 1; values = []; written = [] })))
    × (judged_answer (Ok (Fails n)) ≡ answer (says (record { verdict = 2; values = n ∷ []; written = ws }))) × (judged_answer (Err r) ≡ answer (refuses r))
judge_answers n ws r = (refl, refl, refl)

-- ---- the limits of the desk

pub desk_strides : (L : Limits) → L ≡ desk → Strides L
desk_strides L e = subst Strides (sym e) (record { nodes_fit = omega arith; edges_fit = omega arith; rows_fit = omega arith })
