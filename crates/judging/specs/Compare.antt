-- The call "compare": what it answers and writes, from the bytes of its files and the lengths of its buffers.
use Rattle.files.specs.declared.refusal.Refusal.{Refusal}
use Rattle.std.specs.Prelude.{◌≡◌, ◌↔◌, cond, List, [], ◌∷◌, ℕ, ◌<◌, ◌+◌, ◌*◌, ◌/◌, ◌%◌, T, get_or, Result, Ok, Err}
use Rattle.files.specs.Places.{max_nodes}
use Rattle.files.specs.declared.record.Limits.{Limits}
use Rattle.files.specs.Graph.{Graph, Flow, node, size}
use Rattle.files.specs.Refusal.{graph}
use Rattle.files.specs.Decode.{decode_graph}
use Rattle.files.specs.Outcome.{Said, Outcome, Answer, refused_answer, verdict_answer, Check, whole_check, file_checks, out_check, answered, Lines, whole_line, file_lines, out_line, short}
use Rattle.judging.specs.Places.{compare_room}
use Rattle.judging.specs.declared.answers.Compared.{Compared}
use Rattle.judging.specs.declared.answers.Compared.TheVariants.{Yes, No}
use Rattle.judging.specs.Simulation.{Simulation, Covered, Simulates, simulates, uncovered, relation_bytes, related}
use Rattle.files.specs.Basics.Tests.{one}
use Rattle.files.specs.Basics.Binary.{bit}
pub mod Laws
pub mod Meaning
pub mod Examples

-- the paper's number and values for each case
abbrev pub compared_answer : Result Compared Refusal → Answer
compared_answer (Ok Yes) = verdict_answer 1 []
compared_answer (Ok (No g)) = verdict_answer 2 (g ∷ [])
compared_answer (Err r) = refused_answer r

-- "The largest relation is written, under either verdict"; 'A "no" names the lowest uncovered entry.'
pub compare_said : Graph → Graph → Said
compare_said G H =
    cond (simulates G H) (record { verdict = 1; values = []; written = relation_bytes G H }) (record { verdict = 2; values = uncovered G H ∷ []; written = relation_bytes G H })

-- the checks that come before the verdict
abbrev pub compare_first : Limits → List ℕ → List ℕ → ℕ → List Check → List Check
compare_first L f g work cs = whole_check 13 (short compare_room work) (file_checks L 1 graph f (file_checks L 2 graph g cs))

-- "comparing takes two graphs". `out` and `work` are the lengths of the buffers.
module _ (L : Limits) (first second : List ℕ) (out work : ℕ) where
  abbrev pub compare_verdict : Said
  compare_verdict = compare_said (decode_graph first) (decode_graph second)

  abbrev pub compare_checks : List Check
  compare_checks = compare_first L first second work (out_check out compare_verdict)

  abbrev pub compare_lines : Lines
  compare_lines = whole_line 13 (work < compare_room) (file_lines L 1 graph first (file_lines L 2 graph second (out_line out compare_verdict)))

  pub compared : Outcome
  compared = answered compare_checks compare_verdict

-- 'A "no" names the lowest uncovered entry': n is an entry of the first graph that no simulation gives a related entry of the second, and each entry below it is given
-- one by some simulation.
pub record Lowest (G H : Graph) (n : ℕ) : Type 1 where
  pub is_node : n < size G
  pub is_entry : T (node G n).entry
  pub uncovered_by : (R : ℕ → ℕ → Type 0) → Simulation G H R → Covered H R n → ⊥
  pub lowest : (k : ℕ) → k < n → T (node G k).entry → (R : ℕ → ℕ → Type 0) × Simulation G H R × Covered H R k

-- What a verdict of comparing says: 1 exactly where the second graph simulates the first, which is where the largest simulation covers every entry; 2 otherwise,
-- with the lowest uncovered entry; and the bytes of the largest simulation, under either verdict.
pub record Compares (G H : Graph) (s : Said) : Type 1 where
  pub first_flow : Flow G
  pub second_flow : Flow H
  pub yes_iff : (s.verdict ≡ 1) ↔ Simulates G H
  pub no_iff : (s.verdict ≡ 2) ↔ (Simulates G H → ⊥)
  pub yes_covers : (s.verdict ≡ 1) ↔ ((g : ℕ) → g < size G → T (node G g).entry → Covered H (λ g h. T (related G H g h)) g)
  pub yes_silent : s.verdict ≡ 1 → s.values ≡ []
  pub no_names : s.verdict ≡ 2 → (s.values ≡ uncovered G H ∷ []) × Lowest G H (uncovered G H)
  pub is_simulation : Simulation G H (λ g h. T (related G H g h))
  pub is_largest : (R : ℕ → ℕ → Type 0) → Simulation G H R → (g h : ℕ) → R g h → T (related G H g h)
  pub writes : s.written ≡ relation_bytes G H
  pub writes_relation : (g h : ℕ) → g < size G → h < max_nodes → bit (get_or s.written (32 * g + h / 8) 0) (h % 8) ≡ one (related G H g h)
