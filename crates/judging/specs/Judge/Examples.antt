-- P4 to P7 on bytes, and one example for each operator.
use Rattle.std.specs.Prelude.{◌≡◌, ℕ, length}
use Rattle.std.proofs.Common.{ap, ap₂, ◌∙◌, arith}
use mathlib.Core.List.{List, [], ◌∷◌, ◌++◌, map, head-eq_of_cons-eq, tail-eq_of_cons-eq}
use Rattle.files.specs.Course.{bytes, gr, entry_file, entry_graph, call_file, call_graph, false_file, false_rows, return_file, return_rows, box_file, box_rows, operator_files, operator_values}
use Rattle.files.specs.Decode.{decode_property}
use Rattle.files.specs.Decode.Examples.{empty_is, entry_is, call_is, false_is, return_is, box_is, operators_are}
use Rattle.files.specs.Graph.{Graph}
use Rattle.files.specs.Limits.{desk}
use Rattle.files.specs.Outcome.{Said, says}
use Rattle.files.specs.Property.{Row}
use Rattle.files.specs.Refusal.Examples.{empty_accepted, entry_accepted, call_accepted, false_accepted, return_accepted, box_zero_accepted, box_one_accepted}
use Rattle.judging.specs.Judge.{judge_said, judged}
use Rattle.judging.specs.Judge.Laws.{judge_on, holds_said, fails_said}
use Rattle.judging.specs.Levels.Examples.{at_three, operators, p4_holds, p5_fails, p6_fails, p7_holds}
use Rattle.judging.specs.Levels.Sheet.{sheet, sheet_bytes}
use Rattle.judging.specs.Levels.Sheet.Examples.{p5_sheet, p6_sheet, sheet_sizes}
use Rattle.judging.specs.Places.{judge_room}

abbrev said : ℕ → List ℕ → List ℕ → Said
said v xs ws = record { verdict = v; values = xs; written = ws }

fails : (G : Graph) (P : List Row) (n : ℕ) (ws : List ℕ) → judge_said G P ≡ said 2 (length (sheet G P) ∷ []) (sheet_bytes G P) → length (sheet G P) ≡ n → sheet_bytes G P ≡ ws
    → judge_said G P ≡ said 2 (n ∷ []) ws
fails G P n ws e p q = e ∙ ap₂ (λ (k : ℕ) (l : List ℕ). said 2 (k ∷ []) l) p q

pub p4 : judged desk [] false_file 0 judge_room ≡ says (said 1 [] [])
p4 = judge_on desk [] false_file 0 judge_room (gr [] []) false_rows (said 1 [] []) empty_accepted false_accepted empty_is false_is (holds_said (gr [] []) false_rows p4_holds) (omega arith) (omega arith)

pub p5 : judged desk entry_file return_file 6 judge_room ≡ says (said 2 (1 ∷ []) (bytes 0 0 0 255 0 255))
p5 =
    judge_on desk entry_file return_file 6 judge_room entry_graph return_rows _ entry_accepted return_accepted entry_is return_is
    (fails entry_graph return_rows 1 (bytes 0 0 0 255 0 255) (fails_said entry_graph return_rows p5_fails) (head-eq_of_cons-eq sheet_sizes) p5_sheet) (omega arith) (omega arith)

pub p6 : judged desk call_file (box_file 1) 12 judge_room ≡ says (said 2 (2 ∷ []) (bytes 0 0 1 1 0 255 ++ bytes 1 1 0 255 0 255))
p6 =
    judge_on desk call_file (box_file 1) 12 judge_room call_graph (box_rows 1) _ call_accepted box_one_accepted call_is (box_is 1)
    (fails call_graph (box_rows 1) 2 (bytes 0 0 1 1 0 255 ++ bytes 1 1 0 255 0 255) (fails_said call_graph (box_rows 1) p6_fails) (head-eq_of_cons-eq (tail-eq_of_cons-eq sheet_sizes)) p6_sheet)
    (omega arith) (omega arith)

pub p7 : judged desk call_file (box_file 0) 0 judge_room ≡ says (said 1 [] [])
p7 =
    judge_on desk call_file (box_file 0) 0 judge_room call_graph (box_rows 0) (said 1 [] []) call_accepted box_zero_accepted call_is (box_is 0)
    (holds_said call_graph (box_rows 0) p7_holds) (omega arith) (omega arith)

-- every operator, from the paper's bytes
pub operators_hold : map at_three (map decode_property operator_files) ≡ operator_values
operators_hold = ap (map at_three) operators_are ∙ operators
