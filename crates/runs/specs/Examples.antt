-- The course examples marked P, of the definitions, on the paper's bytes: one table and one theorem. Each layer's Examples give the equations.
use Rattle.std.specs.Prelude.{◌≡◌, List, [], ◌∷◌, ◌++◌, map, ℕ, replicate}
use Rattle.std.proofs.Common.{ap, ap₂, ◌∙◌, arith}
use Rattle.files.specs.Course.{bytes, one_one_file, one_one, one_none_file, p1_file, or_file, false_file, return_file, box_file, entry_file, call_file, call_graph, returning_file, returning_graph, cycle_file, loop_file, return_rule_file, return_monitor, p1_bytes, p2_bytes, operator_files, operator_values}
use Rattle.files.specs.Decode.{decode_property}
use Rattle.files.specs.Decode.Examples.{one_one_is, call_is, returning_is, rules_is}
use Rattle.files.specs.Limits.{desk}
use Rattle.files.specs.Outcome.{Said, says}
use Rattle.files.specs.Refusal.Examples.{one_one_accepted, call_accepted, returning_accepted, rules_accepted}
use Rattle.files.specs.Rules.{watch}
use Rattle.files.specs.Rules.Examples.{return_watch}
use Rattle.files.specs.Sides.Examples.{call_of, returning_of, one_one_provided}
use Rattle.judging.specs.Compare.{compared}
use Rattle.judging.specs.Judge.{judged}
use Rattle.judging.specs.Judge.Examples.{operators_hold, p4, p5, p6, p7}
use Rattle.judging.specs.Levels.Examples.{at_three}
use Rattle.judging.specs.Places.{judge_room, compare_room}
use Rattle.maximal.specs.Modelling.{modelled}
use Rattle.maximal.specs.Places.{model_room}
use Rattle.runs.specs.Regions.{watch_room}
use Rattle.runs.specs.Summary.Trails.Examples.{p10_clean, p11_bad, p11_trail, p11_length}
use Rattle.runs.specs.Watching.{watched}
use Rattle.runs.specs.Watching.Laws.{watch_on, clean_said, bad_said}
use Rattle.judging.specs.Compare.Examples.{p8, p8_other, p9}
use Rattle.maximal.specs.Modelling.Examples.{p1, p2, p3}

-- a call with its files, its start method and the length of its output; what it says, and the bytes that it writes
pub data Example : Type 0 where
  judging comparing modelling : List ℕ → List ℕ → ℕ → Said → Example
  watching : List ℕ → List ℕ → List ℕ → ℕ → ℕ → Said → Example

-- on the desk's limits and with the published work buffers the call says so
abbrev pub Right : Example → Type 0
Right (judging g p out s) = judged desk g p out judge_room ≡ says s
Right (comparing g h out s) = compared desk g h out compare_room ≡ says s
Right (modelling i p out s) = modelled desk i p out model_room ≡ says s
Right (watching i g r m out s) = watched desk i g r m out watch_room ≡ says s

abbrev pub Every : List Example → Type 0
Every [] = Unit {0}
Every (x ∷ xs) = Right x × Every xs

abbrev said : ℕ → List ℕ → List ℕ → Said
said v xs ws = record { verdict = v; values = xs; written = ws }

abbrev pub table : List Example
table =
    modelling one_one_file p1_file 78 (said 1 (3 ∷ 10 ∷ []) p1_bytes)
    ∷ modelling one_none_file or_file 72 (said 1 (4 ∷ 8 ∷ []) p2_bytes)
    ∷ modelling one_none_file false_file 0 (said 1 (0 ∷ 0 ∷ []) [])
    ∷ judging [] false_file 0 (said 1 [] [])
    ∷ judging entry_file return_file 6 (said 2 (1 ∷ []) (bytes 0 0 0 255 0 255))
    ∷ judging call_file (box_file 1) 12 (said 2 (2 ∷ []) (bytes 0 0 1 1 0 255 ++ bytes 1 1 0 255 0 255))
    ∷ judging call_file (box_file 0) 0 (said 1 [] [])
    ∷ comparing cycle_file loop_file 64 (said 1 [] ((1 ∷ replicate 31 0) ++ (1 ∷ replicate 31 0)))
    ∷ comparing loop_file cycle_file 32 (said 1 [] (3 ∷ replicate 31 0))
    ∷ comparing loop_file entry_file 32 (said 2 (0 ∷ []) (replicate 32 0))
    ∷ watching one_one_file call_file return_rule_file 1 0 (said 1 [] [])
    ∷ watching one_one_file returning_file return_rule_file 1 12 (said 2 (2 ∷ []) (bytes 0 0 0 0 0 0 ++ bytes 0 0 3 1 1 7))
    ∷ []

p10 : watched desk one_one_file call_file return_rule_file 1 0 watch_room ≡ says (said 1 [] [])
p10 =
    watch_on desk one_one_file call_file return_rule_file 1 0 watch_room one_one call_graph return_monitor (said 1 [] []) one_one_accepted call_accepted rules_accepted
    (λ f. f (omega arith, omega arith)) one_one_is call_is (ap watch rules_is ∙ return_watch) call_of one_one_provided (clean_said call_graph return_monitor 1 p10_clean)
    (omega arith) (omega arith)

p11 : watched desk one_one_file returning_file return_rule_file 1 12 watch_room ≡ says (said 2 (2 ∷ []) (bytes 0 0 0 0 0 0 ++ bytes 0 0 3 1 1 7))
p11 =
    watch_on desk one_one_file returning_file return_rule_file 1 12 watch_room one_one returning_graph return_monitor (said 2 (2 ∷ []) (bytes 0 0 0 0 0 0 ++ bytes 0 0 3 1 1 7))
    one_one_accepted returning_accepted rules_accepted (λ f. f (omega arith, omega arith)) one_one_is returning_is (ap watch rules_is ∙ return_watch) returning_of one_one_provided
    (bad_said returning_graph return_monitor 1 p11_bad ∙ ap₂ (λ (n : ℕ) (l : List ℕ). said 2 (n ∷ []) l) p11_length p11_trail) (omega arith) (omega arith)

-- P1 to P11
pub examples_hold : Every table
examples_hold = (p1, (p2, (p3, (p4, (p5, (p6, (p7, (p8, (p8_other, (p9, (p10, (p11, tt))))))))))))

-- the second table: a property for each operator 1 to 9, and whether its row 0 holds at each of three nodes
pub operators_right : map at_three (map decode_property operator_files) ≡ operator_values
operators_right = operators_hold
