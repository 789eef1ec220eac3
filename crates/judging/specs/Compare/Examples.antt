-- P8 and P9 on bytes.
use Rattle.std.specs.Prelude.{◌≡◌, List, [], ◌∷◌, ◌++◌, ℕ, replicate}
use Rattle.std.proofs.Common.{ap, ap₂, ◌∙◌, arith}
use Rattle.files.specs.Course.{entry_file, entry_graph, cycle_file, cycle_graph, loop_file, loop_graph}
use Rattle.files.specs.Decode.Examples.{entry_is, cycle_is, loop_is}
use Rattle.files.specs.Limits.{desk}
use Rattle.files.specs.Outcome.{Said, says}
use Rattle.files.specs.Refusal.Examples.{entry_accepted, cycle_accepted, loop_accepted}
use Rattle.judging.specs.Compare.{compared}
use Rattle.judging.specs.Compare.Laws.{compare_on, yes_said, no_said}
use Rattle.judging.specs.Places.{compare_room}
use Rattle.judging.specs.Simulation.Examples.{p8_yes, p8_back, p9_no, p9_entry, p8_bytes, p8_back_bytes, p9_bytes}

abbrev said : ℕ → List ℕ → List ℕ → Said
said v xs ws = record { verdict = v; values = xs; written = ws }

pub p8 : compared desk cycle_file loop_file 64 compare_room ≡ says (said 1 [] ((1 ∷ replicate 31 0) ++ (1 ∷ replicate 31 0)))
p8 =
    compare_on desk cycle_file loop_file 64 compare_room cycle_graph loop_graph _ cycle_accepted loop_accepted cycle_is loop_is
    (yes_said cycle_graph loop_graph p8_yes ∙ ap (said 1 []) p8_bytes) (omega arith) (omega arith)

pub p8_other : compared desk loop_file cycle_file 32 compare_room ≡ says (said 1 [] (3 ∷ replicate 31 0))
p8_other =
    compare_on desk loop_file cycle_file 32 compare_room loop_graph cycle_graph _ loop_accepted cycle_accepted loop_is cycle_is
    (yes_said loop_graph cycle_graph p8_back ∙ ap (said 1 []) p8_back_bytes) (omega arith) (omega arith)

pub p9 : compared desk loop_file entry_file 32 compare_room ≡ says (said 2 (0 ∷ []) (replicate 32 0))
p9 =
    compare_on desk loop_file entry_file 32 compare_room loop_graph entry_graph _ loop_accepted entry_accepted loop_is entry_is
    (no_said loop_graph entry_graph p9_no ∙ ap₂ (λ (g : ℕ) (l : List ℕ). said 2 (g ∷ []) l) p9_entry p9_bytes) (omega arith) (omega arith)
