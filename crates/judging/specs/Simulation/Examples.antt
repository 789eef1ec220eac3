-- P8 and P9, computed: verdicts, the relation's bytes, and the entry that is not covered.
use Rattle.std.specs.Prelude.{◌≡◌, refl, true, false, ◌∷◌, ◌++◌, replicate}
use Rattle.files.specs.Course.{entry_graph, cycle_graph, loop_graph}
use Rattle.judging.specs.Simulation.{alike, matching, keeps, refined, related, covered, simulates, uncovered, relation_bytes}

pub p8_yes : simulates cycle_graph loop_graph ≡ true
unfolding simulates covered related refined keeps alike matching
p8_yes = refl

pub p8_back : simulates loop_graph cycle_graph ≡ true
unfolding simulates covered related refined keeps alike matching
p8_back = refl

pub p9_no : simulates loop_graph entry_graph ≡ false
unfolding simulates covered related refined keeps alike matching
p9_no = refl

pub p9_entry : uncovered loop_graph entry_graph ≡ 0
unfolding uncovered covered related refined keeps alike matching
p9_entry = refl

-- both nodes of the cycle with the loop's node; the loop's node with both; nothing
pub p8_bytes : relation_bytes cycle_graph loop_graph ≡ (1 ∷ replicate 31 0) ++ (1 ∷ replicate 31 0)
unfolding relation_bytes related refined keeps alike matching
p8_bytes = refl

pub p8_back_bytes : relation_bytes loop_graph cycle_graph ≡ 3 ∷ replicate 31 0
unfolding relation_bytes related refined keeps alike matching
p8_back_bytes = refl

pub p9_bytes : relation_bytes loop_graph entry_graph ≡ replicate 32 0
unfolding relation_bytes related refined keeps alike matching
p9_bytes = refl
