-- The theorems of specs/Levels/Examples that rest on a definition which a must-fail edit turns: there they could not be read under the edit.
-- Examples: One example for each operator, and the verdicts of P4 to P7, computed.
use Rattle.std.specs.Prelude.{◌≡◌, refl, true, false, [], ◌∷◌}
use Rattle.files.specs.Property.{never, box_all}
use Rattle.files.specs.Course.{nd, ed, gr, entry_graph, loop_graph, call_graph, or_rows, box_rows}
use Rattle.judging.specs.Levels.{after, next, level, holds, satisfies, rank}

-- "Least solution for greatest: row 0 = '0 or 0' is true everywhere."
pub or_holds : satisfies entry_graph or_rows ≡ true
unfolding satisfies holds level next after
or_holds = refl

pub p6_ranks : rank call_graph (box_rows 1) 0 0 ∷ rank call_graph (box_rows 1) 1 1 ∷ [] ≡ 2 ∷ 1 ∷ []
unfolding rank level next after
p6_ranks = refl

-- operator 10 of a node without edges, of itself, and along a call that no interface is asked about
pub any_holds : satisfies entry_graph (box_all 1 ∷ never ∷ []) ∷ satisfies loop_graph (box_all 0 ∷ []) ∷ satisfies (gr (nd false true ∷ []) (ed 0 8 0 ∷ [])) (box_all 1 ∷ never ∷ []) ∷ []
    ≡ true ∷ true ∷ false ∷ []
unfolding satisfies holds level next after
any_holds = refl
