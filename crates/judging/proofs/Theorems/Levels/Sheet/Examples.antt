-- The theorems of specs/Levels/Sheet/Examples that rest on a definition which a must-fail edit turns: there they could not be read under the edit.
-- Examples: The sheets of P5 and P6, and some of our own, computed.
use Rattle.std.specs.Prelude.{◌≡◌, refl, true, false, [], ◌∷◌, ◌++◌, map, ℕ}
use Rattle.files.specs.Property.{never, returns, both, either, box_all}
use Rattle.files.specs.Course.{bytes, nd, ed, gr, entry_graph}
use Rattle.judging.specs.Levels.{after, next, level, holds, satisfies, rank}
use Rattle.judging.specs.Levels.Sheet.{targets, lower, ahead, foremost, box_causes, row_causes, causes, failing, pairs, fault, sheet, sheet_bytes}

-- "Or" names both, once where they are one; "and" the one of lower rank, ties to the first; a box the lowest of equal targets.
pub both_causes : sheet_bytes entry_graph (either 1 2 ∷ returns ∷ never ∷ []) ≡ bytes 0 0 0 1 0 2 ++ bytes 0 1 0 255 0 255 ++ bytes 0 2 0 255 0 255
unfolding sheet_bytes sheet fault pairs failing causes row_causes box_causes foremost ahead lower targets satisfies rank holds level next after
both_causes = refl

pub one_twice : sheet_bytes entry_graph (either 1 1 ∷ returns ∷ []) ≡ bytes 0 0 0 1 0 1 ++ bytes 0 1 0 255 0 255
unfolding sheet_bytes sheet fault pairs failing causes row_causes box_causes foremost ahead lower targets satisfies rank holds level next after
one_twice = refl

pub lower_one : sheet_bytes entry_graph (both 1 2 ∷ either 2 2 ∷ returns ∷ []) ≡ bytes 0 0 0 2 0 255 ++ bytes 0 2 0 255 0 255
unfolding sheet_bytes sheet fault pairs failing causes row_causes box_causes foremost ahead lower targets satisfies rank holds level next after
lower_one = refl

-- a queue: what row 2 names comes before what row 3 names
pub queue : map (λ (x : ℕ × ℕ). x.1) (pairs entry_graph (either 1 2 ∷ either 3 3 ∷ either 4 4 ∷ either 5 5 ∷ returns ∷ never ∷ [])) ≡ 0 ∷ 1 ∷ 2 ∷ 3 ∷ 4 ∷ 5 ∷ []
unfolding sheet_bytes sheet fault pairs failing causes row_causes box_causes foremost ahead lower targets satisfies rank holds level next after
queue = refl

-- Operator 10: the target of lowest rank over all edges, whatever their labels; ties to the lowest node, not to the lowest label; a lower rank before a lower node.
pub any_target : sheet_bytes (gr (nd false true ∷ nd true false ∷ nd false false ∷ []) (ed 0 1 1 ∷ ed 0 2 2 ∷ [])) (box_all 1 ∷ returns ∷ []) ≡ bytes 0 0 2 1 0 255 ++ bytes 2 1 0 255 0 255
unfolding sheet_bytes sheet fault pairs failing causes row_causes box_causes foremost ahead lower targets satisfies rank holds level next after
any_target = refl

pub any_rank : sheet_bytes (gr (nd true true ∷ nd true false ∷ nd false false ∷ []) (ed 0 4 1 ∷ ed 0 5 2 ∷ ed 1 0 2 ∷ [])) (box_all 1 ∷ both 2 3 ∷ box_all 3 ∷ returns ∷ [])
    ≡ bytes 0 0 2 1 0 255 ++ bytes 2 1 2 3 0 255 ++ bytes 2 3 0 255 0 255
unfolding sheet_bytes sheet fault pairs failing causes row_causes box_causes foremost ahead lower targets satisfies rank holds level next after
any_rank = refl
