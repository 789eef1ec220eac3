-- The theorems of specs/Levels/Nine/Examples that rest on a definition which a must-fail edit turns: there they could not be read under the edit.
-- Examples: One operator 10 against nine boxes, computed; and why the labels must be 0 to 8.
use Rattle.std.specs.Prelude.{◌≡◌, refl, List, ◌≤◌, length}
use Rattle.std.proofs.Common.{sym, subst, arith}
use Rattle.std.proofs.Math.Option.{none}
use Rattle.files.specs.Decode.{decode_property, property_bytes}
use Rattle.files.specs.Decode.Values.{decode_property_bytes, accepted_property_bytes}
use Rattle.files.specs.Limits.{desk}
use Rattle.files.specs.Property.{Row}
use Rattle.files.specs.Refusal.{property, refusal}
use Rattle.judging.specs.Levels.Nine.{nine_below, all_nine}
use Rattle.judging.proofs.Theorems.Levels.Nine.Filed.{all_nine_accepted}
use Rattle.judging.specs.Levels.Nine.Examples.{still_filed, still_rows}

-- both are accepted under the desk's limits, the second with eighteen rows
pub both_accepted : (length (all_nine still_rows) ≡ 18) × (refusal desk property (property_bytes still_rows) ≡ none) × (refusal desk property (property_bytes (all_nine still_rows)) ≡ none)
unfolding all_nine nine_below
both_accepted = (refl, accepted, subst (λ (P : List Row). refusal desk property (property_bytes (all_nine P)) ≡ none) same (all_nine_accepted desk (property_bytes still_rows) accepted fits).0)
  where
    accepted : refusal desk property (property_bytes still_rows) ≡ none
    accepted = accepted_property_bytes desk still_rows still_filed

    same : decode_property (property_bytes still_rows) ≡ still_rows
    same = decode_property_bytes still_rows

    fits : length (all_nine (decode_property (property_bytes still_rows))) ≤ 32
    fits = subst (λ (P : List Row). length (all_nine P) ≤ 32) (sym same) (omega arith)
