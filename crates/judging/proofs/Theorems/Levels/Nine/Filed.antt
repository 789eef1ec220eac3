-- The theorems of specs/Levels/Nine/Filed that rest on a definition which a must-fail edit turns: there they could not be read under the edit.
-- Filed: The nine boxes of an accepted property are an accepted file again where their rows fit: so what is said of two files, one with operator 10 and one with nine boxes, is said of something.
use Rattle.std.specs.Prelude.{◌≡◌, List, ℕ, ◌≤◌, length}
use Rattle.std.proofs.Common.{sym, subst}
use Rattle.std.proofs.Math.Option.{none}
use Rattle.files.specs.Decode.{decode_property, property_bytes, FiledRows}
use Rattle.files.specs.Decode.Properties.{decoded_property}
use Rattle.files.specs.Decode.Values.{decode_property_bytes, accepted_property_bytes}
use Rattle.files.specs.Property.{Row}
use Rattle.files.specs.Refusal.{property, refusal}
use Rattle.files.specs.declared.record.Limits.{Limits}
use Rattle.judging.specs.Levels.Nine.{all_nine}
use Rattle.judging.specs.Levels.Nine.Laws.{all_nine_spells}
use Rattle.judging.proofs.Theorems.Levels.Nine.Laws.{all_nine_property}
use Rattle.judging.specs.Levels.Nine.Filed.{all_in, all_nine_in, row_in, spelled_ors}

-- ---- the file

-- sixteen rows more for each operator 10 (Laws, `all_nine_length`), and those alone must fit: no "or" comes
pub all_nine_filed : (L : Limits) (P : List Row) → FiledRows L P → length (all_nine P) ≤ L.rows → FiledRows L (all_nine P)
all_nine_filed L P f fits = record {
  rows_named = all_nine_property P f.rows_named;
  rows_in = λ r h. row_in (all_nine P) (all_nine_in P (all_in P f.rows_in)) r;
  few_rows = fits;
  few_ors = subst (λ (n : ℕ). n ≤ L.ors) (sym (spelled_ors P (all_nine P) (all_nine_spells P))) f.few_ors;
}

-- the same on bytes: where they fit, there is a file of the nine boxes
pub all_nine_accepted : (L : Limits) (p : List ℕ) → refusal L property p ≡ none → length (all_nine (decode_property p)) ≤ L.rows
    → let q = property_bytes (all_nine (decode_property p)) in (refusal L property q ≡ none) × (decode_property q ≡ all_nine (decode_property p))
all_nine_accepted L p a fits =
    let P = decode_property p in
    (accepted_property_bytes L (all_nine P) (all_nine_filed L P (decoded_property L p a) fits), decode_property_bytes (all_nine P))
