-- The composed verdict of two sides that are both not written yet: what the call answers and writes, from the bytes of its files, the start method and the lengths of its buffers.
use Rattle.std.specs.Prelude.{◌⊎◌, ◌||◌, List, ℕ, ◌*◌, ◌<◌}
use Rattle.files.specs.Decode.{decode_property, decode_interface, decode_rules}
use Rattle.files.specs.Graph.{Graph}
use Rattle.files.specs.Interface.{Interface, united}
use Rattle.files.specs.Join.{join}
use Rattle.files.specs.Outcome.{Said, Outcome, Check, whole_check, file_checks, out_check, answered, Lines, whole_line, file_lines, out_line, short, no_start}
use Rattle.files.specs.Outcome.{NoStart, too_large, TooLarge}
use Rattle.files.specs.Places.{graph_room}
use Rattle.files.specs.Refusal.{property, rules, interface}
use Rattle.files.specs.Rules.{watch}
use Rattle.files.specs.Sides.{shares, Shares, unprovided, Unprovided}
use Rattle.files.specs.declared.record.Limits.{Limits}
use Rattle.maximal.specs.Places.{model_room}
use Rattle.runs.specs.Composing.{Side, unwritten, gives, sides_said}
pub mod Laws
pub mod Work
pub mod Meaning

-- the published lengths of the two work buffers: `store` holds two models, one behind the other, and is then watching's buffer; `work` is modelling's and then holds the
-- joined graph
abbrev pub both_store : ℕ
both_store = 2 * graph_room

abbrev pub both_work : ℕ
both_work = model_room

-- "Take each side's interface and property in turn"
abbrev pub first_side : List ℕ → List ℕ → Side
first_side i p = unwritten (decode_interface i) (decode_property p)

abbrev pub second_side : List ℕ → List ℕ → Side
second_side i p = unwritten (decode_interface i) (decode_property p)

-- "build a model of each, join them, first side first"
abbrev pub both_graph : List ℕ → List ℕ → List ℕ → List ℕ → Graph
both_graph i₁ p₁ i₂ p₂ = join (gives (first_side i₁ p₁)) (gives (second_side i₂ p₂))

abbrev pub both_sides : List ℕ → List ℕ → Interface
both_sides i₁ i₂ = united (decode_interface i₁) (decode_interface i₂)

-- "and watch": trails use the joined numbers
abbrev pub both_said : List ℕ → List ℕ → List ℕ → List ℕ → List ℕ → ℕ → Said
both_said i₁ p₁ i₂ p₂ r m = sides_said (first_side i₁ p₁) (second_side i₂ p₂) (watch (decode_rules r)) m

-- the checks that come before the models: 9 has no graph file here
abbrev pub both_first : Limits → List ℕ → List ℕ → List ℕ → List ℕ → List ℕ → ℕ → ℕ → ℕ → List Check → List Check
both_first L i₁ p₁ i₂ p₂ r m store work cs =
    whole_check 13 (short both_store store || short both_work work)
    (file_checks L 1 interface i₁ (file_checks L 2 property p₁ (file_checks L 3 interface i₂ (file_checks L 4 property p₂ (file_checks L 5 rules r
    (whole_check 3 (no_start m) (whole_check 9 (shares (decode_interface i₁) (decode_interface i₂)) (whole_check 10 (unprovided (both_sides i₁ i₂) m) cs))))))))

-- those that are left to the models and the joined graph: 11 and 12
abbrev pub both_last : Limits → List ℕ → List ℕ → List ℕ → List ℕ → List ℕ → ℕ → ℕ → List Check
both_last L i₁ p₁ i₂ p₂ r m out =
    whole_check 11 (too_large L (gives (first_side i₁ p₁)) || (too_large L (gives (second_side i₂ p₂)) || too_large L (both_graph i₁ p₁ i₂ p₂)))
    (out_check out (both_said i₁ p₁ i₂ p₂ r m))

-- `out`, `store` and `work` are the lengths of the buffers
module _ (L : Limits) (i₁ p₁ i₂ p₂ r : List ℕ) (m out store work : ℕ) where
  abbrev pub both_checks : List Check
  both_checks = both_first L i₁ p₁ i₂ p₂ r m store work (both_last L i₁ p₁ i₂ p₂ r m out)

  abbrev pub both_lines : Lines
  both_lines =
      whole_line 13 ((store < both_store) ⊎ (work < both_work))
      (file_lines L 1 interface i₁ (file_lines L 2 property p₁ (file_lines L 3 interface i₂ (file_lines L 4 property p₂ (file_lines L 5 rules r
      (whole_line 3 (NoStart m)
      (whole_line 9 (Shares (decode_interface i₁) (decode_interface i₂))
      (whole_line 10 (Unprovided (both_sides i₁ i₂) m)
      (whole_line 11 (TooLarge L (gives (first_side i₁ p₁)) ⊎ (TooLarge L (gives (second_side i₂ p₂)) ⊎ TooLarge L (both_graph i₁ p₁ i₂ p₂)))
      (out_line out (both_said i₁ p₁ i₂ p₂ r m)))))))))))

  unfoldable pub composed_both : Outcome
  composed_both = answered both_checks (both_said i₁ p₁ i₂ p₂ r m)
