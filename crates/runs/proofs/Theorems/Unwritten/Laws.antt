-- The theorems of specs/Unwritten/Laws that rest on a definition which a must-fail edit turns: there they could not be read under the edit.
-- Laws: The verdict of two unwritten sides is refused by the first line of its published order that applies; where it is not, it is that of watching the two models joined.
use Rattle.std.specs.Prelude.{◌≡◌, List, ℕ}
use Rattle.files.specs.Decode.{decode_property, decode_interface, decode_rules}
use Rattle.files.specs.Decode.Properties.{decoded_property}
use Rattle.files.specs.Decode.RuleFiles.{decoded_rules}
use Rattle.files.specs.Interface.Laws.{labelled_small}
use Rattle.files.specs.Join.Laws.{join_flow, join_labels}
use Rattle.files.specs.Outcome.{Said, says}
use Rattle.files.specs.Outcome.Laws.{verdict_is, file_accepted, whole_none}
use Rattle.files.specs.Refusal.{property, rules, interface}
use Rattle.files.specs.Rules.{watch}
use Rattle.files.specs.declared.record.Limits.{Limits}
use Rattle.maximal.specs.Model.{model}
use Rattle.maximal.proofs.Theorems.Model.Filed.{model_is_flow, model_is_of}
use Rattle.runs.specs.Unwritten.{first_side, second_side, both_graph, composed_both}
use Rattle.runs.specs.Composing.Entries.{SidesSay}
use Rattle.runs.proofs.Theorems.Composing.Entries.{sides_say}
use Rattle.runs.specs.Watching.Laws.{filed_monitor}
use Rattle.runs.proofs.Theorems.Watching.Laws.{watch_cases}
use Rattle.runs.specs.Unwritten.Laws.{both_match, said}

module _ (L : Limits) (i₁ p₁ i₂ p₂ r : List ℕ) (m out store work : ℕ) where
  -- what acceptance gives: what is said of the two sides
  pub both_says : (s : Said) → composed_both L i₁ p₁ i₂ p₂ r m out store work ≡ says s → SidesSay (first_side i₁ p₁) (second_side i₂ p₂) (watch (decode_rules r)) m s
  unfolding composed_both
  both_says s e =
      let a = verdict_is _ _ (both_match L i₁ p₁ i₂ p₂ r m out store work) (said L i₁ p₁ i₂ p₂ r m out store work) s e in
      let b1 = file_accepted L 1 interface i₁ _ (whole_none 13 _ _ a.1).1 in
      let b2 = file_accepted L 2 property p₁ _ b1.1 in
      let b3 = file_accepted L 3 interface i₂ _ b2.1 in
      let b4 = file_accepted L 4 property p₂ _ b3.1 in
      let b5 = file_accepted L 5 rules r _ b4.1 in
      let I = decode_interface i₁ in
      let J = decode_interface i₂ in
      let P = decode_property p₁ in
      let Q = decode_property p₂ in
      let wp = (decoded_property L p₁ b2.0).rows_named in
      let wq = (decoded_property L p₂ b4.0).rows_named in
      sides_say (first_side i₁ p₁) (second_side i₂ p₂) wp wq (watch (decode_rules r)) m
      (watch_cases (both_graph i₁ p₁ i₂ p₂) (watch (decode_rules r)) m (join_flow (model I P) (model J Q) (model_is_flow I P wp) (model_is_flow J Q wq))
      (join_labels (model I P) (model J Q) 9 (λ x k. labelled_small I x.label ((model_is_of I P wp).calls x k)) (λ x k. labelled_small J x.label ((model_is_of J Q wq).calls x k)))
      (filed_monitor (decode_rules r) (decoded_rules L r b5.0))) s a.0
