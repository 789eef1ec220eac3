-- The theorems of specs/Composing/Laws that rest on a definition which a must-fail edit turns: there they could not be read under the edit.
-- Laws: The composed verdict is refused by the first line of its published order that applies; where it is not, the known graph has its entries, and the verdict is that on the known
-- graph and the unwritten side.
use Rattle.std.specs.Prelude.{◌≡◌, List, ℕ}
use Rattle.std.proofs.Math.Dec.{not_T}
use Rattle.files.specs.Decode.{decode_graph, decode_property, decode_interface, decode_rules}
use Rattle.files.specs.Decode.Graphs.{decoded_filed}
use Rattle.files.specs.Decode.Properties.{decoded_property}
use Rattle.files.specs.Decode.RuleFiles.{decoded_rules}
use Rattle.files.specs.Interface.Laws.{labelled_small}
use Rattle.files.specs.Outcome.{Said, says}
use Rattle.files.specs.Outcome.Laws.{verdict_is, file_accepted, whole_none, none_e}
use Rattle.files.specs.Refusal.{graph, property, rules, interface}
use Rattle.files.specs.Rules.{watch}
use Rattle.files.specs.Sides.{lacks_entry}
use Rattle.files.specs.Sides.Entries.{says_lacks_entry, entered_i}
use Rattle.files.specs.declared.record.Limits.{Limits}
use Rattle.maximal.specs.Model.{model}
use Rattle.maximal.proofs.Theorems.Model.Filed.{model_is_flow, model_is_of}
use Rattle.runs.specs.Composing.{known_side, other_side, composed}
use Rattle.files.specs.Join.{join}
use Rattle.files.specs.Join.Laws.{join_flow, join_labels}
use Rattle.runs.proofs.Theorems.Composing.Entries.{sides_say}
use Rattle.runs.specs.Watching.Laws.{filed_labels, filed_monitor}
use Rattle.runs.proofs.Theorems.Watching.Laws.{watch_cases}
use Rattle.runs.specs.Composing.Laws.{ComposeSays, compose_match, said}

module _ (L : Limits) (ki kg oi p r : List ℕ) (m out store work : ℕ) where
  -- what acceptance gives: a known graph that has its entries, a property, and what is said of the known graph and the unwritten side
  pub compose_says : (s : Said) → composed L ki kg oi p r m out store work ≡ says s → ComposeSays ki kg oi p r m s
  unfolding composed
  compose_says s e =
      let a = verdict_is _ _ (compose_match L ki kg oi p r m out store work) (said L ki kg oi p r m out store work) s e in
      let b1 = file_accepted L 1 interface ki _ (whole_none 13 _ _ a.1).1 in
      let b2 = file_accepted L 2 graph kg _ b1.1 in
      let b3 = file_accepted L 3 interface oi _ b2.1 in
      let b4 = file_accepted L 4 property p _ b3.1 in
      let b5 = file_accepted L 5 rules r _ b4.1 in
      let K = decode_graph kg in
      let I = decode_interface oi in
      let P = decode_property p in
      let f = decoded_filed L kg b2.0 in
      let wf = (decoded_property L p b4.0).rows_named in
      let started = (whole_none 3 _ _ b5.1).1 in
      let apart = (whole_none 9 _ _ (none_e 9 2 _ _ started).1).1 in
      record {
        is_property = wf;
        known_entered = entered_i (decode_interface ki) K (not_T (lacks_entry (decode_interface ki) K) (λ t. (whole_none 16 _ _ apart).0 ((says_lacks_entry (decode_interface ki) K).say t)));
        on_sides = sides_say (known_side L ki kg oi p r m out) (other_side L ki kg oi p r m out) f.flow wf (watch (decode_rules r)) m
            (watch_cases (join K (model I P)) (watch (decode_rules r)) m (join_flow K (model I P) f.flow (model_is_flow I P wf))
            (join_labels K (model I P) 9 (filed_labels L K f) (λ x k. labelled_small I x.label ((model_is_of I P wf).calls x k)))
            (filed_monitor (decode_rules r) (decoded_rules L r b5.0))) s a.0;
      }
