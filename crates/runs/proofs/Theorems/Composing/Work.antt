-- The theorems of specs/Composing/Work that rest on a definition which a must-fail edit turns: there they could not be read under the edit.
-- Work: The composed verdict as the code comes to it: what is known where its checks passed; then what modelling answers, for any side that is not written yet, and the verdict on
-- the known graph joined with the model.
use Rattle.std.specs.Prelude.{◌≡◌, Bool, false, ◌||◌, List, ℕ, length}
use Rattle.std.proofs.Common.{sym, ap, ◌∙◌}
use Rattle.files.specs.Decode.{decode_interface}
use Rattle.files.specs.Graph.{Graph}
use Rattle.files.specs.Outcome.{Answer, Answers, whole_check, answered}
use Rattle.files.specs.Outcome.{too_large, out_check}
use Rattle.files.specs.Outcome.Ends.{answers_same}
use Rattle.files.specs.Sides.{lacks_entry}
use Rattle.files.specs.declared.record.Limits.{Limits}
use Rattle.runs.specs.Composing.Work.{M, W, on_joined, on_size, said}

module _ (L : Limits) (barred : Bool) (kg oi p r : List ℕ) (m : ℕ) (out : List ℕ) where
  -- a model within the limits leaves the rest to the joined graph, by whatever bytes the model is given: it bars the join where it lacks an entry
  pub model_small : too_large L (M L barred kg oi p r m out) ≡ false → (G : Graph) → G ≡ (M L barred kg oi p r m out) → (t : Bool) → t ≡ (barred || lacks_entry (decode_interface oi) G) → (out' : List ℕ) (a : Answer)
      → Answers ((on_joined L barred kg oi p r m out) t G) out out' a → Answers (answered (on_size L barred kg oi p r m out) (said L barred kg oi p r m out)) out out' a
  model_small b G e t d out' a =
      answers_same ((on_joined L barred kg oi p r m out) t G) (answered (on_size L barred kg oi p r m out) (said L barred kg oi p r m out)) out out' a
      (ap (λ (c : Bool). answered (whole_check 11 (c || too_large L (W L barred kg oi p r m out)) (out_check (length out) (said L barred kg oi p r m out))) (said L barred kg oi p r m out)) b
      ∙ ap (λ (X : Graph). (on_joined L barred kg oi p r m out) (barred || lacks_entry (decode_interface oi) X) X) (sym e)
      ∙ ap (λ (c : Bool). (on_joined L barred kg oi p r m out) c G) (sym d))
