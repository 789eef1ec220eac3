-- The theorems of specs/Unwritten/Work that rest on a definition which a must-fail edit turns: there they could not be read under the edit.
-- Work: The verdict of two unwritten sides as the code comes to it: what is known where its checks passed; and that, once the first model stands, what is left is the composed verdict
-- with that model as the known graph.
use Rattle.std.specs.Prelude.{◌≡◌, Bool, false, ◌||◌, List, ℕ, length}
use Rattle.std.proofs.Common.{sym, ap, ◌∙◌}
use Rattle.files.specs.Decode.{decode_graph, decode_interface}
use Rattle.files.specs.Graph.{Graph}
use Rattle.files.specs.Outcome.{Answer, Answers, whole_check, out_check, answered, too_large}
use Rattle.files.specs.Outcome.Ends.{answers_same}
use Rattle.files.specs.Sides.{lacks_entry}
use Rattle.files.specs.declared.record.Limits.{Limits}
use Rattle.runs.specs.Composing.{compose_said, compose_last}
use Rattle.runs.specs.Unwritten.{both_graph}
use Rattle.runs.specs.Unwritten.Work.{M, N, on_first, on_size, said}

module _ (L : Limits) (i₁ p₁ i₂ p₂ r : List ℕ) (m : ℕ) (out : List ℕ) where
  -- a first model within the limits is the known graph of what is left, by whatever bytes it is given, barred where it lacks an entry
  pub first_small : too_large L (M L i₁ p₁ i₂ p₂ r m out) ≡ false → (kg : List ℕ) → decode_graph kg ≡ (M L i₁ p₁ i₂ p₂ r m out) → (t : Bool) → t ≡ lacks_entry (decode_interface i₁) (decode_graph kg) → (out' : List ℕ) (a : Answer)
      → Answers (answered (compose_last L t kg i₂ p₂ r m (length out)) (compose_said t kg i₂ p₂ r m)) out out' a → Answers (answered (on_size L i₁ p₁ i₂ p₂ r m out) (said L i₁ p₁ i₂ p₂ r m out)) out out' a
  first_small b kg e t d out' a =
      answers_same (answered (compose_last L t kg i₂ p₂ r m (length out)) (compose_said t kg i₂ p₂ r m)) (answered (on_size L i₁ p₁ i₂ p₂ r m out) (said L i₁ p₁ i₂ p₂ r m out)) out out' a
      (ap (λ (c : Bool). answered (whole_check 11 (c || (too_large L (N L i₁ p₁ i₂ p₂ r m out) || too_large L (both_graph i₁ p₁ i₂ p₂))) (out_check (length out) (said L i₁ p₁ i₂ p₂ r m out))) (said L i₁ p₁ i₂ p₂ r m out)) b
      ∙ ap (λ (X : Graph). (on_first L i₁ p₁ i₂ p₂ r m out) (lacks_entry (decode_interface i₁) X) X) (sym e)
      ∙ ap (λ (c : Bool). (on_first L i₁ p₁ i₂ p₂ r m out) c (decode_graph kg)) (sym d))
