-- P1 to P3 on bytes.
use Rattle.std.specs.Prelude.{◌≡◌, List, [], ◌∷◌, ℕ, ◌≤◌, length}
use Rattle.std.proofs.Common.{sym, ap, subst, ◌∙◌, inl, inr, arith}
use Rattle.files.specs.Course.{gr, one_one_file, one_one, one_none_file, one_none, p1_file, p1_rows, or_file, or_rows, false_file, false_rows, p1_bytes, p2_bytes, p1_graph, p2_graph}
use Rattle.files.specs.Decode.Examples.{one_one_is, one_none_is, p1_is, or_is, false_is, p1_bytes_are, p2_bytes_are, p3_bytes_are}
use Rattle.files.specs.Limits.{desk}
use Rattle.files.specs.Outcome.{TooLarge, says}
use Rattle.files.specs.Refusal.Examples.{one_one_accepted, one_none_accepted, p1_accepted, or_accepted, false_accepted}
use Rattle.maximal.specs.Model.Examples.{p1_model, p2_model, p3_model}
use Rattle.maximal.specs.Modelling.{modelled}
use Rattle.maximal.specs.Modelling.Laws.{model_on}
use Rattle.maximal.specs.Places.{model_room}

small_p1 : TooLarge desk p1_graph → ⊥
small_p1 (inl h) = omega arith
small_p1 (inr h) = omega arith

pub p1 : modelled desk one_one_file p1_file 78 model_room ≡ says (record { verdict = 1; values = 3 ∷ 10 ∷ []; written = p1_bytes })
p1 =
    model_on desk one_one_file p1_file 78 model_room one_one p1_rows p1_graph one_one_accepted p1_accepted one_one_is p1_is p1_model small_p1
    (subst (λ (l : List ℕ). length l ≤ 78) (sym p1_bytes_are) (omega arith)) (omega arith)
    ∙ ap (λ (l : List ℕ). says (record { verdict = 1; values = 3 ∷ 10 ∷ []; written = l })) p1_bytes_are

small_p2 : TooLarge desk p2_graph → ⊥
small_p2 (inl h) = omega arith
small_p2 (inr h) = omega arith

pub p2 : modelled desk one_none_file or_file 72 model_room ≡ says (record { verdict = 1; values = 4 ∷ 8 ∷ []; written = p2_bytes })
p2 =
    model_on desk one_none_file or_file 72 model_room one_none or_rows p2_graph one_none_accepted or_accepted one_none_is or_is p2_model small_p2
    (subst (λ (l : List ℕ). length l ≤ 72) (sym p2_bytes_are) (omega arith)) (omega arith)
    ∙ ap (λ (l : List ℕ). says (record { verdict = 1; values = 4 ∷ 8 ∷ []; written = l })) p2_bytes_are

small_p3 : TooLarge desk (gr [] []) → ⊥
small_p3 (inl h) = omega arith
small_p3 (inr h) = omega arith

pub p3 : modelled desk one_none_file false_file 0 model_room ≡ says (record { verdict = 1; values = 0 ∷ 0 ∷ []; written = [] })
p3 =
    model_on desk one_none_file false_file 0 model_room one_none false_rows (gr [] []) one_none_accepted false_accepted one_none_is false_is p3_model small_p3
    (subst (λ (l : List ℕ). length l ≤ 0) (sym p3_bytes_are) (omega arith)) (omega arith)
    ∙ ap (λ (l : List ℕ). says (record { verdict = 1; values = 0 ∷ 0 ∷ []; written = l })) p3_bytes_are
