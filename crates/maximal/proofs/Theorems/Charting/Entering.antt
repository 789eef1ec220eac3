-- The theorems of specs/Charting/Entering that rest on a definition which a must-fail edit turns: there they could not be read under the edit.
-- Entering: What entering states keeps: lists entered one after another are one list entered, and slots and entries that were right stay right.
use Rattle.std.specs.Prelude.{◌≡◌, refl, ◌&&◌, ℕ, ◌/◌, ◌%◌, ◌<◌, ltb}
use Rattle.std.proofs.Common.{sym, ap, subst, ◌∙◌, arith}
use mathlib.Core.List.{List}
use Rattle.files.specs.Interface.{Interface}
use Rattle.files.specs.Property.{Row, Property}
use Rattle.maximal.specs.Charting.{stored, Admitted, Followed}
use Rattle.maximal.specs.Masks.{asked_of}
use Rattle.maximal.specs.Model.{State, Next, is_next}
use Rattle.maximal.proofs.Theorems.Model.Computed.{next_e}
use Rattle.maximal.specs.Places.{slots}
use Rattle.maximal.specs.Charting.Entering.{asked_kept, method_kept, n, rows_of, same_place, still_there, stored_kept, tested}

module _ (I : Interface) (P : List Row) where
  module _ (wf : Property P) (c c' kind : ℕ) (A : List ℕ) (q : ℕ) (w w' : List ℕ) (x : Admitted I P c c' kind A q w w') where
    pub followed_kept : (p : ℕ) → p < slots → (p ≡ q → ⊥) → p / 9 < c → Followed I P c w p → Followed I P c' w' p
    followed_kept p l d h f = record {
      bits = λ t m.
          x.others_kept p t (omega arith) m d ∙ f.bits t m
          ∙ ap (λ (s : State). ltb t c && is_next I P s (p % 9) (stored (n I P) w t)) (sym ((stored_kept I P wf c c' kind A q w w' x) (p / 9) h))
          ∙ (tested I P wf c c' kind A q w w' x) (λ s. is_next I P (stored (n I P) w' (p / 9)) (p % 9) s) (λ i k z. (same_place I P wf c c' kind A q w w' x) i (stored (n I P) w' i) k refl (f.all_there (stored (n I P) w' i)
          (subst (λ (s : State). Next I P s (p % 9) (stored (n I P) w' i)) ((stored_kept I P wf c c' kind A q w w' x) (p / 9) h) (next_e I P wf (stored (n I P) w' (p / 9)) (p % 9) (stored (n I P) w' i) ((rows_of I P wf c c' kind A q w w' x) i) z)))) t;
      all_there = λ s z. (still_there I P wf c c' kind A q w w' x) s (f.all_there s (subst (λ (e : State). Next I P e (p % 9) s) ((stored_kept I P wf c c' kind A q w w' x) (p / 9) h) z));
      method_is = λ t. (method_kept I P wf c c' kind A q w w' x) p l ∙ f.method_is t ∙ ap (λ (k : ℕ). k / 2) (sym (x.kinds_kept (p / 9) h));
      no_method = λ t. (method_kept I P wf c c' kind A q w w' x) p l ∙ f.no_method t;
      asked_is = λ t. (asked_kept I P wf c c' kind A q w w' x) p l ∙ f.asked_is t ∙ ap (λ (k : ℕ). asked_of P k (p % 9)) (sym (x.sets_kept (p / 9) h));
    }
