-- Files of any kind: to an accepted one no number of the table applies, so it has whole records; and when one is accepted. Assumes nothing.
use Rattle.std.specs.Prelude.{◌≡◌, refl, List, ℕ, zero, suc, ◌*◌, ◌<◌, T, length}
use Rattle.std.proofs.Math.Option.{none}
use Rattle.std.proofs.Common.{arith}
use Rattle.files.specs.Basics.Says.{says_eq, says_sure}
use Rattle.files.specs.Places.{record_len}
use Rattle.files.specs.Record.{record_at, count, wrong}
use Rattle.files.specs.Refusal.{Kind, refusal}
use Rattle.files.specs.Refusal.Laws.{accepted_iff, says_wrong}
use Rattle.files.specs.Table.{Misplaced, Disordered, Passed, Missing, Past, Crossing, Applies}
use Rattle.files.specs.declared.record.Limits.{Limits}

module _ (L : Limits) (k : Kind) (l : List ℕ) (accepted : refusal L k l ≡ none) where
  pub none_applies : (n i : ℕ) → Applies L k l n i → ⊥
  none_applies = (accepted_iff L k l).0 accepted

  pub whole_file : length l ≡ record_len * count l
  whole_file = says_sure (says_eq (length l) (record_len * count l)) (λ e. none_applies 1 0 (refl, λ n q. e (omega arith)))

-- a file of n records is accepted if no number from 2 to 8 applies
pub accepted_if : (L : Limits) (k : Kind) (l : List ℕ) (n : ℕ) → length l ≡ record_len * n → ((i : ℕ) → i < count l → Misplaced k l i → ⊥) → ((i : ℕ) → i < count l → T (wrong (record_at l i)) → ⊥)
    → ((i : ℕ) → i < count l → Disordered k l i → ⊥) → (Passed L k l → ⊥) → (Missing k l → ⊥) → ((i : ℕ) → i < count l → Past k l i → ⊥) → ((i : ℕ) → Crossing k l i → ⊥)
    → refusal L k l ≡ none
accepted_if L k l n e two three four five six seven eight = (accepted_iff L k l).1 go
  where
    go : (m i : ℕ) → Applies L k l m i → ⊥
    go zero i a = a
    go (suc zero) i a = a.1 n e
    go (suc (suc zero)) i a = two i a.0 a.1
    go (suc (suc (suc zero))) i a = three i a.0 ((says_wrong (record_at l i)).hear a.1)
    go (suc (suc (suc (suc zero)))) i a = four i a.0 a.1
    go (suc (suc (suc (suc (suc zero))))) i a = five a.1
    go (suc (suc (suc (suc (suc (suc zero)))))) i a = six a.1
    go (suc (suc (suc (suc (suc (suc (suc zero))))))) i a = seven i a.0 a.1
    go (suc (suc (suc (suc (suc (suc (suc (suc zero)))))))) i a = eight i a.1
    go (suc (suc (suc (suc (suc (suc (suc (suc (suc m))))))))) i a = a
