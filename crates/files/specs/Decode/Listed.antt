-- The file of a list of values, a record each: what stands in it, that it decodes to the list, and when a file is such a one. Assumes nothing.
use Rattle.std.specs.Prelude.{◌≡◌, List, map, ℕ, ◌*◌, ◌<◌, length, get_or}
use Rattle.std.proofs.Common.{ap, subst, ◌∙◌, zero-add, arith}
use Rattle.std.proofs.lemmas.List.{length-map}
use Rattle.files.specs.Basics.Lists.{each, each_map, get_d_map}
use Rattle.files.specs.Basics.Tables.{table, table_is}
use Rattle.files.specs.Decode.Canonical.{table_same, map_table, write_recs}
use Rattle.files.specs.Decode.Written.{length_write, count_write, record_at_write}
use Rattle.files.specs.Places.{record_len}
use Rattle.files.specs.Record.{record_at, count, six, write}
use Rattle.files.specs.declared.record.Record.{Record}

module _ {A : Type 0} (enc : A → Record) (xs : List A) where
  pub length_values : length (write (map enc xs)) ≡ record_len * length xs
  length_values = omega (arith, length_write (map enc xs), length-map xs enc)

  pub count_values : count (write (map enc xs)) ≡ length xs
  count_values = count_write (map enc xs) ∙ length-map xs enc

  pub at_value : (d : A) (i : ℕ) → i < length xs → record_at (write (map enc xs)) i ≡ enc (get_or xs i d)
  at_value d i h = record_at_write (map enc xs) i (omega (arith, length-map xs enc)) ∙ get_d_map enc xs i d _ h

module _ {A : Type 0} (enc : A → Record) (dec : Record → A) where
  -- it decodes to the list
  pub decode_values : (d : A) → ((x : A) → dec (enc x) ≡ x) → (xs : List A) → table (λ i. dec (record_at (write (map enc xs)) i)) 0 (count (write (map enc xs))) ≡ xs
  decode_values d back xs =
      ap (table value 0) (count_values enc xs) ∙ table_is value 0 xs d (λ i h. ap value (zero-add i) ∙ ap dec (at_value enc xs d i h) ∙ back (get_or xs i d))
    where
      value : ℕ → A
      value i = dec (record_at (write (map enc xs)) i)

  -- the same of the six bytes of each value one after the other, as results are written
  pub decode_each : (d : A) → ((x : A) → dec (enc x) ≡ x) → (xs : List A)
      → let l = each (λ (x : A). six (enc x)) xs in table (λ i. dec (record_at l i)) 0 (count l) ≡ xs
  decode_each d back xs = subst (λ (l : List ℕ). table (λ i. dec (record_at l i)) 0 (count l) ≡ xs) (each_map six enc xs) (decode_values d back xs)

  -- a file whose records are those of their values is the bytes of its list
  pub values_decode : (l : List ℕ) → length l ≡ record_len * count l → ((i : ℕ) → i < count l → enc (dec (record_at l i)) ≡ record_at l i)
      → write (map enc (table (λ i. dec (record_at l i)) 0 (count l))) ≡ l
  values_decode l e f =
      ap write (map_table enc (λ i. dec (record_at l i)) 0 (count l) ∙ table_same (λ i. enc (dec (record_at l i))) (record_at l) 0 (count l) (λ i x y. f i (omega arith)))
      ∙ write_recs (count l) l e
