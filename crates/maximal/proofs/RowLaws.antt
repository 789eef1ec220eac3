-- For the code that reads rows of an accepted property: the rows that a row names, as it is read, are rows of the file.
use mathlib.Core.Path.{◌≡◌, refl, sym, ap, ap₂, subst, ◌∙◌}
use mathlib.Core.Bool.{Bool, cond}
use mathlib.Core.List.{List}
use mathlib.Core.Option.{none, some}
use Rattle.std.specs.Prelude.{Some}
use Prim.Native.Nat.{ℕ, ◌≤◌, ◌<◌}
use native.Mathlib.Omega.{arith}
use lib.Dec.{T, ltb, ltb→lt}
use lib.ListN.{length}
use Rattle.files.specs.Access.{PropertyFile, row_held, looks, first_of, operator_of, second_of}
use Rattle.files.specs.Access.Boxes.{looks_obliged, found_at}
use Rattle.files.specs.Basics.Tests.{and_l, and_r}
use Rattle.files.specs.Decode.{decode_property}
use Rattle.files.specs.Property.{Row, always, never, returns, not_returns, in_method, not_in_method, both, either, box, box_all, row, names, obliged}
use Rattle.files.specs.Record.{count}
use Rattle.files.specs.declared.property.PropertyRow.{PropertyRow}
use Rattle.judging.specs.Levels.Laws.{obliged_named}
use Rattle.maximal.specs.Charting.Files.{file_rows, file_named}

-- ---- what a row says

-- the operands of operators 7 and 8 are rows
operands_rows : (n : ℕ) (x : Row) → T (names n x) → 7 ≤ operator_of (row_held x) → operator_of (row_held x) ≤ 8 → (first_of (row_held x) < n) × (second_of (row_held x) < n)
operands_rows n always t l h = absurd (omega arith)
operands_rows n never t l h = absurd (omega arith)
operands_rows n returns t l h = absurd (omega arith)
operands_rows n not_returns t l h = absurd (omega arith)
operands_rows n (in_method a) t l h = absurd (omega arith)
operands_rows n (not_in_method a) t l h = absurd (omega arith)
operands_rows n (both a b) t l h = (ltb→lt a n (and_l (ltb a n) (ltb b n) t), ltb→lt b n (and_r (ltb a n) (ltb b n) t))
operands_rows n (either a b) t l h = (ltb→lt a n (and_l (ltb a n) (ltb b n) t), ltb→lt b n (and_r (ltb a n) (ltb b n) t))
operands_rows n (box k b) t l h = absurd (omega arith)
operands_rows n (box_all a) t l h = absurd (omega arith)

-- a row that is found along a label is what row v, read as u, obliges to under it
pub obliged_read : (u : PropertyRow) (v : Row) → u ≡ row_held v → (l b : ℕ) → Some b ≡ looks u l → obliged v l ≡ some b
obliged_read u v held l b found =
    let t = found_at (row_held v) l (found ∙ ap (λ (y : PropertyRow). looks y l) held) b refl in
    looks_obliged v l ∙ ap₂ (λ (d : Bool) (i : ℕ). cond d (some i) none) t.0 (sym t.1)

-- ---- the rows of a file

module _ (p : List ℕ) (file : PropertyFile p) (n : ℕ) (n_is : n ≡ count p) where
  pub rows_are : length (decode_property p) ≡ n
  rows_are = file_rows p file ∙ sym n_is

  names_rows : (r : ℕ) → r < n → T (names n (row (decode_property p) r))
  names_rows r h =
      subst (λ (k : ℕ). T (names k (row (decode_property p) r))) rows_are
      ((file_named p file).names_rows r (omega (arith, rows_are)))

  -- row r, read as u
  module _ (r : ℕ) (h : r < n) (u : PropertyRow) (read : u ≡ row_held (row (decode_property p) r)) where
    -- the operands of an "and" or an "or"
    pub both_below : 7 ≤ operator_of u → operator_of u ≤ 8 → (first_of u < n) × (second_of u < n)
    both_below =
        subst (λ (y : PropertyRow). 7 ≤ operator_of y → operator_of y ≤ 8 → (first_of y < n) × (second_of y < n)) (sym read) (operands_rows n (row (decode_property p) r) (names_rows r h))

    -- what is found along a label
    pub looked_below : (l b : ℕ) → Some b ≡ looks u l → b < n
    looked_below l b found = obliged_named n (row (decode_property p) r) l b (names_rows r h) (obliged_read u (row (decode_property p) r) read l b found)
