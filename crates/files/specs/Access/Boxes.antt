-- Boxes of either kind by the operator and the operands of their records, as the code reads them.
use Rattle.std.specs.Prelude.{◌≡◌, refl, Bool, true, false, cond, ℕ, ◌<◌, T, Option, Some, None, is_some, unwrap_or}
use Rattle.std.proofs.Math.Option.{none, some}
use Rattle.std.proofs.Common.{sym, ap, ◌∙◌, arith, ltb→lt}
use Rattle.files.specs.declared.property.PropertyRow.{PropertyRow}
use Rattle.files.specs.Access.{row_held, operator_of, looks, aims_along, looked_at}
use Rattle.files.specs.Property.{Row, always, never, returns, not_returns, in_method, not_in_method, both, either, box, box_all, names, obliged, Boxed, by_label, by_any, is_box}

-- what a row obliges to under a label is what it looks at
pub looks_obliged : (x : Row) (l : ℕ) → obliged x l ≡ cond (aims_along (row_held x) l) (some (looked_at (row_held x))) none
looks_obliged always l = refl
looks_obliged never l = refl
looks_obliged returns l = refl
looks_obliged not_returns l = refl
looks_obliged (in_method a) l = refl
looks_obliged (not_in_method a) l = refl
looks_obliged (both a b) l = refl
looks_obliged (either a b) l = refl
looks_obliged (box k b) l = refl
looks_obliged (box_all a) l = refl

-- what was found along a label: where it is some row, the row looks along the label and at that row; where it is none, it does not look along it
module _ (x : PropertyRow) (l : ℕ) {y : Option ℕ} (found : y ≡ looks x l) where
  pub along_is : is_some y ≡ aims_along x l
  along_is = ap is_some found ∙ go (aims_along x l)
    where
      go : (b : Bool) → is_some (cond b (Some (looked_at x)) None) ≡ b
      go true = refl
      go false = refl

  pub found_at : (r : ℕ) → y ≡ Some r → (aims_along x l ≡ true) × (r ≡ looked_at x)
  found_at r e = go (aims_along x l) (sym e ∙ found)
    where
      go : (b : Bool) → Some r ≡ cond b (Some (looked_at x)) None → (b ≡ true) × (r ≡ looked_at x)
      go true d = (refl, ap (λ o. unwrap_or o 0) d)
      go false d = let z : ◌≡◌ {A = ℕ} 0 1 = cc in absurd (omega arith)

  pub none_found : y ≡ None → aims_along x l ≡ false
  none_found e = sym along_is ∙ ap is_some e

-- the operator tells a box
pub boxed_if : (x : Row) → T (is_box (operator_of (row_held x))) → Boxed x
boxed_if always t = absurd t
boxed_if never t = absurd t
boxed_if returns t = absurd t
boxed_if not_returns t = absurd t
boxed_if (in_method a) t = absurd t
boxed_if (not_in_method a) t = absurd t
boxed_if (both a b) t = absurd t
boxed_if (either a b) t = absurd t
boxed_if (box l b) t = by_label l b
boxed_if (box_all a) t = by_any a

pub boxed_operator : (x : Row) → Boxed x → T (is_box (operator_of (row_held x)))
boxed_operator x (by_label l b) = tt
boxed_operator x (by_any a) = tt

-- the operand of a box is a row that it names
pub box_row_named : (n : ℕ) (x : Row) → Boxed x → T (names n x) → looked_at (row_held x) < n
box_row_named n x (by_label l b) t = ltb→lt b n t
box_row_named n x (by_any a) t = ltb→lt a n t
