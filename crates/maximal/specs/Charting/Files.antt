-- What an accepted property file says of its rows: their number, and that they are well formed; and the same where the search for states works on it.
use Rattle.std.specs.Prelude.{◌≡◌, List, ℕ, ◌≤◌, length}
use Rattle.std.proofs.Common.{sym, ◌∙◌, arith}
use Rattle.files.specs.Access.{PropertyFile}
use Rattle.files.specs.Decode.{decode_property}
use Rattle.files.specs.Decode.Properties.{decoded_rows, decoded_property}
use Rattle.files.specs.Places.{max_rows}
use Rattle.files.specs.Property.{Property}
use Rattle.files.specs.Record.{count}
use Rattle.maximal.specs.declared.places.Scope.{Scope}
use Rattle.maximal.specs.Charting.{Scoped}

pub file_rows : (p : List ℕ) → PropertyFile p → length (decode_property p) ≡ count p
file_rows p f = decoded_rows f.limits p f.accepted

pub file_named : (p : List ℕ) → PropertyFile p → Property (decode_property p)
file_named p f = (decoded_property f.limits p f.accepted).rows_named

module _ (s : Scope) (p : List ℕ) (x : Scoped s p) where
  pub rows_is : length (decode_property p) ≡ s.rows
  rows_is = file_rows p x.file ∙ sym x.rows_are

  pub rows_fit : length (decode_property p) ≤ max_rows
  rows_fit = omega (arith, rows_is, x.few_rows)

  pub rows_named : Property (decode_property p)
  rows_named = file_named p x.file
