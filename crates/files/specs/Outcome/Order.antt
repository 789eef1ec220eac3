-- What the published order refuses: lines that stand in another order, and a number that has no entry in it, wherever it stands.
use Rattle.std.specs.Prelude.{◌≡◌, refl, false, ℕ}
use Rattle.files.specs.Outcome.{no_lines, line, whole_line, published}

module _ (P : Type 0) (A : ℕ → Type 0) where
  -- 9 of no file before a graph's
  nine_reversed : published (whole_line 9 P (line 9 2 A no_lines)) ≡ false
  nine_reversed = refl

  twelve_first : published (whole_line 12 P (whole_line 11 P no_lines)) ≡ false
  twelve_first = refl

  -- a file's numbers after the next file's
  file_late : published (line 2 2 A (line 8 1 A no_lines)) ≡ false
  file_late = refl

  -- 99 has no entry: neither last, nor first, nor of a file
  unlisted : published (whole_line 12 P (whole_line 99 P no_lines)) ≡ false
  unlisted = refl

  unlisted_first : published (whole_line 99 P (whole_line 13 P no_lines)) ≡ false
  unlisted_first = refl

  unlisted_of_file : published (line 8 1 A (line 99 1 A no_lines)) ≡ false
  unlisted_of_file = refl
