-- The set of each label has the rows below r that look along it. A row that is no box looks along nothing, so it need not be entered.
use mathlib.Core.Path.{◌≡◌}
use Prim.Native.Nat.{ℕ, ◌<◌}
use lib.ListN.{get_or}
use Rattle.files.specs.Decode.{decode_property}
use Rattle.maximal.specs.Masks.{mask}
use Rattle.maximal.proofs.MaskLaws.{looks_along}
use Rattle.maximal.proofs.masks.boxes_by_label.Given as goal

abbrev pub invariant-loop-r : goal.invariant-loop-r
invariant-loop-r loop = (l : ℕ) → l < 9 → get_or loop.boxes l 0 ≡ mask (looks_along (decode_property loop.property) l) loop.r
