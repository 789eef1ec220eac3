-- The set has the untrue rows below r.
use mathlib.Core.Path.{◌≡◌}
use Rattle.files.specs.Decode.{decode_property}
use Rattle.maximal.specs.Masks.{mask}
use Rattle.maximal.proofs.MaskLaws.{untrue_row}
use Rattle.maximal.proofs.masks.untrue.Given as goal

abbrev pub invariant-loop-r : goal.invariant-loop-r
invariant-loop-r l = l.set ≡ mask (untrue_row (decode_property l.property) l.method l.flag) l.r
