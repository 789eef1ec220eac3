-- Of the first i sets those that are kept stand at the front; the sets from i on stand as they stood, so the next one is read as it was.
use mathlib.Core.Bool.{not}
use Rattle.maximal.specs.Masks.{within}
use Rattle.maximal.proofs.AntichainLaws.{Kept}
use Rattle.maximal.proofs.antichain.drop_above.Given as goal

abbrev pub invariant-loop-i : goal.invariant-loop-i
invariant-loop-i l = Kept (λ u. not (within l.s u)) l.initial.work l.work l.i l.left
