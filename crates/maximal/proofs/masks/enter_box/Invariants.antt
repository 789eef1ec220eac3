-- Below label the sets are those with the row entered where it looks along, and from there on those given.
use Rattle.maximal.proofs.MaskLaws.{Entering}
use Rattle.maximal.proofs.masks.enter_box.Given as goal

abbrev pub invariant-loop-label : goal.invariant-loop-label
invariant-loop-label l = Entering l.x l.r l.initial.all l.label l.all
