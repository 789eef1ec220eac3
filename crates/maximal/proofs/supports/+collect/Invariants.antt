-- `left` falls with each call.
use Rattle.maximal.proofs.supports.+collect.Given as goal

abbrev pub decreases-collect : goal.decreases-collect
decreases-collect l = l.left
