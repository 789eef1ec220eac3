use Rattle.files.specs.Deliveries.Met.{Met}
use Rattle.files.proofs.standing.repeats.Given as goal

abbrev pub invariant-loop-i : goal.invariant-loop-i
invariant-loop-i l = Met l.file l.met l.i
