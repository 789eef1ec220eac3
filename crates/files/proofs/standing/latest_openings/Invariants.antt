-- Record by record, what is kept of each method is the latest so far.
use Rattle.files.specs.Deliveries.Latest.{Latest}
use Rattle.files.proofs.standing.latest_openings.Given as goal

abbrev pub invariant-loop-i : goal.invariant-loop-i
invariant-loop-i l = Latest l.file l.kept l.i
