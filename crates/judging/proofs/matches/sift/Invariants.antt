use Prim.Native.Nat.{◌*◌}
use Rattle.judging.specs.Refinement.{Sifted}
use Rattle.judging.proofs.matches.sift.Given as goal

abbrev pub invariant-loop-k : goal.invariant-loop-k
invariant-loop-k l = Sifted l.work l.label l.row l.found l.initial.gone l.gone 0 (32 * l.k)
