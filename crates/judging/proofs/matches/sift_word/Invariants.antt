use mathlib.Core.Path.{◌≡◌}
use lib.ListN.{length}
use Rattle.judging.proofs.MatchLaws.{Sifting}
use Rattle.judging.proofs.matches.sift_word.Given as goal

abbrev pub invariant-loop-rest : goal.invariant-loop-rest
invariant-loop-rest l = (length l.gone ≡ length l.initial.gone) × Sifting l.work l.label l.row l.found l.k l.initial.gone l.gone l.rest

abbrev pub decreases-loop-rest : goal.decreases-loop-rest
decreases-loop-rest l = l.rest
