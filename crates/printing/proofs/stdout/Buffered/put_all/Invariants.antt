use Rattle.std.proofs.Common.{◌≡◌, Err, IfErr}
use Rattle.printing.proofs.stdout.Buffered.put_all.Given as goal

-- the first failure is kept
abbrev pub invariant-loop-byte : goal.invariant-loop-byte
invariant-loop-byte l = IfErr l.initial.self.outcome (λ e. l.self.outcome ≡ Err e)
