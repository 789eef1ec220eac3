-- All records looked at so far are nodes with nothing wrong.
use Prim.Native.Nat.{ℕ, ◌<◌}
use Rattle.files.specs.Plain.{PlainNode}
use Rattle.files.proofs.plain.leading_nodes.Given as goal

abbrev pub invariant-loop-i : goal.invariant-loop-i
invariant-loop-i l = (j : ℕ) → j < l.i → PlainNode l.records j
