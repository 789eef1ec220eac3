use mathlib.Core.Path.{◌≡◌}
use Rattle.files.specs.Decode.{decode_rules}
use Rattle.files.specs.Rules.{watch}
use Rattle.runs.specs.Worklist.Unions.{union_to}
use Rattle.runs.proofs.SummaryLaws.{onto}
use Rattle.runs.proofs.sets.step_set.Given as goal

abbrev pub invariant-loop-q : goal.invariant-loop-q
invariant-loop-q l = l.y ≡ union_to (onto (watch (decode_rules l.rules)) l.event l.m1 l.m2) l.x l.q
