use Rattle.judging.specs.Chains.{Outside}
use Rattle.runs.specs.Prepared.{SteppedFrom}
use Rattle.runs.specs.Regions.{firsts_base, monitor_base}
use Rattle.runs.proofs.prepare.put_steps.Given as goal

abbrev pub invariant-loop-j : goal.invariant-loop-j
invariant-loop-j l = (SteppedFrom l.rules l.j l.work) × (Outside monitor_base firsts_base l.initial.work l.work)
