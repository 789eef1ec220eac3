use Prim.Native.Nat.{◌+◌, ◌-◌}
use Rattle.files.specs.Decode.{decode_graph, decode_rules}
use Rattle.files.specs.Rules.{watch}
use Rattle.runs.specs.Regions.{points}
use Rattle.runs.specs.Searching.{Turn}
use Rattle.runs.proofs.search.search.Given as goal

abbrev pub invariant-loop-head : goal.invariant-loop-head
invariant-loop-head l = Turn (decode_graph l.graph) (watch (decode_rules l.rules)) l.start l.head l.end l.work

abbrev pub decreases-loop-head : goal.decreases-loop-head
decreases-loop-head l = points + 1 - l.head
