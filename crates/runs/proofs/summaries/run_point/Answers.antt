-- Where the summary grew the calls that enter the method so are run. Else a return node adds nothing, and the edges of any other are run.
use mathlib.Core.Path.{ap}
use Prim.Native.Nat.{◌/◌}
use native.Mathlib.Omega.{arith}
use Rattle.files.specs.declared.graph.GraphNode.{GraphNode}
use Rattle.runs.proofs.SummaryLaws.{method_small}
use Rattle.runs.proofs.summaries.run_point.Goals as goal

pub end_call-requires : goal.end_call-requires
end_call-requires c =
    let a = c.args in
    let m = method_small a.s a.graph.now a.rules.now c.requires.0 (a.at / 8) a.v.method c.requires.1.0 (ap (λ (u : GraphNode). u.method) c.requires.1.1.0) in
    (c.requires.0, (m.0, (m.1, (omega arith, (c.requires.1.1.1.0 c.if-new-gt0.true, (c.requires.1.1.1.1.0, c.requires.1.1.1.1.1))))))
