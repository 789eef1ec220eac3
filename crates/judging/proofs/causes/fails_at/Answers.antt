use mathlib.Core.Path.{ap₂}
use Rattle.judging.proofs.CauseLaws.{root_holds}
use mathlib.Core.Bool.{Bool, not, ◌&&◌}
use Rattle.files.specs.declared.graph.GraphNode.{GraphNode}
use Rattle.judging.proofs.causes.fails_at.Goals as goal

pub returns : goal.returns
returns c =
    let a = c.args in
    ap₂ (λ (n : GraphNode) (b : Bool). n.entry && not b) c.node_at-v.ensures (root_holds a.s a.graph.now a.property.now c.requires.0 a.work.now c.requires.1.1.1 a.g c.get-x.result c.requires.1.0 c.get-x.ensures)
