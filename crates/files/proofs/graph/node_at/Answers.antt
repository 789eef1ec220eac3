use native.Mathlib.Omega.{arith}
use Rattle.files.specs.Access.Laws.{nodes_few, reads_node}
use Rattle.files.proofs.graph.node_at.Goals as goal

pub read-r-requires : goal.read-r-requires
read-r-requires c = omega (arith, c.requires.1, nodes_few c.args.graph.now c.requires.0)

pub returns : goal.returns
returns c =
    let read = c.read-r in
    reads_node c.args.graph.now c.requires.0 c.args.g c.requires.1 read.result read.ensures
