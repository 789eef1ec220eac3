use Rattle.files.specs.Access.Laws.{reads_edge}
use Rattle.files.proofs.graph.edge_at.Goals as goal

pub returns : goal.returns
returns c =
    let read = c.read-r in
    reads_edge c.args.graph.now c.requires.0 c.args.nodes c.args.j c.requires.1 c.requires.2 read.result read.ensures
