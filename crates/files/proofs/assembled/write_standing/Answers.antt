-- Nodes, then edges, are the bytes of the graph.
use Rattle.files.specs.Assemble.Bytes.{assembled_stored}
use Rattle.files.specs.Deliveries.{decode_deliveries}
use Rattle.files.proofs.assembled.write_standing.Goals as goal

pub returns : goal.returns
returns c =
    let a = c.args in
    let nodes = c.write_all_nodes in
    let edges = c.write_all_edges in
    assembled_stored (decode_deliveries a.file.now) a.out.now nodes.new.out edges.new.out a.view.nodes c.requires.1.0.nodes_are nodes.ensures edges.ensures
