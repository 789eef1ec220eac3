-- Both nodes stay in a byte, since those before and the graph's own are at most 256.
use Rattle.files.specs.Join.Bytes.{from_fits, to_fits}
use Rattle.files.proofs.moved.write_moved.Goals as goal

pub moved_node-from-requires : goal.moved_node-from-requires
moved_node-from-requires c =
    let a = c.args in
    from_fits a.graph.now a.view c.requires.0 a.before c.requires.1.0 a.j c.requires.1.1.0 _ c.edge_at-e.ensures

pub moved_node-to-requires : goal.moved_node-to-requires
moved_node-to-requires c =
    let a = c.args in
    to_fits a.graph.now a.view c.requires.0 a.before c.requires.1.0 a.j c.requires.1.1.0 _ c.edge_at-e.ensures
