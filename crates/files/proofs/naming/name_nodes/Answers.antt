use native.Mathlib.Omega.{arith}
use Rattle.files.specs.Basics.Tables.{tally_le}
use Rattle.files.specs.Record.{count}
use Rattle.files.specs.Refusal.{of_kind}
use Rattle.files.proofs.LookLaws.{node_names_none, from_past, from_there, to_missing, nodes_there}
use Rattle.files.proofs.Tags.{not_edge, not_node}
use Rattle.files.proofs.naming.name_nodes.Goals as goal

pub returns-in_default : goal.returns-in_default
returns-in_default c =
    let a = c.args in
    let p = c.parse_as in
    node_names_none a.records.now c.requires.0 a.first a.position a.i c.requires.1.1.0 p.result p.ensures (not_edge p.result c.in_default.not-Edge)

pub node_named-requires : goal.node_named-requires
node_named-requires c = omega (arith, c.requires.1.0, tally_le (of_kind c.args.records.now 1) (count c.args.records.now))

pub returns-in_default-node_named : goal.returns-in_default-node_named
returns-in_default-node_named c =
    let a = c.args in
    let p = c.parse_as in
    let q = c.node_named in
    from_past a.records.now c.requires.0 a.first a.position a.i c.requires.1.1.0 a.nodes _ _ _ c.requires.1.0 p.result p.ensures c.in-Edge.is
    q.result q.ensures (not_node q.result c.in_default-node_named.not-Node) c.at.result c.at.ensures

pub node_beside-beside-requires : goal.node_beside-beside-requires
node_beside-beside-requires c = omega (arith, c.requires.1.0, tally_le (of_kind c.args.records.now 1) (count c.args.records.now))

pub returns-in_default-beside : goal.returns-in_default-beside
returns-in_default-beside c =
    let a = c.args in
    let p = c.parse_as in
    let edge = c.in-Edge.is in
    let q = c.node_named in
    let b = c.node_beside-beside in
    let there = from_there a.records.now c.requires.0 a.first a.position a.i c.requires.1.1.0 a.nodes _ _ _ c.requires.1.0 p.result p.ensures edge q.result
    q.ensures _ _ _ c.in-Node.is in
    to_missing a.records.now c.requires.0 a.first a.position a.i c.requires.1.1.0 a.nodes _ _ _ c.requires.1.0 p.result p.ensures edge _ there b.result
    b.ensures (not_node b.result c.in_default-beside.not-Node) c.unread.result c.unread.ensures

pub returns : goal.returns
returns c =
    let a = c.args in
    let p = c.parse_as in
    let edge = c.in-Edge.is in
    let q = c.node_named in
    let b = c.node_beside-beside in
    let there = from_there a.records.now c.requires.0 a.first a.position a.i c.requires.1.1.0 a.nodes _ _ _ c.requires.1.0 p.result p.ensures edge q.result
    q.ensures _ _ _ c.in-Node.is in
    nodes_there a.records.now c.requires.0 a.first a.position a.i c.requires.1.1.0 a.nodes _ _ _ c.requires.1.0 p.result p.ensures edge _ there b.result
    b.ensures _ _ _ c.in-Node-beside.is
