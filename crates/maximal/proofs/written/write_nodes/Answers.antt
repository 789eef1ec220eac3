use Rattle.files.specs.Cells.Wrote.{wrote_none}
use Rattle.maximal.proofs.WrittenLaws.{node_on}
use Rattle.maximal.proofs.written.write_nodes.Goals as goal

pub loop-i-init : goal.loop-i-init
loop-i-init c = wrote_none c.args.out.now 0

pub loop-i-preserved : goal.loop-i-preserved
loop-i-preserved c = let a = c.args in
    let l = c.loop-i in
    node_on a.work.now a.out.now l.out c.write_node.new.out l.i l.invariant c.write_node.ensures c.write_node.auto.out
