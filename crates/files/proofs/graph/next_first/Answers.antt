use mathlib.Core.Path.{sym, ◌∙◌}
use native.Mathlib.Omega.{arith}
use borrow.Author.Tests.{not-true, not-false}
use Rattle.files.specs.Access.Laws.{nodes_few, scan_starts, scan_on, scan_stops, scan_ends}
use Rattle.files.proofs.graph.next_first.Goals as goal

pub overflow_sub-edges : goal.overflow_sub-edges
overflow_sub-edges c = omega (arith, c.requires.1, nodes_few c.args.graph.now c.requires.0)

pub loop-j-init : goal.loop-j-init
loop-j-init c = omega (arith, c.requires.2, scan_starts c.args.graph.now c.requires.0 c.args.g)

pub returns-then-not-leaves : goal.returns-then-not-leaves
returns-then-not-leaves c =
    let i = c.loop-j in
    scan_stops c.args.graph.now c.requires.0 c.args.g i.j (omega (arith, c.requires.1)) (omega (arith, c.requires.2)) i.invariant (sym c.leaves.ensures ∙ not-true _ c.if-not-leaves.true-raw)

pub loop-j-preserved : goal.loop-j-preserved
loop-j-preserved c =
    let i = c.loop-j in
    scan_on c.args.graph.now c.requires.0 c.args.g i.j (omega (arith, c.requires.1)) (sym c.leaves.ensures ∙ not-false _ c.if-not-leaves.false-raw)

pub returns : goal.returns
returns c = let a = c.args in scan_ends a.graph.now c.requires.0 a.g _ (omega (arith, c.requires.1)) (omega (arith, c.loop-j.invariant))
