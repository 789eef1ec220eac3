-- Its counts tell 11 and 12; else its bytes are written.
use mathlib.Core.List.{[]}
use native.Mathlib.Omega.{arith}
use Rattle.files.specs.Assemble.{standing_graph}
use Rattle.files.specs.Deliveries.Met.{accepted_issues}
use Rattle.files.specs.Outcome.Counted.{short_refused, graph_written}
use Rattle.files.proofs.assembling.assemble_standing.Goals as goal

pub latest_openings-kept-requires : goal.latest_openings-kept-requires
latest_openings-kept-requires c =
    let file = c.requires.0 in
    accepted_issues file.limits c.args.deliveries.now file.taken.no_number

pub returns-then-out-view : goal.returns-then-out-view
returns-then-out-view c =
    let a = c.args in
    let x = c.standing_view-view.ensures in
    short_refused a.limits (standing_graph a.deliveries.now) x.nodes_are x.edges_are [] a.out.now c.if-limits-view.false c.if-out-view.true c.whole-then-out-view.result c.whole-then-out-view.ensures

pub returns : goal.returns
returns c =
    let a = c.args in
    let x = c.standing_view-view.ensures in
    let w = c.write_standing in
    graph_written a.limits (standing_graph a.deliveries.now) x.nodes_are x.edges_are [] a.out.now c.if-limits-view.false (omega (arith, c.if-out-view.false)) w.new.out w.ensures
