-- The checks settle in the order of the code; where they pass, the four files are accepted and the rest gives the joined graph.
use Rattle.std.proofs.Common.{sym}
use lib.ListN.{length}
use Rattle.files.specs.Settling.Calls.{refused_answers, worked_answers}
use Rattle.files.specs.Settling.Laws.{hands_on, handed_on}
use Rattle.judging.specs.Refinement.Files.{both_sizes}
use Rattle.runs.specs.Joining.{join_said, join_first, from_size}
use Rattle.runs.specs.Joining.Work.{joined_is, join_known}
use Rattle.runs.proofs.joining.join_within.Goals as goal

pub join_sizes-requires : goal.join_sizes-requires
join_sizes-requires c =
    let a = c.args in
    let views = c.in_ok-s.ensures.views in
    let known = join_known a.limits a.interface1.now a.graph1.now a.interface2.now a.graph2.now (hands_on c.check_join.ensures.settles (sym c.in_ok-s.was)) in
    let both = both_sizes a.limits c.requires a.graph1.now a.graph2.now known.first_within known.second_within _ _ views.0 views.1 in
    (known.first_interface, (known.second_interface, (both, c.requires)))

pub returns-in_err-s : goal.returns-in_err-s
returns-in_err-s c =
    let a = c.args in
    let n = length a.out.now in
    rw (handed_on c.from_residual.result c.from_residual.ensures.1)
    (refused_answers (join_first a.limits a.interface1.now a.graph1.now a.interface2.now a.graph2.now)
    (from_size a.limits a.interface1.now a.graph1.now a.interface2.now a.graph2.now n)
    (join_said a.limits a.interface1.now a.graph1.now a.interface2.now a.graph2.now n) c.check_join.ensures.settles
    (joined_is a.limits a.interface1.now a.graph1.now a.interface2.now a.graph2.now n) c.in_err-s.was)

pub returns : goal.returns
returns c =
    let a = c.args in
    let n = length a.out.now in
    worked_answers (join_first a.limits a.interface1.now a.graph1.now a.interface2.now a.graph2.now)
    (from_size a.limits a.interface1.now a.graph1.now a.interface2.now a.graph2.now n)
    (join_said a.limits a.interface1.now a.graph1.now a.interface2.now a.graph2.now n) c.check_join.ensures.settles
    (joined_is a.limits a.interface1.now a.graph1.now a.interface2.now a.graph2.now n) c.in_ok-s.was
    c.join_sizes.ensures
