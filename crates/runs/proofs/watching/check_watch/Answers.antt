-- Each check settles its numbers, in the published order; 9 and 10 are asked where the files before them are accepted; the graph's check hands its view on.
use Rattle.files.specs.Decode.{decode_interface}
use Rattle.files.specs.Outcome.{short, no_start}
use Rattle.files.specs.Refusal.{interface, rules}
use Rattle.files.specs.Settling.Laws.{whole_settles, found_settles, file_settles, graph_settles, passed_then, refused_then, hands_on, handed_on}
use Rattle.files.specs.Sides.{first_foreign, unprovided}
use Rattle.files.specs.View.{accepted_interface}
use Rattle.runs.specs.Regions.{watch_room}
use Rattle.runs.proofs.watching.check_watch.Goals as goal

pub returns-in_err-check-clause-settles : goal.returns-in_err-check-clause-settles
returns-in_err-check-clause-settles c =
    let a = c.args in
    passed_then (whole_settles 13 (short watch_room a.work)) c.in_ok-refuse_if.ensures
    (refused_then (file_settles a.limits 1 interface a.interface.now) c.in_err-check.ensures (handed_on _ c.from_residual-in_err-check.ensures.1))

pub returns-in_err-view-clause-settles : goal.returns-in_err-view-clause-settles
returns-in_err-view-clause-settles c =
    let a = c.args in
    passed_then (whole_settles 13 (short watch_room a.work)) c.in_ok-refuse_if.ensures
    (passed_then (file_settles a.limits 1 interface a.interface.now) c.in_ok-check.ensures
    (refused_then (graph_settles a.limits 2 a.graph.now) c.in_err-view.ensures.counted (handed_on _ c.from_residual-in_err-view.ensures.1)))

pub returns-in_err-check-2-clause-settles : goal.returns-in_err-check-2-clause-settles
returns-in_err-check-2-clause-settles c =
    let a = c.args in
    passed_then (whole_settles 13 (short watch_room a.work)) c.in_ok-refuse_if.ensures
    (passed_then (file_settles a.limits 1 interface a.interface.now) c.in_ok-check.ensures
    (passed_then (graph_settles a.limits 2 a.graph.now) c.in_ok-view.ensures.counted
    (refused_then (file_settles a.limits 3 rules a.rules.now) c.in_err-check-2.ensures (handed_on _ c.from_residual-in_err-check-2.ensures.1))))

pub returns-in_err-refuse_if-2-clause-settles : goal.returns-in_err-refuse_if-2-clause-settles
returns-in_err-refuse_if-2-clause-settles c =
    let a = c.args in
    passed_then (whole_settles 13 (short watch_room a.work)) c.in_ok-refuse_if.ensures
    (passed_then (file_settles a.limits 1 interface a.interface.now) c.in_ok-check.ensures
    (passed_then (graph_settles a.limits 2 a.graph.now) c.in_ok-view.ensures.counted
    (passed_then (file_settles a.limits 3 rules a.rules.now) c.in_ok-check-2.ensures
    (refused_then (whole_settles 3 (no_start a.start)) c.in_err-refuse_if-2.ensures (handed_on _ c.from_residual-in_err-refuse_if-2.ensures.1)))))

pub returns-in_err-check_own-clause-settles : goal.returns-in_err-check_own-clause-settles
returns-in_err-check_own-clause-settles c =
    let a = c.args in
    passed_then (whole_settles 13 (short watch_room a.work)) c.in_ok-refuse_if.ensures
    (passed_then (file_settles a.limits 1 interface a.interface.now) c.in_ok-check.ensures
    (passed_then (graph_settles a.limits 2 a.graph.now) c.in_ok-view.ensures.counted
    (passed_then (file_settles a.limits 3 rules a.rules.now) c.in_ok-check-2.ensures
    (passed_then (whole_settles 3 (no_start a.start)) c.in_ok-refuse_if-2.ensures
    (refused_then (found_settles 9 2 (first_foreign (decode_interface a.interface.now) a.graph.now)) c.in_err-check_own.ensures (handed_on _ c.from_residual-in_err-check_own.ensures.1))))))

pub returns-in_err-check_provided-clause-settles : goal.returns-in_err-check_provided-clause-settles
returns-in_err-check_provided-clause-settles c =
    let a = c.args in
    passed_then (whole_settles 13 (short watch_room a.work)) c.in_ok-refuse_if.ensures
    (passed_then (file_settles a.limits 1 interface a.interface.now) c.in_ok-check.ensures
    (passed_then (graph_settles a.limits 2 a.graph.now) c.in_ok-view.ensures.counted
    (passed_then (file_settles a.limits 3 rules a.rules.now) c.in_ok-check-2.ensures
    (passed_then (whole_settles 3 (no_start a.start)) c.in_ok-refuse_if-2.ensures
    (passed_then (found_settles 9 2 (first_foreign (decode_interface a.interface.now) a.graph.now)) c.in_ok-check_own.ensures
    (refused_then (whole_settles 10 (unprovided (decode_interface a.interface.now) a.start)) c.in_err-check_provided.ensures (handed_on _ c.from_residual-in_err-check_provided.ensures.1)))))))

pub check_own-requires : goal.check_own-requires
check_own-requires c = (c.in_ok-view.ensures.views.graph_file, accepted_interface c.args.limits c.args.interface.now 1 c.in_ok-check.ensures)

pub check_provided-requires : goal.check_provided-requires
check_provided-requires c = accepted_interface c.args.limits c.args.interface.now 1 c.in_ok-check.ensures

pub returns-clause-settles : goal.returns-clause-settles
returns-clause-settles c =
    let a = c.args in
    passed_then (whole_settles 13 (short watch_room a.work)) c.in_ok-refuse_if.ensures
    (passed_then (file_settles a.limits 1 interface a.interface.now) c.in_ok-check.ensures
    (passed_then (graph_settles a.limits 2 a.graph.now) c.in_ok-view.ensures.counted
    (passed_then (file_settles a.limits 3 rules a.rules.now) c.in_ok-check-2.ensures
    (passed_then (whole_settles 3 (no_start a.start)) c.in_ok-refuse_if-2.ensures
    (passed_then (found_settles 9 2 (first_foreign (decode_interface a.interface.now) a.graph.now)) c.in_ok-check_own.ensures
    (hands_on (whole_settles 10 (unprovided (decode_interface a.interface.now) a.start)) c.in_ok-check_provided.ensures))))))
