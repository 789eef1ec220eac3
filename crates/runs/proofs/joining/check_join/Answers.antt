-- Each check settles its numbers, in the published order; 9 is asked where the four files are accepted, and each graph's view is handed on.
use Rattle.files.specs.Decode.{decode_interface}
use Rattle.files.specs.Refusal.{interface}
use Rattle.files.specs.Settling.Laws.{whole_settles, found_settles, file_settles, graph_settles, passed_then, refused_then, hands_on, handed_on}
use Rattle.files.specs.Sides.{first_foreign, shares}
use Rattle.files.specs.View.{accepted_interface}
use Rattle.runs.proofs.joining.check_join.Goals as goal

pub returns-in_err-check-clause-settles : goal.returns-in_err-check-clause-settles
returns-in_err-check-clause-settles c =
    let a = c.args in
    refused_then (file_settles a.limits 1 interface a.interface1.now) c.in_err-check.ensures (handed_on _ c.from_residual.ensures.1)

pub returns-in_err-first-clause-settles : goal.returns-in_err-first-clause-settles
returns-in_err-first-clause-settles c =
    let a = c.args in
    passed_then (file_settles a.limits 1 interface a.interface1.now) c.in_ok-check.ensures
    (refused_then (graph_settles a.limits 2 a.graph1.now) c.in_err-first.ensures.counted (handed_on _ c.from_residual-in_err-first.ensures.1))

pub returns-in_err-check-2-clause-settles : goal.returns-in_err-check-2-clause-settles
returns-in_err-check-2-clause-settles c =
    let a = c.args in
    passed_then (file_settles a.limits 1 interface a.interface1.now) c.in_ok-check.ensures
    (passed_then (graph_settles a.limits 2 a.graph1.now) c.in_ok-first.ensures.counted
    (refused_then (file_settles a.limits 3 interface a.interface2.now) c.in_err-check-2.ensures (handed_on _ c.from_residual-in_err-check-2.ensures.1)))

pub returns-in_err-second-clause-settles : goal.returns-in_err-second-clause-settles
returns-in_err-second-clause-settles c =
    let a = c.args in
    passed_then (file_settles a.limits 1 interface a.interface1.now) c.in_ok-check.ensures
    (passed_then (graph_settles a.limits 2 a.graph1.now) c.in_ok-first.ensures.counted
    (passed_then (file_settles a.limits 3 interface a.interface2.now) c.in_ok-check-2.ensures
    (refused_then (graph_settles a.limits 4 a.graph2.now) c.in_err-second.ensures.counted (handed_on _ c.from_residual-in_err-second.ensures.1))))

pub returns-in_err-check_own-clause-settles : goal.returns-in_err-check_own-clause-settles
returns-in_err-check_own-clause-settles c =
    let a = c.args in
    passed_then (file_settles a.limits 1 interface a.interface1.now) c.in_ok-check.ensures
    (passed_then (graph_settles a.limits 2 a.graph1.now) c.in_ok-first.ensures.counted
    (passed_then (file_settles a.limits 3 interface a.interface2.now) c.in_ok-check-2.ensures
    (passed_then (graph_settles a.limits 4 a.graph2.now) c.in_ok-second.ensures.counted
    (refused_then (found_settles 9 2 (first_foreign (decode_interface a.interface1.now) a.graph1.now)) c.in_err-check_own.ensures (handed_on _ c.from_residual-in_err-check_own.ensures.1)))))

pub returns-in_err-check_own-2-clause-settles : goal.returns-in_err-check_own-2-clause-settles
returns-in_err-check_own-2-clause-settles c =
    let a = c.args in
    passed_then (file_settles a.limits 1 interface a.interface1.now) c.in_ok-check.ensures
    (passed_then (graph_settles a.limits 2 a.graph1.now) c.in_ok-first.ensures.counted
    (passed_then (file_settles a.limits 3 interface a.interface2.now) c.in_ok-check-2.ensures
    (passed_then (graph_settles a.limits 4 a.graph2.now) c.in_ok-second.ensures.counted
    (passed_then (found_settles 9 2 (first_foreign (decode_interface a.interface1.now) a.graph1.now)) c.in_ok-check_own.ensures
    (refused_then (found_settles 9 4 (first_foreign (decode_interface a.interface2.now) a.graph2.now)) c.in_err-check_own-2.ensures (handed_on _ c.from_residual-in_err-check_own-2.ensures.1))))))

pub returns-in_err-check_apart-clause-settles : goal.returns-in_err-check_apart-clause-settles
returns-in_err-check_apart-clause-settles c =
    let a = c.args in
    passed_then (file_settles a.limits 1 interface a.interface1.now) c.in_ok-check.ensures
    (passed_then (graph_settles a.limits 2 a.graph1.now) c.in_ok-first.ensures.counted
    (passed_then (file_settles a.limits 3 interface a.interface2.now) c.in_ok-check-2.ensures
    (passed_then (graph_settles a.limits 4 a.graph2.now) c.in_ok-second.ensures.counted
    (passed_then (found_settles 9 2 (first_foreign (decode_interface a.interface1.now) a.graph1.now)) c.in_ok-check_own.ensures
    (passed_then (found_settles 9 4 (first_foreign (decode_interface a.interface2.now) a.graph2.now)) c.in_ok-check_own-2.ensures
    (refused_then (whole_settles 9 (shares (decode_interface a.interface1.now) (decode_interface a.interface2.now))) c.in_err-check_apart.ensures (handed_on _ c.from_residual-in_err-check_apart.ensures.1)))))))

pub check_own-requires : goal.check_own-requires
check_own-requires c = (c.in_ok-first.ensures.views.graph_file, accepted_interface c.args.limits c.args.interface1.now 1 c.in_ok-check.ensures)

pub check_own-requires-2 : goal.check_own-requires-2
check_own-requires-2 c = (c.in_ok-second.ensures.views.graph_file, accepted_interface c.args.limits c.args.interface2.now 3 c.in_ok-check-2.ensures)

pub check_apart-requires : goal.check_apart-requires
check_apart-requires c =
    let a = c.args in
    (accepted_interface a.limits a.interface1.now 1 c.in_ok-check.ensures, accepted_interface a.limits a.interface2.now 3 c.in_ok-check-2.ensures)

pub returns-clause-settles : goal.returns-clause-settles
returns-clause-settles c =
    let a = c.args in
    passed_then (file_settles a.limits 1 interface a.interface1.now) c.in_ok-check.ensures
    (passed_then (graph_settles a.limits 2 a.graph1.now) c.in_ok-first.ensures.counted
    (passed_then (file_settles a.limits 3 interface a.interface2.now) c.in_ok-check-2.ensures
    (passed_then (graph_settles a.limits 4 a.graph2.now) c.in_ok-second.ensures.counted
    (passed_then (found_settles 9 2 (first_foreign (decode_interface a.interface1.now) a.graph1.now)) c.in_ok-check_own.ensures
    (passed_then (found_settles 9 4 (first_foreign (decode_interface a.interface2.now) a.graph2.now)) c.in_ok-check_own-2.ensures
    (hands_on (whole_settles 9 (shares (decode_interface a.interface1.now) (decode_interface a.interface2.now))) c.in_ok-check_apart.ensures))))))
