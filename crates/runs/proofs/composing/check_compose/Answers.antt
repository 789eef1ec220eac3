-- Each check settles its numbers, in the published order; 9, 16 and 10 are asked where the files before them are accepted; the graph's check hands its view on.
use mathlib.Core.Bool.{◌||◌}
use Rattle.files.specs.Decode.{decode_graph, decode_interface}
use Rattle.files.specs.Interface.{united}
use Rattle.files.specs.Outcome.{short, no_start}
use Rattle.files.specs.Refusal.{property, rules, interface}
use Rattle.files.specs.Settling.Laws.{whole_settles, found_settles, file_settles, graph_settles, passed_then, refused_then, hands_on, handed_on}
use Rattle.files.specs.Sides.{first_foreign, shares, lacks_entry, unprovided}
use Rattle.files.specs.View.{accepted_interface}
use Rattle.runs.specs.Composing.{compose_store, compose_work}
use Rattle.runs.proofs.composing.check_compose.Goals as goal

pub returns-in_err-check-clause-settles : goal.returns-in_err-check-clause-settles
returns-in_err-check-clause-settles c =
    let a = c.args in
    passed_then (whole_settles 13 (short compose_store a.store || short compose_work a.work)) c.in_ok-refuse_if.ensures
    (refused_then (file_settles a.limits 1 interface a.known.now) c.in_err-check.ensures (handed_on _ c.from_residual-in_err-check.ensures.1))

pub returns-in_err-view-clause-settles : goal.returns-in_err-view-clause-settles
returns-in_err-view-clause-settles c =
    let a = c.args in
    passed_then (whole_settles 13 (short compose_store a.store || short compose_work a.work)) c.in_ok-refuse_if.ensures
    (passed_then (file_settles a.limits 1 interface a.known.now) c.in_ok-check.ensures
    (refused_then (graph_settles a.limits 2 a.graph.now) c.in_err-view.ensures.counted (handed_on _ c.from_residual-in_err-view.ensures.1)))

pub returns-in_err-check-2-clause-settles : goal.returns-in_err-check-2-clause-settles
returns-in_err-check-2-clause-settles c =
    let a = c.args in
    passed_then (whole_settles 13 (short compose_store a.store || short compose_work a.work)) c.in_ok-refuse_if.ensures
    (passed_then (file_settles a.limits 1 interface a.known.now) c.in_ok-check.ensures
    (passed_then (graph_settles a.limits 2 a.graph.now) c.in_ok-view.ensures.counted
    (refused_then (file_settles a.limits 3 interface a.other.now) c.in_err-check-2.ensures (handed_on _ c.from_residual-in_err-check-2.ensures.1))))

pub returns-in_err-check-3-clause-settles : goal.returns-in_err-check-3-clause-settles
returns-in_err-check-3-clause-settles c =
    let a = c.args in
    passed_then (whole_settles 13 (short compose_store a.store || short compose_work a.work)) c.in_ok-refuse_if.ensures
    (passed_then (file_settles a.limits 1 interface a.known.now) c.in_ok-check.ensures
    (passed_then (graph_settles a.limits 2 a.graph.now) c.in_ok-view.ensures.counted
    (passed_then (file_settles a.limits 3 interface a.other.now) c.in_ok-check-2.ensures
    (refused_then (file_settles a.limits 4 property a.property.now) c.in_err-check-3.ensures (handed_on _ c.from_residual-in_err-check-3.ensures.1)))))

pub returns-in_err-check-4-clause-settles : goal.returns-in_err-check-4-clause-settles
returns-in_err-check-4-clause-settles c =
    let a = c.args in
    passed_then (whole_settles 13 (short compose_store a.store || short compose_work a.work)) c.in_ok-refuse_if.ensures
    (passed_then (file_settles a.limits 1 interface a.known.now) c.in_ok-check.ensures
    (passed_then (graph_settles a.limits 2 a.graph.now) c.in_ok-view.ensures.counted
    (passed_then (file_settles a.limits 3 interface a.other.now) c.in_ok-check-2.ensures
    (passed_then (file_settles a.limits 4 property a.property.now) c.in_ok-check-3.ensures
    (refused_then (file_settles a.limits 5 rules a.rules.now) c.in_err-check-4.ensures (handed_on _ c.from_residual-in_err-check-4.ensures.1))))))

pub returns-in_err-refuse_if-2-clause-settles : goal.returns-in_err-refuse_if-2-clause-settles
returns-in_err-refuse_if-2-clause-settles c =
    let a = c.args in
    passed_then (whole_settles 13 (short compose_store a.store || short compose_work a.work)) c.in_ok-refuse_if.ensures
    (passed_then (file_settles a.limits 1 interface a.known.now) c.in_ok-check.ensures
    (passed_then (graph_settles a.limits 2 a.graph.now) c.in_ok-view.ensures.counted
    (passed_then (file_settles a.limits 3 interface a.other.now) c.in_ok-check-2.ensures
    (passed_then (file_settles a.limits 4 property a.property.now) c.in_ok-check-3.ensures
    (passed_then (file_settles a.limits 5 rules a.rules.now) c.in_ok-check-4.ensures
    (refused_then (whole_settles 3 (no_start a.start)) c.in_err-refuse_if-2.ensures (handed_on _ c.from_residual-in_err-refuse_if-2.ensures.1)))))))

pub returns-in_err-check_own-clause-settles : goal.returns-in_err-check_own-clause-settles
returns-in_err-check_own-clause-settles c =
    let a = c.args in
    passed_then (whole_settles 13 (short compose_store a.store || short compose_work a.work)) c.in_ok-refuse_if.ensures
    (passed_then (file_settles a.limits 1 interface a.known.now) c.in_ok-check.ensures
    (passed_then (graph_settles a.limits 2 a.graph.now) c.in_ok-view.ensures.counted
    (passed_then (file_settles a.limits 3 interface a.other.now) c.in_ok-check-2.ensures
    (passed_then (file_settles a.limits 4 property a.property.now) c.in_ok-check-3.ensures
    (passed_then (file_settles a.limits 5 rules a.rules.now) c.in_ok-check-4.ensures
    (passed_then (whole_settles 3 (no_start a.start)) c.in_ok-refuse_if-2.ensures
    (refused_then (found_settles 9 2 (first_foreign (decode_interface a.known.now) a.graph.now)) c.in_err-check_own.ensures (handed_on _ c.from_residual-in_err-check_own.ensures.1))))))))

pub returns-in_err-check_apart-clause-settles : goal.returns-in_err-check_apart-clause-settles
returns-in_err-check_apart-clause-settles c =
    let a = c.args in
    passed_then (whole_settles 13 (short compose_store a.store || short compose_work a.work)) c.in_ok-refuse_if.ensures
    (passed_then (file_settles a.limits 1 interface a.known.now) c.in_ok-check.ensures
    (passed_then (graph_settles a.limits 2 a.graph.now) c.in_ok-view.ensures.counted
    (passed_then (file_settles a.limits 3 interface a.other.now) c.in_ok-check-2.ensures
    (passed_then (file_settles a.limits 4 property a.property.now) c.in_ok-check-3.ensures
    (passed_then (file_settles a.limits 5 rules a.rules.now) c.in_ok-check-4.ensures
    (passed_then (whole_settles 3 (no_start a.start)) c.in_ok-refuse_if-2.ensures
    (passed_then (found_settles 9 2 (first_foreign (decode_interface a.known.now) a.graph.now)) c.in_ok-check_own.ensures
    (refused_then (whole_settles 9 (shares (decode_interface a.known.now) (decode_interface a.other.now))) c.in_err-check_apart.ensures (handed_on _ c.from_residual-in_err-check_apart.ensures.1)))))))))

pub returns-in_err-check_entered-clause-settles : goal.returns-in_err-check_entered-clause-settles
returns-in_err-check_entered-clause-settles c =
    let a = c.args in
    passed_then (whole_settles 13 (short compose_store a.store || short compose_work a.work)) c.in_ok-refuse_if.ensures
    (passed_then (file_settles a.limits 1 interface a.known.now) c.in_ok-check.ensures
    (passed_then (graph_settles a.limits 2 a.graph.now) c.in_ok-view.ensures.counted
    (passed_then (file_settles a.limits 3 interface a.other.now) c.in_ok-check-2.ensures
    (passed_then (file_settles a.limits 4 property a.property.now) c.in_ok-check-3.ensures
    (passed_then (file_settles a.limits 5 rules a.rules.now) c.in_ok-check-4.ensures
    (passed_then (whole_settles 3 (no_start a.start)) c.in_ok-refuse_if-2.ensures
    (passed_then (found_settles 9 2 (first_foreign (decode_interface a.known.now) a.graph.now)) c.in_ok-check_own.ensures
    (passed_then (whole_settles 9 (shares (decode_interface a.known.now) (decode_interface a.other.now))) c.in_ok-check_apart.ensures
    (refused_then (whole_settles 16 (lacks_entry (decode_interface a.known.now) (decode_graph a.graph.now))) c.in_err-check_entered.ensures (handed_on _ c.from_residual-in_err-check_entered.ensures.1))))))))))

pub returns-in_err-check_united-clause-settles : goal.returns-in_err-check_united-clause-settles
returns-in_err-check_united-clause-settles c =
    let a = c.args in
    passed_then (whole_settles 13 (short compose_store a.store || short compose_work a.work)) c.in_ok-refuse_if.ensures
    (passed_then (file_settles a.limits 1 interface a.known.now) c.in_ok-check.ensures
    (passed_then (graph_settles a.limits 2 a.graph.now) c.in_ok-view.ensures.counted
    (passed_then (file_settles a.limits 3 interface a.other.now) c.in_ok-check-2.ensures
    (passed_then (file_settles a.limits 4 property a.property.now) c.in_ok-check-3.ensures
    (passed_then (file_settles a.limits 5 rules a.rules.now) c.in_ok-check-4.ensures
    (passed_then (whole_settles 3 (no_start a.start)) c.in_ok-refuse_if-2.ensures
    (passed_then (found_settles 9 2 (first_foreign (decode_interface a.known.now) a.graph.now)) c.in_ok-check_own.ensures
    (passed_then (whole_settles 9 (shares (decode_interface a.known.now) (decode_interface a.other.now))) c.in_ok-check_apart.ensures
    (passed_then (whole_settles 16 (lacks_entry (decode_interface a.known.now) (decode_graph a.graph.now))) c.in_ok-check_entered.ensures
    (refused_then (whole_settles 10 (unprovided (united (decode_interface a.known.now) (decode_interface a.other.now)) a.start)) c.in_err-check_united.ensures (handed_on _ c.from_residual-in_err-check_united.ensures.1)))))))))))

pub check_own-requires : goal.check_own-requires
check_own-requires c = (c.in_ok-view.ensures.views.graph_file, accepted_interface c.args.limits c.args.known.now 1 c.in_ok-check.ensures)

pub check_apart-requires : goal.check_apart-requires
check_apart-requires c =
    let a = c.args in
    (accepted_interface a.limits a.known.now 1 c.in_ok-check.ensures, accepted_interface a.limits a.other.now 3 c.in_ok-check-2.ensures)

pub check_entered-requires : goal.check_entered-requires
check_entered-requires c =
    let views = c.in_ok-view.ensures.views in
    (accepted_interface c.args.limits c.args.known.now 1 c.in_ok-check.ensures, (views.graph_file, views.nodes_are))

pub check_united-requires : goal.check_united-requires
check_united-requires c =
    let a = c.args in
    (accepted_interface a.limits a.known.now 1 c.in_ok-check.ensures, accepted_interface a.limits a.other.now 3 c.in_ok-check-2.ensures)

pub returns-clause-settles : goal.returns-clause-settles
returns-clause-settles c =
    let a = c.args in
    passed_then (whole_settles 13 (short compose_store a.store || short compose_work a.work)) c.in_ok-refuse_if.ensures
    (passed_then (file_settles a.limits 1 interface a.known.now) c.in_ok-check.ensures
    (passed_then (graph_settles a.limits 2 a.graph.now) c.in_ok-view.ensures.counted
    (passed_then (file_settles a.limits 3 interface a.other.now) c.in_ok-check-2.ensures
    (passed_then (file_settles a.limits 4 property a.property.now) c.in_ok-check-3.ensures
    (passed_then (file_settles a.limits 5 rules a.rules.now) c.in_ok-check-4.ensures
    (passed_then (whole_settles 3 (no_start a.start)) c.in_ok-refuse_if-2.ensures
    (passed_then (found_settles 9 2 (first_foreign (decode_interface a.known.now) a.graph.now)) c.in_ok-check_own.ensures
    (passed_then (whole_settles 9 (shares (decode_interface a.known.now) (decode_interface a.other.now))) c.in_ok-check_apart.ensures
    (passed_then (whole_settles 16 (lacks_entry (decode_interface a.known.now) (decode_graph a.graph.now))) c.in_ok-check_entered.ensures
    (hands_on (whole_settles 10 (unprovided (united (decode_interface a.known.now) (decode_interface a.other.now)) a.start)) c.in_ok-check_united.ensures))))))))))
