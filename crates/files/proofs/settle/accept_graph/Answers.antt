-- What the check counted is the view, where the graph is accepted.
use Rattle.std.proofs.Common.{sym}
use Rattle.files.specs.View.{accepted_views}
use Rattle.files.proofs.settle.accept_graph.Goals as goal

pub overflow_sub-result : goal.overflow_sub-result
overflow_sub-result c =
    let a = c.args in
    (accepted_views a.limits a.file.now a.position _ _ (sym c.in_ok-counted.ensures)).0

pub returns-clause-views : goal.returns-clause-views
returns-clause-views c =
    let a = c.args in
    (accepted_views a.limits a.file.now a.position _ _ (sym c.in_ok-counted.ensures)).1
