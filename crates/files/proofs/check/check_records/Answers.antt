-- A file that is plainly in order and within the limits is accepted, as no number applies; of any other the steps from number 2 on tell.
use mathlib.Core.Path.{sym, ◌∙◌}
use borrow.Author.Tests.{eq-eqb, not-true}
use Rattle.files.specs.Plain.Laws.{plain_accepted}
use Rattle.files.specs.Refusal.{graph}
use Rattle.files.proofs.CheckLaws.{one_whole}
use Rattle.files.proofs.check.check_records.Goals as goal

pub returns-then-plain_edges : goal.returns-then-plain_edges
returns-then-plain_edges c =
    let a = c.args in
    let m = c.leading_nodes-nodes in
    let edges = c.plain_edges.ensures (rw c.if-plain_edges.true tt) in
    let within = sym c.over.ensures ∙ not-true _ c.if-not-over.true-raw in
    plain_accepted a.file.now m.result m.ensures.0 m.ensures.1 edges a.limits c.requires within a.position

pub returns : goal.returns
returns c =
    c.from_two.ensures ∙ one_whole c.args.limits graph c.args.file.now 0 c.args.position (eq-eqb _ _ c.requires)
