-- The store then holds an accepted graph file, and the verdict on it is that on the standing graph.
use lib.ListN.{length}
use Rattle.files.specs.Assemble.{standing_graph}
use Rattle.files.specs.Deliveries.Met.{accepted_issues}
use Rattle.files.specs.View.Stored.{stored_accepted, stored_views}
use Rattle.judging.proofs.DecideLaws.{both_ready}
use Rattle.judging.specs.Delivered.Work.{standing_filed, delivered_told}
use Rattle.judging.proofs.delivered.judge_standing.Goals as goal

pub latest_openings-kept-requires : goal.latest_openings-kept-requires
latest_openings-kept-requires c =
    accepted_issues c.args.limits c.args.deliveries.now c.requires.1.taken.no_number

pub decide-requires : goal.decide-requires
decide-requires c =
    let a = c.args in
    let l = a.deliveries.now in
    let x = c.standing_view-view.ensures in
    let put = c.write_standing.ensures in
    let filed = standing_filed a.limits l a.property.now c.requires.1.taken x c.if-limits-view.false in (
      both_ready a.limits c.requires.0 _ a.property.now (stored_accepted (standing_graph l) x.nodes_are x.edges_are a.store.now put a.limits filed) c.requires.1.property_within _
          (stored_views (standing_graph l) x.nodes_are x.edges_are a.store.now put a.limits filed),
      c.requires.1.work_long,
    )

pub returns : goal.returns
returns c =
    let a = c.args in
    let x = c.standing_view-view.ensures in
    delivered_told a.limits a.deliveries.now a.property.now c.requires.1.taken x c.if-limits-view.false a.store.now c.write_standing.ensures a.out.now (length a.store.now) (length a.work.now)
    c.decide.ensures
