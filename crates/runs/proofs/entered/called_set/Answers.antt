use mathlib.Core.Path.{sym, subst}
use Prim.Native.Nat.{◌+◌}
use native.Mathlib.Omega.{arith}
use lib.ListN.{get_or}
use Rattle.files.specs.Decode.{decode_graph, decode_rules}
use Rattle.files.specs.Graph.{no_edge}
use Rattle.files.specs.Rules.{watch}
use Rattle.runs.specs.Prepared.Files.{labels_small}
use Rattle.runs.proofs.SummaryLaws.{node_in, member_edge, label_is}
use Rattle.runs.proofs.SearchLaws.{edge_owned, first_is, last_is, first_last, CalledTo, called_none, called_more, called_same, called_all}
use Rattle.runs.proofs.entered.called_set.Goals as goal
use Rattle.runs.proofs.entered.called_set.Goals.{else-e-gt0, then-e-gt0}

pub loop-j-init : goal.loop-j-init
loop-j-init c =
    let a = c.args in
    let hn = node_in a.s a.graph.now a.rules.now c.requires.0 a.g c.requires.1.0 in
    let f = first_is a.s a.graph.now a.rules.now c.requires.0 a.g a.work.now hn _ c.requires.1.1.1 c.get-first.ensures in (
      omega (arith, f),
      called_none (decode_graph a.graph.now) (watch (decode_rules a.rules.now))
          a.g _ f,
    )

pub edge_at-e-requires : goal.edge_at-e-requires
edge_at-e-requires c =
    let a = c.args in
    let l = c.loop-j in
    let hn = node_in a.s a.graph.now a.rules.now c.requires.0 a.g c.requires.1.0 in
    let d = edge_owned a.s a.graph.now a.rules.now c.requires.0 a.g a.work.now hn _ l.j c.requires.1.1.1 c.get-last.ensures l.invariant.0 c.loop-j-test.true in
    (c.requires.0.held.views.graph_file, c.requires.0.held.views.nodes_are, omega (arith, d.0, c.requires.0.held.views.edges_are, c.requires.0.held.views.nodes_are))

pub one_state-set-requires : goal.one_state-set-requires
one_state-set-requires c =
    let a = c.args in
    let l = c.loop-j in
    let hn = node_in a.s a.graph.now a.rules.now c.requires.0 a.g c.requires.1.0 in
    let d = edge_owned a.s a.graph.now a.rules.now c.requires.0 a.g a.work.now hn _ l.j c.requires.1.1.1 c.get-last.ensures l.invariant.0 c.loop-j-test.true in
    let h = c.edge_at-e.ensures in
    let lab = label_is a.s a.graph.now a.rules.now c.requires.0 l.j d.0 _ h in
    omega (
      arith,
      lab,
      labels_small a.s a.graph.now a.rules.now c.requires.0 (get_or (decode_graph a.graph.now).edges l.j no_edge)
          (member_edge a.s a.graph.now a.rules.now c.requires.0 l.j d.0),
    )

pub loop-j-preserved : goal.loop-j-preserved
loop-j-preserved c =
    let a = c.args in
    let l = c.loop-j in
    let hn = node_in a.s a.graph.now a.rules.now c.requires.0 a.g c.requires.1.0 in
    let d = edge_owned a.s a.graph.now a.rules.now c.requires.0 a.g a.work.now hn _ l.j c.requires.1.1.1 c.get-last.ensures l.invariant.0 c.loop-j-test.true in
    let h = c.edge_at-e.ensures in
    let lab = label_is a.s a.graph.now a.rules.now c.requires.0 l.j d.0 _ h in (
      omega (arith, l.invariant.0),
      elim c.if-e-gt0.branch [
        | then-e-gt0 w ↦ subst (CalledTo (decode_graph a.graph.now) (watch (decode_rules a.rules.now)) a.g (l.j + 1)) (sym w.set-is)
            (called_more (decode_graph a.graph.now) (watch (decode_rules a.rules.now)) a.g l.j l.set l.invariant.0 l.invariant.1 _ w.one_state-set.result lab w.if-e-gt0.true w.one_state-set.ensures)
        | else-e-gt0 w ↦ subst (CalledTo (decode_graph a.graph.now) (watch (decode_rules a.rules.now)) a.g (l.j + 1)) (sym w.set-is)
            (called_same (decode_graph a.graph.now) (watch (decode_rules a.rules.now)) a.g l.j l.set l.invariant.0 l.invariant.1 _ lab (omega (arith, w.if-e-gt0.false)))
      ],
    )

pub returns : goal.returns
returns c =
    let a = c.args in
    let l = c.loop-j in
    let hn = node_in a.s a.graph.now a.rules.now c.requires.0 a.g c.requires.1.0 in
    let e = last_is a.s a.graph.now a.rules.now c.requires.0 a.g a.work.now hn _ c.requires.1.1.1 c.get-last.ensures in
    let f = first_is a.s a.graph.now a.rules.now c.requires.0 a.g a.work.now hn _ c.requires.1.1.1 c.get-first.ensures in
    called_all (decode_graph a.graph.now) (watch (decode_rules a.rules.now)) a.g l.j l.set (omega (arith, e, c.loop-j.auto.j-end (omega (arith, f, e, first_last a.s a.graph.now a.rules.now c.requires.0 a.g)), c.loop-j-test.false)) l.invariant.1
