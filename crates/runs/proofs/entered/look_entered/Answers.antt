use mathlib.Core.Path.{refl, sym, subst₂}
use Prim.Native.Nat.{◌+◌}
use native.Mathlib.Omega.{arith}
use Rattle.files.specs.Basics.Lists.{span}
use Rattle.files.specs.Decode.{decode_graph, decode_rules}
use Rattle.files.specs.Graph.{size}
use Rattle.files.specs.Rules.{watch}
use Rattle.runs.specs.Searching.{place, entry_recs, entered_at}
use Rattle.runs.specs.Searching.Looks.{may_same}
use Rattle.runs.specs.Searching.Outgoing.{entereds_out}
use Rattle.runs.proofs.SearchLaws.{Upto, series_here, series_end, one_may, one_looked, the_entereds, entereds_next, looked_named, looked_none, is_called, entered_list, entered_none}
use Rattle.runs.proofs.entered.look_entered.Goals as goal
use Rattle.runs.proofs.entered.look_entered.Goals.{else-has_state, then-has_state}

pub enter-end-requires : goal.enter-end-requires
enter-end-requires c =
    let a = c.args in
    let l = c.loop-l in
    let h = c.loop-l-test.true in
    let o = entereds_next (decode_graph a.graph.now) (watch (decode_rules a.rules.now)) a.start (place a.g a.q) l.l h in (
      c.requires.0,
      (
        l.auto.l,
        (
          omega (arith, h),
          (
            is_called (decode_graph a.graph.now) (watch (decode_rules a.rules.now)) a.g a.q l.l a.set c.requires.1.0 l.auto.l h c.has_state.result c.has_state.ensures c.if-has_state.true,
            (
              series_here (decode_graph a.graph.now) (watch (decode_rules a.rules.now)) a.start a.head (the_entereds (decode_graph a.graph.now) (watch (decode_rules a.rules.now)) a.start (place a.g a.q)) a.tail a.work.now l.l l.work l.end l.invariant (place a.g a.q) c.requires.1.1.0,
              may_same (decode_graph a.graph.now) (watch (decode_rules a.rules.now)) a.start a.head (entered_at (decode_graph a.graph.now) (watch (decode_rules a.rules.now)) (place a.g a.q) l.l) (entry_recs (decode_graph a.graph.now) (watch (decode_rules a.rules.now)) (place a.g a.q) l.l (span 0 (size (decode_graph a.graph.now)))) l.end l.work (entered_list (decode_graph a.graph.now) (watch (decode_rules a.rules.now)) a.g a.q l.l a.set c.requires.1.0 l.auto.l h c.has_state.result c.has_state.ensures c.if-has_state.true) (one_may (decode_graph a.graph.now) (watch (decode_rules a.rules.now)) a.start a.head (the_entereds (decode_graph a.graph.now) (watch (decode_rules a.rules.now)) a.start (place a.g a.q)) a.tail a.work.now l.l l.work l.end l.invariant o c.requires.1.1.1),
            ),
          ),
        ),
      ),
    )

pub loop-l-preserved : goal.loop-l-preserved
loop-l-preserved c =
    let a = c.args in
    let l = c.loop-l in
    let h = c.loop-l-test.true in
    let b = c.has_state in
    let on = one_looked (decode_graph a.graph.now) (watch (decode_rules a.rules.now)) a.start a.head (the_entereds (decode_graph a.graph.now) (watch (decode_rules a.rules.now)) a.start (place a.g a.q)) a.tail a.work.now l.l l.work l.end l.invariant (entereds_next (decode_graph a.graph.now) (watch (decode_rules a.rules.now)) a.start (place a.g a.q) l.l h) in
    let to = Upto (decode_graph a.graph.now) (watch (decode_rules a.rules.now)) a.start a.head (the_entereds (decode_graph a.graph.now) (watch (decode_rules a.rules.now)) a.start (place a.g a.q)) (l.l + 1) a.tail a.work.now in
    elim c.if-has_state.branch [
      | then-has_state w ↦ subst₂ to (sym w.work-is) (sym w.end-is) (on w.enter-end.result w.enter-end.new.work w.enter-end.auto.work
          (looked_named (decode_graph a.graph.now) (watch (decode_rules a.rules.now)) a.start a.head (entered_at (decode_graph a.graph.now) (watch (decode_rules a.rules.now)) (place a.g a.q) l.l) (entry_recs (decode_graph a.graph.now) (watch (decode_rules a.rules.now)) (place a.g a.q) l.l (span 0 (size (decode_graph a.graph.now)))) l.end w.enter-end.result l.work w.enter-end.new.work (entered_list (decode_graph a.graph.now) (watch (decode_rules a.rules.now)) a.g a.q l.l a.set c.requires.1.0 l.auto.l h b.result b.ensures w.if-has_state.true) w.enter-end.ensures))
      | else-has_state w ↦ subst₂ to (sym w.work-is) (sym w.end-is) (on l.end l.work refl (looked_none (decode_graph a.graph.now) (watch (decode_rules a.rules.now)) a.start a.head (entered_at (decode_graph a.graph.now) (watch (decode_rules a.rules.now)) (place a.g a.q) l.l) l.end l.work (entered_none (decode_graph a.graph.now) (watch (decode_rules a.rules.now)) a.g a.q l.l a.set c.requires.1.0 l.auto.l h b.result b.ensures w.if-has_state.false)))
    ]

pub returns : goal.returns
returns c =
    let a = c.args in
    let l = c.loop-l in
    series_end (decode_graph a.graph.now) (watch (decode_rules a.rules.now)) a.start a.head (the_entereds (decode_graph a.graph.now) (watch (decode_rules a.rules.now)) a.start (place a.g a.q)) a.tail a.work.now l.l l.work l.end l.invariant (entereds_out (decode_graph a.graph.now) (watch (decode_rules a.rules.now)) a.start (place a.g a.q) l.l (omega (arith, c.loop-l-test.false)))
