use mathlib.Core.Path.{refl, sym, subst₂}
use Prim.Native.Nat.{◌+◌}
use native.Mathlib.Omega.{arith}
use Rattle.files.specs.Decode.{decode_graph, decode_rules}
use Rattle.files.specs.Rules.{watch}
use Rattle.runs.specs.Searching.{place}
use Rattle.runs.specs.Searching.Outgoing.{states_out}
use Rattle.runs.proofs.SearchLaws.{Upto, series_here, series_end, one_may, one_looked, the_states, states_next, may_pass, did_pass, no_state}
use Rattle.runs.proofs.passed.look_states.Goals as goal
use Rattle.runs.proofs.passed.look_states.Goals.{else-has_state, then-has_state}

pub push-end-requires : goal.push-end-requires
push-end-requires c =
    let a = c.args in
    let l = c.loop-r in
    let o = states_next (decode_graph a.graph.now) (watch (decode_rules a.rules.now)) a.start (place a.g a.q) a.j l.r c.loop-r-test.true in
    let at = series_here (decode_graph a.graph.now) (watch (decode_rules a.rules.now)) a.start a.head (the_states (decode_graph a.graph.now) (watch (decode_rules a.rules.now)) a.start (place a.g a.q) a.j) a.tail a.work.now l.r l.work l.end l.invariant (place a.g a.q) c.requires.1.1.1.1.1.1.1.0 in
    let may = one_may (decode_graph a.graph.now) (watch (decode_rules a.rules.now)) a.start a.head (the_states (decode_graph a.graph.now) (watch (decode_rules a.rules.now)) a.start (place a.g a.q) a.j) a.tail a.work.now l.r l.work l.end l.invariant o c.requires.1.1.1.1.1.1.1.1 in
    may_pass a.s a.graph.now a.rules.now c.requires.0 a.start a.head l.end l.work a.g a.q at a.j c.requires.1.0 c.requires.1.1.0 a.label a.to a.ends c.requires.1.1.1.0 c.requires.1.1.1.1.0 c.requires.1.1.1.1.1.0 c.requires.1.1.1.1.1.1.0 l.r c.loop-r-test.true
    c.has_state.result c.has_state.ensures c.if-has_state.true may

pub loop-r-preserved : goal.loop-r-preserved
loop-r-preserved c =
    let a = c.args in
    let l = c.loop-r in
    let o = states_next (decode_graph a.graph.now) (watch (decode_rules a.rules.now)) a.start (place a.g a.q) a.j l.r c.loop-r-test.true in
    let at = series_here (decode_graph a.graph.now) (watch (decode_rules a.rules.now)) a.start a.head (the_states (decode_graph a.graph.now) (watch (decode_rules a.rules.now)) a.start (place a.g a.q) a.j) a.tail a.work.now l.r l.work l.end l.invariant (place a.g a.q) c.requires.1.1.1.1.1.1.1.0 in
    let may = one_may (decode_graph a.graph.now) (watch (decode_rules a.rules.now)) a.start a.head (the_states (decode_graph a.graph.now) (watch (decode_rules a.rules.now)) a.start (place a.g a.q) a.j) a.tail a.work.now l.r l.work l.end l.invariant o c.requires.1.1.1.1.1.1.1.1 in
    let to = Upto (decode_graph a.graph.now) (watch (decode_rules a.rules.now)) a.start a.head (the_states (decode_graph a.graph.now) (watch (decode_rules a.rules.now)) a.start (place a.g a.q) a.j) (l.r + 1) a.tail a.work.now in
    let on = one_looked (decode_graph a.graph.now) (watch (decode_rules a.rules.now)) a.start a.head (the_states (decode_graph a.graph.now) (watch (decode_rules a.rules.now)) a.start (place a.g a.q) a.j) a.tail a.work.now l.r l.work l.end l.invariant o in
    let h = c.loop-r-test.true in
    let b = c.has_state in
    elim c.if-has_state.branch [
      | then-has_state w ↦ subst₂ to (sym w.work-is) (sym w.end-is) (on w.push-end.result w.push-end.new.work w.push-end.auto.work
          (did_pass a.s a.graph.now a.rules.now c.requires.0 a.start a.head l.end l.work a.g a.q at a.j c.requires.1.0 c.requires.1.1.0 a.label a.to a.ends c.requires.1.1.1.0 c.requires.1.1.1.1.0 c.requires.1.1.1.1.1.0 c.requires.1.1.1.1.1.1.0 l.r h b.result b.ensures w.if-has_state.true may w.push-end.result w.push-end.new.work w.push-end.ensures))
      | else-has_state w ↦ subst₂ to (sym w.work-is) (sym w.end-is) (on l.end l.work refl
          (no_state a.s a.graph.now a.rules.now c.requires.0 a.start a.head l.end l.work a.g a.q at a.j c.requires.1.0 c.requires.1.1.0 a.label a.to a.ends c.requires.1.1.1.0 c.requires.1.1.1.1.0 c.requires.1.1.1.1.1.0 c.requires.1.1.1.1.1.1.0 l.r h b.result b.ensures w.if-has_state.false))
    ]

pub returns : goal.returns
returns c =
    let a = c.args in
    let l = c.loop-r in
    series_end (decode_graph a.graph.now) (watch (decode_rules a.rules.now)) a.start a.head (the_states (decode_graph a.graph.now) (watch (decode_rules a.rules.now)) a.start (place a.g a.q) a.j) a.tail a.work.now l.r l.work l.end l.invariant (states_out (decode_graph a.graph.now) (watch (decode_rules a.rules.now)) a.start (place a.g a.q) a.j l.r (omega (arith, c.loop-r-test.false)))
