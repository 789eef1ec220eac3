use native.Mathlib.Omega.{arith}
use Rattle.files.specs.Decode.{decode_graph, decode_rules}
use Rattle.files.specs.Rules.{watch}
use Rattle.runs.specs.Searching.Trace.{counting_next}
use Rattle.runs.proofs.trail.count_records.Goals as goal

pub loop-at-preserved : goal.loop-at-preserved
loop-at-preserved c =
    let a = c.args in
    let l = c.loop-at in
    counting_next (decode_graph a.graph.now) (watch (decode_rules a.rules.now)) a.start a.i a.work.now l.at l.n c.get-at.result l.invariant (omega (arith, c.loop-at-test.true)) c.get-at.ensures
