use native.Mathlib.Omega.{arith}
use Rattle.files.specs.Decode.{decode_graph, decode_rules}
use Rattle.files.specs.Rules.{watch}
use Rattle.runs.specs.Searching.Trace.{says_zero, says_item, trail_small}
use Rattle.runs.specs.Watching.Work.{clean_told, bad_short, bad_told}
use Rattle.runs.proofs.watching.tell.Goals as goal

pub returns-then-i-eq0 : goal.returns-then-i-eq0
returns-then-i-eq0 c =
    let a = c.args in
    clean_told (decode_graph a.graph.now) (watch (decode_rules a.rules.now)) a.start a.out.now
    (says_zero (decode_graph a.graph.now) (watch (decode_rules a.rules.now)) a.start a.i a.work.now c.requires.0 c.if-i-eq0.true)

pub overflow_mul-n : goal.overflow_mul-n
overflow_mul-n c =
    let a = c.args in
    let t = (says_item (decode_graph a.graph.now) (watch (decode_rules a.rules.now)) a.start a.i a.work.now c.requires.0 c.if-i-eq0.false).1 in
    omega (arith, c.count_records-n.ensures, trail_small (decode_graph a.graph.now) (watch (decode_rules a.rules.now)) a.start a.i a.work.now t)

pub returns-then-out-n : goal.returns-then-out-n
returns-then-out-n c =
    let a = c.args in
    let b = says_item (decode_graph a.graph.now) (watch (decode_rules a.rules.now)) a.start a.i a.work.now c.requires.0 c.if-i-eq0.false in
    bad_short (decode_graph a.graph.now) (watch (decode_rules a.rules.now)) a.start a.out.now b.0 c.count_records-n.result
    c.count_records-n.ensures c.if-out-n.true c.whole.result c.whole.ensures

pub returns : goal.returns
returns c =
    let a = c.args in
    let n = c.count_records-n in
    let w = c.write_trail in
    let b = says_item (decode_graph a.graph.now) (watch (decode_rules a.rules.now)) a.start a.i a.work.now c.requires.0 c.if-i-eq0.false in
    bad_told (decode_graph a.graph.now) (watch (decode_rules a.rules.now)) a.start a.out.now b.0 n.result n.ensures
    (omega (arith, c.if-out-n.false)) w.new.out w.ensures
