use native.Mathlib.Omega.{arith}
use Rattle.files.specs.Decode.{decode_graph, decode_rules}
use Rattle.files.specs.Rules.{watch}
use Rattle.runs.specs.Prepared.Files.{is_flow, labels_small, monitor_small}
use Rattle.runs.specs.Searching.Ends.{start_may, turn_first}
use Rattle.runs.proofs.Theorems.Searching.Ends.{says_bad, says_clean}
use Rattle.runs.proofs.SearchLaws.{item_few, item_reads, bad_there}
use Rattle.runs.proofs.search.search.Goals as goal

pub look_starts-end-requires : goal.look_starts-end-requires
look_starts-end-requires c =
    let a = c.args in
    (c.requires.0, start_may (decode_graph a.graph.now) (watch (decode_rules a.rules.now)) a.start a.work.now c.requires.1.1.0 c.requires.1.1.1.0 c.requires.1.1.1.1)

pub loop-head-init : goal.loop-head-init
loop-head-init c =
    let a = c.args in
    let x = c.look_starts-end in
    turn_first (decode_graph a.graph.now) (watch (decode_rules a.rules.now)) a.start a.work.now c.requires.1.1.0 c.requires.1.1.1.0 c.requires.1.1.1.1 x.result
    x.new.work x.ensures

pub overflow_mul-head : goal.overflow_mul-head
overflow_mul-head c =
    let a = c.args in
    let l = c.loop-head in
    omega (arith, item_few a.s a.graph.now a.rules.now c.requires.0 a.start l.head l.end l.work l.invariant c.loop-head-test.true)

pub overflow_add-head : goal.overflow_add-head
overflow_add-head c =
    let a = c.args in
    let l = c.loop-head in
    omega (arith, item_few a.s a.graph.now a.rules.now c.requires.0 a.start l.head l.end l.work l.invariant c.loop-head-test.true)

pub bounds-work-head : goal.bounds-work-head
bounds-work-head c =
    let a = c.args in
    let l = c.loop-head in
    omega (arith, item_reads a.s a.graph.now a.rules.now c.requires.0 a.start l.head l.end l.work l.invariant c.loop-head-test.true)

pub returns-then-work-head-eq7 : goal.returns-then-work-head-eq7
returns-then-work-head-eq7 c =
    let a = c.args in
    let l = c.loop-head in
    says_bad (decode_graph a.graph.now) (watch (decode_rules a.rules.now)) a.start (is_flow a.s a.graph.now a.rules.now c.requires.0)
    (labels_small a.s a.graph.now a.rules.now c.requires.0) (monitor_small a.s a.graph.now a.rules.now c.requires.0) l.head l.end l.work l.invariant
    c.loop-head-test.true (bad_there a.s a.graph.now a.rules.now c.requires.0 a.start l.head l.end l.work l.invariant c.loop-head-test.true
    c.if-work-head-eq7.true)

pub loop-head-smaller : goal.loop-head-smaller
loop-head-smaller c =
    let a = c.args in
    let l = c.loop-head in
    omega (
      arith,
      item_few a.s a.graph.now a.rules.now c.requires.0 a.start l.head l.end l.work l.invariant
          c.loop-head-test.true,
    )

pub returns : goal.returns
returns c =
    let a = c.args in
    let l = c.loop-head in
    says_clean (decode_graph a.graph.now) (watch (decode_rules a.rules.now)) a.start (is_flow a.s a.graph.now a.rules.now c.requires.0)
    (labels_small a.s a.graph.now a.rules.now c.requires.0) (monitor_small a.s a.graph.now a.rules.now c.requires.0) l.head l.end l.work l.invariant
    (omega (arith, c.loop-head-test.false))
