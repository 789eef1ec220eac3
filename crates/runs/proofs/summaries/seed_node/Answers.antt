use Prim.Native.Nat.{ℕ}
use native.Mathlib.Nat.{lt_trans}
use native.Mathlib.Omega.{arith}
use lib.Dec.{T}
use Rattle.files.specs.Basics.Below.{below_more}
use Rattle.files.specs.Decode.{decode_graph, decode_rules}
use Rattle.files.specs.Rules.{watch}
use Rattle.maximal.specs.Masks.{member}
use Rattle.runs.specs.Worklist.{reach}
use Rattle.runs.specs.Worklist.Growth.{grew_on}
use Rattle.runs.proofs.SummaryLaws.{node_in, may_add, seeds}
use Rattle.runs.proofs.summaries.seed_node.Goals as goal

pub add-end-requires : goal.add-end-requires
add-end-requires c =
    let loop-test = c.loop-p-test in
    let a = c.args in
    let l = c.loop-p in
    may_add a.s a.graph.now a.rules.now c.requires.0 l.end l.work l.invariant.0.holding a.g l.p c.one_state.result
    (node_in a.s a.graph.now a.rules.now c.requires.0 a.g c.requires.1.0) loop-test.true (omega arith)

pub loop-p-preserved : goal.loop-p-preserved
loop-p-preserved c =
    let node_at = c.node_at-v in
    let if1 = c.if-not-v in
    let loop-test = c.loop-p-test in
    let a = c.args in
    let l = c.loop-p in
    let x = c.add-end in
    let y = c.one_state in
    let d = seeds a.s a.graph.now a.rules.now c.requires.0 a.g _ c.requires.1.0
    node_at.ensures if1.false l.end l.work l.invariant.0.holding l.p y.result
    loop-test.true (omega arith) y.ensures x.result x.new.work x.ensures in (
      grew_on (decode_graph a.graph.now) (watch (decode_rules a.rules.now)) a.tail l.end x.result a.work.now l.work x.new.work l.invariant.0 d.0,
      below_more (λ (i : ℕ). T (member (reach x.new.work a.g i) i)) l.p
          (λ i h. d.0.reach_kept a.g i i (node_in a.s a.graph.now a.rules.now c.requires.0 a.g c.requires.1.0) (lt_trans h loop-test.true) (l.invariant.1 i h)) d.1,
    )
