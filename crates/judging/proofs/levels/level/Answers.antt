use mathlib.Core.Path.{◌≡◌}
use Prim.Native.Nat.{ℕ, ◌≤◌, ◌<◌}
use native.Mathlib.Omega.{arith}
use lib.ListN.{length}
use Rattle.files.specs.Basics.Below.{below_more}
use Rattle.files.specs.Decode.{decode_graph, decode_property}
use Rattle.judging.specs.Ranking.{pair, queue_at, Done}
use Rattle.judging.specs.Ranking.Stores.{grew_none, grew_on}
use Rattle.judging.proofs.LevelLaws.{tail_fits, entry_finding, done_kept, popped, popped_done, level_on}
use Rattle.files.specs.Graph.{size}
use Rattle.judging.proofs.levels.level.Goals as goal

pub loop-i-init : goal.loop-i-init
loop-i-init c =
    let a = c.args in
    (grew_none (decode_graph a.graph.now) (decode_property a.property.now) a.k a.tail a.work.now (entry_finding a.s a.graph.now a.property.now c.requires.0 a.k a.head a.tail a.work.now c.requires.1.0 c.requires.1.1.0), λ j h m. absurd (omega (arith, h, m)))

pub get-p-requires : goal.get-p-requires
get-p-requires c =
    let a = c.args in
    let l = c.loop-i in
    omega (arith, tail_fits a.s a.graph.now a.property.now c.requires.0 a.k a.head a.tail a.work.now c.requires.1.0, l.invariant.0.finding.room)

pub pop-end-requires : goal.pop-end-requires
pop-end-requires c =
    let a = c.args in
    let l = c.loop-i in
    let x = popped a.s a.graph.now a.property.now c.requires.0 a.k a.head a.tail l.end a.work.now l.work c.requires.1.0 l.invariant.0 l.i c.get-p.result (omega arith) c.get-p.ensures in
    (c.requires.0, (x.0, (x.1, (l.invariant.0.finding, x.2))))

pub loop-i-preserved : goal.loop-i-preserved
loop-i-preserved c =
    let a = c.args in
    let l = c.loop-i in
    let x = c.pop-end in (
      grew_on (decode_graph a.graph.now) (decode_property a.property.now) a.k a.tail l.end x.result a.work.now l.work x.new.work l.invariant.0 x.ensures.0,
      below_more (λ (j : ℕ). a.head ≤ j → (v r : ℕ) → v < size (decode_graph a.graph.now) → r < length (decode_property a.property.now) → queue_at a.work.now j ≡ pair v r → Done (decode_graph a.graph.now) (decode_property a.property.now) a.k x.new.work v r) l.i
          (λ j h m v r hv hr e. done_kept a.s a.graph.now a.property.now c.requires.0 a.k l.end x.result l.work x.new.work v r x.ensures.0 (l.invariant.1 j h m v r hv hr e))
          (λ m. popped_done a.s a.graph.now a.property.now c.requires.0 a.k a.head a.tail l.end a.work.now l.work c.requires.1.0 l.invariant.0 l.i c.get-p.result (omega arith) c.get-p.ensures x.new.work x.ensures.1),
    )

pub returns : goal.returns
returns c =
    let a = c.args in
    let l = c.loop-i in
    level_on a.s a.graph.now a.property.now c.requires.0 a.k a.head a.tail l.end a.work.now l.work c.requires.1.1.1 c.requires.1.0 c.requires.1.1.0 l.invariant.0 (λ j m h. l.invariant.1 j (omega (arith, h)) m)
