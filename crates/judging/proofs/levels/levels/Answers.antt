use native.Mathlib.Omega.{arith}
use Rattle.judging.proofs.LevelLaws.{tail_fits, levels_end}
use Rattle.judging.proofs.levels.levels.Goals as goal

pub overflow_add-k : goal.overflow_add-k
overflow_add-k c =
    let a = c.args in
    let l = c.loop-head in
    omega (arith, l.invariant.2.low, c.loop-head-test.true, tail_fits a.s a.graph.now a.property.now c.requires.0 l.k l.head l.tail l.work l.invariant.2)

pub loop-head-smaller : goal.loop-head-smaller
loop-head-smaller c =
    let a = c.args in
    let l = c.loop-head in
    omega (arith, c.loop-head-test.true, tail_fits a.s a.graph.now a.property.now c.requires.0 l.k l.head l.tail l.work l.invariant.2)

pub returns : goal.returns
returns c =
    let a = c.args in
    let l = c.loop-head in
    levels_end a.s a.graph.now a.property.now c.requires.0 l.k l.head l.tail l.work l.invariant.1 l.invariant.2 (omega (arith, c.loop-head-test.false))
