use mathlib.Core.Path.{sym, subst}
use Prim.Native.Nat.{ℕ}
use native.Mathlib.Omega.{arith}
use mathlib.Core.Bool.{not}
use lib.Dec.{T, T_not}
use Rattle.files.specs.Basics.Below.{below_more}
use Rattle.files.specs.Decode.{decode_graph, decode_property}
use Rattle.judging.specs.Levels.{level}
use Rattle.judging.specs.Ranking.{Given}
use Rattle.judging.proofs.Theorems.Ranking.Files.{fallen_may}
use Rattle.judging.specs.Ranking.Stores.{grew_none, grew_on}
use Rattle.judging.proofs.LevelLaws.{node_in, row_in}
use Rattle.judging.proofs.levels.start_row.Goals as goal

pub returns-then-not-may_fall : goal.returns-then-not-may_fall
returns-then-not-may_fall c =
    let a = c.args in
    let m = c.may_fall in
    (grew_none (decode_graph a.graph.now) (decode_property a.property.now) 0 a.tail a.work.now c.requires.1.1, λ v h t. absurd (T_not m.result (subst T (sym c.if-not-may_fall.true-raw) tt) (subst T (sym m.ensures) (fallen_may (decode_graph a.graph.now) (decode_property a.property.now) v a.r t))))

pub loop-g-preserved : goal.loop-g-preserved
loop-g-preserved c =
    let a = c.args in
    let l = c.loop-g in
    let x = c.start_pair-end in (
      grew_on (decode_graph a.graph.now) (decode_property a.property.now) 0 a.tail l.end x.result a.work.now l.work x.new.work l.invariant.0 x.ensures.0,
      below_more (λ (v : ℕ). T (not (level (decode_graph a.graph.now) (decode_property a.property.now) 1 v a.r)) → Given x.new.work v a.r) l.g
          (λ v h t. x.ensures.0.given_kept v a.r (node_in a.s a.graph.now a.property.now c.requires.0 v (omega (arith, h))) (row_in a.s a.graph.now a.property.now c.requires.0 a.r c.requires.1.0) (l.invariant.1 v h t))
          x.ensures.1,
    )
