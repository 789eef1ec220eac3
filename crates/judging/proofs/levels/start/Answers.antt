use Prim.Native.Nat.{ℕ, ◌<◌}
use native.Mathlib.Omega.{arith}
use mathlib.Core.Bool.{not}
use lib.Dec.{T}
use Rattle.files.specs.Basics.Below.{below_more}
use Rattle.files.specs.Decode.{decode_graph, decode_property}
use Rattle.judging.specs.Levels.{level}
use Rattle.judging.specs.Ranking.{Given}
use Rattle.judging.specs.Ranking.Stores.{grew_on}
use Rattle.judging.proofs.LevelLaws.{node_in, row_in, node_of, row_of}
use Rattle.judging.proofs.Theorems.Ranking.Laws.{first_found}
use Rattle.judging.specs.Ranking.Files.{is_flow, is_property, rows_fit}
use Rattle.judging.proofs.levels.start.Goals as goal

pub loop-r-preserved : goal.loop-r-preserved
loop-r-preserved c =
    let a = c.args in
    let l = c.loop-r in
    let x = c.start_row-end in (
      grew_on (decode_graph a.graph.now) (decode_property a.property.now) 0 0 l.end x.result a.work.now l.work x.new.work l.invariant.0 x.ensures.0,
      below_more (λ (j : ℕ). (v : ℕ) → v < a.s.graph.nodes → T (not (level (decode_graph a.graph.now) (decode_property a.property.now) 1 v j)) → Given x.new.work v j) l.r
          (λ j h v hv t. x.ensures.0.given_kept v j (node_in a.s a.graph.now a.property.now c.requires.0 v hv) (row_in a.s a.graph.now a.property.now c.requires.0 j (omega (arith, h))) (l.invariant.1 j h v hv t))
          x.ensures.1,
    )

pub returns : goal.returns
returns c =
    let a = c.args in
    let l = c.loop-r in
    first_found (decode_graph a.graph.now) (decode_property a.property.now) (is_flow a.s a.graph.now a.property.now c.requires.0) (is_property a.s a.graph.now a.property.now c.requires.0) l.end a.work.now l.work c.requires.1 (rows_fit a.s a.graph.now a.property.now c.requires.0)
    l.invariant.0
    (λ v r hv hr t. l.invariant.1 r (omega (arith, row_of a.s a.graph.now a.property.now c.requires.0 r hr)) v (node_of a.s a.graph.now a.property.now c.requires.0 v hv) t)
