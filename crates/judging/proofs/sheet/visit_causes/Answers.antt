-- Both causes are visited one after the other, and there are two at most.
-- a cause that is found is none, or a pair of the graph and the property
use mathlib.Core.Logic.{◌⊎◌}
use mathlib.Core.Path.{◌≡◌}
use Prim.Native.Nat.{◌<◌}
use native.Mathlib.Omega.{arith}
use Rattle.judging.proofs.SheetLaws.{held_cause, both_visits}
use Rattle.judging.specs.Sheets.{listed}
use Rattle.judging.specs.declared.causes.Cause.{Cause}
use Rattle.judging.proofs.sheet.visit_causes.Goals as goal
use Rattle.judging.proofs.sheet.visit_causes.Goals.{After-causes_of-c}

abbrev Told : After-causes_of-c → Cause → Type 0
Told y c =
    let a = y.args in
    (c.row ≡ 255) ⊎ ((c.node < a.s.graph.nodes) × (c.row < a.s.rows))

first-told : (y : After-causes_of-c) → Told y y.causes_of-c.result.first
first-told y =
    let a = y.args in
    held_cause a.s a.graph.now a.property.now y.requires.0 a.g a.r y.requires.1.0 y.requires.1.1.0 0 y.causes_of-c.result.first (omega arith)
    y.causes_of-c.ensures.0

second-told : (y : After-causes_of-c) → Told y y.causes_of-c.result.second
second-told y =
    let a = y.args in
    held_cause a.s a.graph.now a.property.now y.requires.0 a.g a.r y.requires.1.0 y.requires.1.1.0 1 y.causes_of-c.result.second (omega arith)
    y.causes_of-c.ensures.1

pub visit-tail-requires : goal.visit-tail-requires
visit-tail-requires c =
    (c.requires.0, (c.requires.1.1.1, first-told (goal.at.visit-tail-requires c).After-causes_of-c))

pub visit-requires : goal.visit-requires
visit-requires c =
    (c.requires.0, (c.visit-tail.ensures.0, second-told (goal.at.visit-requires c).After-causes_of-c))

pub returns : goal.returns
returns c =
    let a = c.args in
    let v = c.visit-tail in
    let w = c.visit in
    let x = c.causes_of-c in (
      w.ensures.0,
      both_visits a.s a.graph.now a.property.now c.requires.0 a.g a.r c.requires.1.0 c.requires.1.1.0 (listed a.work.now a.tail)
          (listed v.new.work v.result) (listed w.new.work w.result) x.result.first x.result.second x.ensures.0 x.ensures.1
          v.ensures.1 w.ensures.1,
    )
