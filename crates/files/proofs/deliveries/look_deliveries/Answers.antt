use mathlib.Core.Path.{refl, sym}
use Rattle.files.specs.Checking.Laws.{lowest_none}
use Rattle.files.specs.Deliveries.Steps.{delivery_test}
use Rattle.files.proofs.CheckLaws.{lowest_on}
use Rattle.files.proofs.deliveries.look_deliveries.Goals as goal

pub loop-i-init : goal.loop-i-init
loop-i-init c = let a = c.args in (refl, sym (lowest_none 3 2 (delivery_test a.file.now) 0 a.position))

pub loop-i-preserved : goal.loop-i-preserved
loop-i-preserved c =
    let a = c.args in
    let loop = c.loop-i in (
      c.next_start-start.ensures,
      lowest_on 3 2 (delivery_test a.file.now) 0 a.position loop.i loop.found c.look_delivery-next.result c.lower-found.result loop.invariant.1
          c.look_delivery-next.ensures c.lower-found.ensures,
    )
