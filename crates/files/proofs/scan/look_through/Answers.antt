use mathlib.Core.Path.{sym}
use Rattle.files.specs.FileKind.{kind_of}
use Rattle.files.specs.Checking.{test}
use Rattle.files.specs.Checking.Laws.{lowest_none}
use Rattle.files.proofs.CheckLaws.{lowest_on}
use Rattle.files.proofs.scan.look_through.Goals as goal

pub loop-i-init : goal.loop-i-init
loop-i-init c = let a = c.args in sym (lowest_none 3 2 (test (kind_of a.kind) a.records.now) a.first a.position)

pub loop-i-preserved : goal.loop-i-preserved
loop-i-preserved c =
    let a = c.args in
    let loop = c.loop-i in
    lowest_on 3 2 (test (kind_of a.kind) a.records.now) a.first a.position loop.i loop.found c.look-next.result c.lower-found.result loop.invariant
    c.look-next.ensures c.lower-found.ensures
