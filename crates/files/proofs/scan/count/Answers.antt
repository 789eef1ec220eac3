use mathlib.Core.Path.{◌≡◌, sym, ap, ◌∙◌}
use native.Mathlib.Omega.{arith}
use Rattle.files.specs.Basics.Tests.{one_le}
use Rattle.files.specs.Basics.Tables.{tally, tally_le}
use Rattle.files.specs.Record.{count}
use Rattle.files.specs.FileKind.{kind_of}
use Rattle.files.specs.Checking.{counts}
use Rattle.files.specs.Checking.Laws.{counted_is}
use Rattle.files.proofs.scan.count.Goals as goal

pub overflow_add-apart : goal.overflow_add-apart
overflow_add-apart c = omega (arith, c.loop-i.invariant, tally_le (counts (kind_of c.args.kind) c.args.records.now) c.loop-i.i, one_le c.counts-this.result)

pub returns : goal.returns
returns c =
    let a = c.args in
    let e : c.loop-i.i ≡ count a.records.now = omega arith in
    c.loop-i.invariant ∙ ap (tally (counts (kind_of a.kind) a.records.now)) e ∙ sym (counted_is (kind_of a.kind) a.records.now)
