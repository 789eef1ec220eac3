use native.Mathlib.Omega.{arith}
use Rattle.runs.specs.Showing.{part_said}
use Rattle.exports.proofs.ShowLaws.{result_given}
use Rattle.exports.proofs.write_part.Goals as goal

pub returns : goal.returns
returns c =
    let a = c.args in
    let x = c.copy_at in
    result_given a.out.now (part_said a.part.now) x.new.dst _ (omega (arith, c.if-out-part.false)) x.ensures c.verdict.ensures
