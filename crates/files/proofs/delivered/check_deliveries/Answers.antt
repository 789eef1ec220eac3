use Rattle.std.proofs.Common.{refl, sym, ap, ◌%◌, length, Err}
use Rattle.files.specs.Settling.Laws.{handed_on}
use lib.Dec.{eqb}
use borrow.Author.Tests.{not-true, not-false}
use Rattle.files.specs.Deliveries.Names.{unfound_parts}
use Rattle.files.specs.Deliveries.Steps.{delivery_checked_steps}
use Rattle.files.proofs.delivered.check_deliveries.Goals as goal

pub returns-then-not-file : goal.returns-then-not-file
returns-then-not-file c =
    let a = c.args in
    rw (← delivery_checked_steps a.limits a.file.now a.position, not-true (eqb (length a.file.now % 6) 0) c.if-not-file.true-raw) (ap Err c.at.ensures)

pub returns-in_err-look_deliveries : goal.returns-in_err-look_deliveries
returns-in_err-look_deliveries c =
    let a = c.args in
    rw (
      handed_on c.from_residual.result c.from_residual.ensures.1,
      ← delivery_checked_steps a.limits a.file.now a.position,
      not-false (eqb (length a.file.now % 6) 0) c.if-not-file.false-raw,
      sym c.in_err-look_deliveries.ensures,
    ) refl

pub deliveries_from_five-requires : goal.deliveries_from_five-requires
deliveries_from_five-requires c = let a = c.args in unfound_parts a.file.now a.position (sym c.in_ok-look_deliveries.ensures)

pub returns : goal.returns
returns c =
    let a = c.args in
    rw (← delivery_checked_steps a.limits a.file.now a.position, not-false (eqb (length a.file.now % 6) 0) c.if-not-file.false-raw, sym c.in_ok-look_deliveries.ensures)
    c.deliveries_from_five.ensures
