use native.Mathlib.Omega.{arith}
use Rattle.maximal.proofs.RowLaws.{looked_below}
use Rattle.maximal.proofs.masks.obliged_rows.Goals as goal

pub one_row-requires : goal.one_row-requires
one_row-requires c =
    let a = c.args in
    omega (arith, looked_below a.property.now c.requires.0 a.n c.requires.1.0 a.r c.requires.1.1.1 _ c.row_at.ensures a.label _ c.in-Some.ensures, c.requires.1.1.0)
