-- The operands of an "and" and of an "or" are rows, and rows are few.
use native.Mathlib.Omega.{arith}
use Rattle.maximal.proofs.RowLaws.{both_below}
use Rattle.maximal.proofs.masks.operands_or.Goals as goal

pub one_row-requires : goal.one_row-requires
one_row-requires c = omega (arith, (both_below c.args.property.now c.requires.0 c.args.n c.requires.1.0 c.args.r c.requires.1.1.1 _ c.in-And.ensures (omega arith) (omega arith)).0, c.requires.1.1.0)

pub one_row-requires-in-And : goal.one_row-requires-in-And
one_row-requires-in-And c = omega (arith, (both_below c.args.property.now c.requires.0 c.args.n c.requires.1.0 c.args.r c.requires.1.1.1 _ c.in-And.ensures (omega arith) (omega arith)).1, c.requires.1.1.0)

pub one_row-requires-then-ors : goal.one_row-requires-then-ors
one_row-requires-then-ors c = omega (arith, (both_below c.args.property.now c.requires.0 c.args.n c.requires.1.0 c.args.r c.requires.1.1.1 _ c.in-Or.ensures (omega arith) (omega arith)).0, c.requires.1.1.0)

pub one_row-requires-then-ors-2 : goal.one_row-requires-then-ors-2
one_row-requires-then-ors-2 c = omega (arith, (both_below c.args.property.now c.requires.0 c.args.n c.requires.1.0 c.args.r c.requires.1.1.1 _ c.in-Or.ensures (omega arith) (omega arith)).1, c.requires.1.1.0)
