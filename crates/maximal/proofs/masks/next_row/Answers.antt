-- The set and what of it is worked differ in the rows that are not yet worked, so the highest digit where they differ is the row.
use Rattle.maximal.proofs.MaskLaws.{highest_taken}
use Rattle.maximal.proofs.masks.next_row.Goals as goal

pub returns : goal.returns
returns c = highest_taken c.args.set c.args.worked c.highest.result c.requires.0 c.highest.ensures.0 c.highest.ensures.1
