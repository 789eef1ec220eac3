use mathlib.Core.Path.{refl}
use lib.ListN.{replicate}
use Rattle.files.specs.Places.{line_bytes}
use Rattle.judging.proofs.MatchLaws.{near_by}
use Rattle.judging.proofs.RowLaws.{full_bits}
use Rattle.judging.proofs.matches.nodes_near.Goals as goal

pub returns-then-size_of_row : goal.returns-then-size_of_row
returns-then-size_of_row c = (refl, λ h x a l t u. full_bits x l)

pub returns : goal.returns
returns c = let p = c.predecessors in (p.ensures.0, near_by c.args.s c.args.first.now c.args.second.now c.requires.1.0 c.args.work.now c.args.row.now (replicate line_bytes 0) p.result c.requires.1.1 p.ensures.1)
