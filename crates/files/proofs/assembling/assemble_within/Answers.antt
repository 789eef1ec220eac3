-- Where the checks pass the file is accepted, and the rest gives the standing graph.
use lib.ListN.{length}
use Rattle.files.specs.Assemble.{assemble_first, assemble_said, from_standing}
use Rattle.files.specs.Assemble.Work.{assembled_outcome_is, assemble_known}
use Rattle.files.specs.Settling.Calls.{refused_answers, worked_answers}
use Rattle.files.specs.Settling.Laws.{handed_on}
use Rattle.files.proofs.assembling.assemble_within.Goals as goal

pub assemble_standing-requires : goal.assemble_standing-requires
assemble_standing-requires c =
    (assemble_known c.args.limits c.args.deliveries.now c.requires.0 c.requires.1 (c.in_ok-check_assemble.ensures), c.requires)

pub returns-in_err-check_assemble : goal.returns-in_err-check_assemble
returns-in_err-check_assemble c =
    let a = c.args in
    let l = a.deliveries.now in
    let n = length a.out.now in
    rw (handed_on c.from_residual.result c.from_residual.ensures.1)
    (refused_answers (assemble_first a.limits l) (from_standing a.limits l n) (assemble_said a.limits l n) c.check_assemble.ensures (assembled_outcome_is a.limits l n) c.in_err-check_assemble.was)

pub returns : goal.returns
returns c =
    let a = c.args in
    let l = a.deliveries.now in
    let n = length a.out.now in
    worked_answers (assemble_first a.limits l) (from_standing a.limits l n) (assemble_said a.limits l n) c.check_assemble.ensures (assembled_outcome_is a.limits l n) c.in_ok-check_assemble.was
    c.assemble_standing.ensures
