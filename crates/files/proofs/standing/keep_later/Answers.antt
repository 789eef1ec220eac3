-- Only an opening of a higher revision changes what is kept of its method, and nothing of another.
use native.Mathlib.Omega.{arith}
use Rattle.files.specs.Deliveries.Latest.{kept_within}
use Rattle.files.specs.Deliveries.Met.{opening_read}
use Rattle.files.proofs.standing.keep_later.Goals as goal

pub kept_revision-requires : goal.kept_revision-requires
kept_revision-requires c =
    let x = opening_read c.args.file.now c.args.i c.requires.1.0 c.requires.0 c.kind_at.result c.kind_at.ensures c.if-not-kind_at.false-raw _ c.read-opening.ensures in
    omega (arith, c.requires.0, kept_within c.args.file.now c.args.kept.now c.args.i c.requires.1.1 _ x.method_small)
