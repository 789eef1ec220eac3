use Rattle.maximal.proofs.MaskLaws.{highest_is}
use Rattle.maximal.proofs.masks.highest.Goals as goal

pub returns : goal.returns
returns c =
    let h = highest_is c.args.set c.requires c.ranges.set.fits in
    (h.1, h.2)
