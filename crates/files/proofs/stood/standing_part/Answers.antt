-- What one pass keeps stands: the part behind its opening, or no part.
use mathlib.Core.Path.{sym, ◌∙◌}
use Rattle.files.specs.Record.{count}
use Rattle.files.specs.Assemble.Stood.{none_stands, part_stands}
use Rattle.files.specs.Deliveries.Latest.{kept_within}
use Rattle.files.proofs.stood.standing_part.Goals as goal

pub returns-then-start-eq0 : goal.returns-then-start-eq0
returns-then-start-eq0 c =
    none_stands c.args.file.now c.requires.0.file c.args.method (sym (c.requires.0.kept_are.each_is c.args.method c.requires.1) ∙ c.if-start-eq0.true)

pub part_at-requires : goal.part_at-requires
part_at-requires c =
    kept_within c.args.file.now c.args.kept.now (count c.args.file.now) c.requires.0.kept_are c.args.method c.requires.1

pub returns : goal.returns
returns c =
    part_stands c.args.file.now c.requires.0.file c.args.method c.part_at.result _ (sym (c.requires.0.kept_are.each_is c.args.method c.requires.1)) c.if-start-eq0.false c.part_at.ensures
