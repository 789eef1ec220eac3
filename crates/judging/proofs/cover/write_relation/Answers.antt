use mathlib.Core.Path.{refl, ◌∙◌}
use native.Mathlib.Omega.{arith}
use Rattle.files.specs.Decode.{decode_graph}
use Rattle.judging.proofs.CoverLaws.{line_on, line_end}
use Rattle.judging.specs.Refinement.Cover.{lines_none}
use Rattle.judging.proofs.cover.write_relation.Goals as goal

pub loop-g-init : goal.loop-g-init
loop-g-init c = let a = c.args in (lines_none (decode_graph a.first.now) (decode_graph a.second.now) a.out.now, refl)

pub loop-g-preserved : goal.loop-g-preserved
loop-g-preserved c = let l = c.loop-g in
    let x = c.put_line in
    (line_on c.args.s c.args.first.now c.args.second.now c.requires.0 c.args.work.now c.requires.1.1.0 c.args.out.now l.out x.new.out l.g (omega arith) l.invariant.0 x.ensures, x.auto.out ∙ l.invariant.1)

pub returns : goal.returns
returns c = let l = c.loop-g in line_end c.args.s c.args.first.now c.args.second.now c.requires.0 c.args.work.now c.requires.1.1.0 c.args.out.now l.out l.g (omega arith) (omega arith) l.invariant.0
