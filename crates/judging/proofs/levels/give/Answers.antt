use mathlib.Core.Path.{refl, sym, ◌∙◌}
use Prim.Native.Nat.{◌+◌, ◌*◌}
use Rattle.judging.specs.Ranking.Files.{give_yes, give_no}
use Rattle.judging.proofs.levels.give.Goals as goal

pub returns-then-get-eq0 : goal.returns-then-get-eq0
returns-then-get-eq0 c = let a = c.args in give_yes a.work.now c.put.new.work c.put-then-get-eq0.new.work a.tail a.g a.r a.k (32 * a.g + a.r) refl (sym c.get.ensures ∙ c.if-get-eq0.true) c.put.ensures c.put-then-get-eq0.ensures

pub returns : goal.returns
returns c = let a = c.args in give_no a.work.now a.tail a.g a.r a.k (λ z. c.if-get-eq0.false (c.get.ensures ∙ z))
