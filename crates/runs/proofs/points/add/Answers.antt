use mathlib.Core.Path.{sym, ◌∙◌}
use Rattle.runs.specs.Worklist.Growth.{add_same, add_waiting, add_new}
use Rattle.runs.proofs.points.add.Goals as goal

pub returns-then-new-old : goal.returns-then-new-old
returns-then-new-old c = let a = c.args in add_same a.work.now a.tail a.g a.p a.y c.get-old.result c.get-old.ensures c.if-new-old.true

pub returns-then-get-eq1 : goal.returns-then-get-eq1
returns-then-get-eq1 c =
    let put = c.put in
    let get = c.get-old in
    let if1 = c.if-new-old in
    let get82 = c.get in
    let a = c.args in
    add_waiting a.work.now put.new.work a.tail a.g a.p a.y get.result c.requires.0 c.requires.1.0 get.ensures if1.false put.ensures
    (sym get82.ensures ∙ c.if-get-eq1.true)

pub returns : goal.returns
returns c =
    let put = c.put in
    let get = c.get-old in
    let if1 = c.if-new-old in
    let put82 = c.put-2 in
    let put-3 = c.put-3 in
    let if2 = c.if-get-eq1 in
    let get82 = c.get in
    let a = c.args in
    add_new a.work.now put.new.work a.tail a.g a.p a.y get.result c.requires.0 c.requires.1.0 get.ensures if1.false put.ensures
    put82.new.work put-3.new.work (λ e. if2.false (get82.ensures ∙ e)) put82.ensures put-3.ensures
