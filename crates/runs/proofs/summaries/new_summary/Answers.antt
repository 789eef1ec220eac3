-- No return node, or no new state, or the two sets joined: the clauses of `joined`.
use Prim.Native.Nat.{◌%◌}
use Rattle.files.specs.Cells.{cell}
use Rattle.runs.specs.Regions.{reached_base}
use Rattle.runs.specs.Worklist.{sums}
use Rattle.runs.specs.Worklist.Table.{joined_off, joined_same, joined_new}
use Rattle.runs.proofs.summaries.new_summary.Goals as goal

pub returns-then-not-v : goal.returns-then-not-v
returns-then-not-v c =
    let a = c.args in
    joined_off a.v.returns (sums a.table.now a.v.method (a.at % 8)) (cell a.work.now reached_base 1 a.at) c.if-not-v.true

pub returns-then-new-old : goal.returns-then-new-old
returns-then-new-old c =
    let a = c.args in
    let o = c.sum_of-old in
    let y = c.get in
    joined_same a.v.returns (sums a.table.now a.v.method (a.at % 8)) (cell a.work.now reached_base 1 a.at) c.if-not-v.false o.result y.result o.ensures y.ensures c.if-new-old.true

pub returns : goal.returns
returns c =
    let a = c.args in
    let o = c.sum_of-old in
    let y = c.get in
    joined_new a.v.returns (sums a.table.now a.v.method (a.at % 8)) (cell a.work.now reached_base 1 a.at) c.if-not-v.false o.result y.result o.ensures y.ensures c.if-new-old.false
