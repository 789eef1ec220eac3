use mathlib.Core.Path.{sym, ◌∙◌}
use Prim.Native.Nat.{◌-◌}
use native.Mathlib.Omega.{arith}
use Rattle.files.specs.Basics.First.{last_le}
use Rattle.files.specs.Record.Laws.{tail, tail_length, tail_record}
use Rattle.files.specs.Deliveries.{opens}
use Rattle.files.specs.Deliveries.Looks.{unopened_refused, supplied_same}
use Rattle.files.proofs.deliveries.look_supplied.Goals as goal

pub returns-then-start-eq0 : goal.returns-then-start-eq0
returns-then-start-eq0 c =
    let a = c.args in
    unopened_refused a.file.now a.position a.i c.requires.1.1 (sym c.requires.1.0 ∙ c.if-start-eq0.true) c.at.result c.at.ensures

pub overflow_mul-from : goal.overflow_mul-from
overflow_mul-from c = omega (arith, c.requires.0, c.requires.1.0, last_le (opens c.args.file.now) c.args.i)

pub slice_bounds-look_graph-count : goal.slice_bounds-look_graph-count
slice_bounds-look_graph-count c = omega (arith, c.requires.0, c.requires.1.0, last_le (opens c.args.file.now) c.args.i)

pub slice_bounds-look_graph-start : goal.slice_bounds-look_graph-start
slice_bounds-look_graph-start c = omega (arith, c.requires.0, c.requires.1.0, last_le (opens c.args.file.now) c.args.i)

pub overflow_sub-i : goal.overflow_sub-i
overflow_sub-i c = omega (arith, c.requires.1.0, last_le (opens c.args.file.now) c.args.i)

pub look_graph-requires : goal.look_graph-requires
look_graph-requires c =
    let a = c.args in
    (omega (arith, c.requires.0, c.requires.1.0, last_le (opens a.file.now) a.i, tail_length a.file.now a.start), omega (arith, c.requires.1.0, last_le (opens a.file.now) a.i))

pub returns : goal.returns
returns c =
    let a = c.args in
    let l = a.file.now in
    let at = last_le (opens l) a.i in
    c.look_graph.ensures
    ∙ supplied_same l (tail l a.start) a.position a.i a.start (a.i - a.start) c.requires.0 c.requires.1.1 c.requires.1.0 c.if-start-eq0.false
    (omega (arith, c.requires.1.0, at)) (λ n b. tail_record l a.start n (omega (arith, c.requires.0, c.requires.1.0, at)))
