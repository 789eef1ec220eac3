-- The place found is that of the record shown, or there is none.
use mathlib.Core.Path.{refl, sym, ap, ◌∙◌}
use Rattle.std.specs.Prelude.{Ok}
use Rattle.runs.specs.Showing.{part_ptr}
use Rattle.runs.specs.Showing.Work.{found_first, found_second, found_nowhere}
use Rattle.runs.proofs.showing.show_within.Goals as goal

pub record_at-requires : goal.record_at-requires
record_at-requires c = let a = c.args in (found_first a.limits a.graph1.now a.graph2.now a.number _ c.in-Ok-First.ensures c.in-Ok-First.i (ap (λ x. Ok x) c.in-Ok-First.field-0-is)).0

pub record_at-requires-in-Ok-Second : goal.record_at-requires-in-Ok-Second
record_at-requires-in-Ok-Second c = let a = c.args in (found_second a.limits a.graph1.now a.graph2.now a.number _ c.in-Ok-Second.ensures c.in-Ok-Second.i (ap (λ x. Ok x) c.in-Ok-Second.field-0-is)).0

pub returns-in-Ok-First : goal.returns-in-Ok-First
returns-in-Ok-First c =
    let a = c.args in
    let shows = found_first a.limits a.graph1.now a.graph2.now a.number _ c.in-Ok-First.ensures c.in-Ok-First.i (ap (λ x. Ok x) c.in-Ok-First.field-0-is) in
    (c.record_at.ensures.0 ∙ shows.1, c.record_at.ensures.1 ∙ ap (part_ptr a.graph1.ref_ptr a.graph2.ref_ptr) (sym (ap (λ x. Ok x) c.in-Ok-First.field-0-is) ∙ c.in-Ok-First.ensures))

pub returns-in-Ok-Second : goal.returns-in-Ok-Second
returns-in-Ok-Second c =
    let a = c.args in
    let shows = found_second a.limits a.graph1.now a.graph2.now a.number _ c.in-Ok-Second.ensures c.in-Ok-Second.i (ap (λ x. Ok x) c.in-Ok-Second.field-0-is) in
    (c.record_at-in-Ok-Second.ensures.0 ∙ shows.1, c.record_at-in-Ok-Second.ensures.1 ∙ ap (part_ptr a.graph1.ref_ptr a.graph2.ref_ptr) (sym (ap (λ x. Ok x) c.in-Ok-Second.field-0-is) ∙ c.in-Ok-Second.ensures))

pub returns-in-Err : goal.returns-in-Err
returns-in-Err c =
    let a = c.args in
    (found_nowhere a.limits a.graph1.now a.graph2.now a.number _ c.in-Err.ensures _ refl, ap (part_ptr a.graph1.ref_ptr a.graph2.ref_ptr) c.in-Err.ensures)
