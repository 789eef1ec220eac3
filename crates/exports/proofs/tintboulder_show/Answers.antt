use mathlib.Core.Path.{sym, ap, ◌∙◌}
use Rattle.std.specs.Prelude.{Ok}
use mathlib.Core.List.{List}
use Prim.Native.Nat.{ℕ}
use Rattle.files.specs.Outcome.{says}
use Rattle.runs.specs.Showing.{part_said}
use Rattle.runs.specs.declared.showing.Place.TheVariants.{First, Second}
use Rattle.exports.proofs.ShowLaws.{in_file, shown_given, nowhere_given}
use Rattle.exports.proofs.tintboulder_show.Goals as goal

pub record_at-requires : goal.record_at-requires
record_at-requires c =
    let a = c.args in
    let d = c.desk in
    let f = c.find_place in
    in_file d.result d.ensures a.graph1.now a.graph2.now a.number f.result f.ensures (Ok (First c.in-Ok-First.i)) (c.in-Ok-First.is ∙ ap (λ x. Ok x) c.in-Ok-First.field-0-is)

pub record_at-requires-in-Ok-Second : goal.record_at-requires-in-Ok-Second
record_at-requires-in-Ok-Second c =
    let a = c.args in
    let d = c.desk in
    let f = c.find_place in
    in_file d.result d.ensures a.graph1.now a.graph2.now a.number f.result f.ensures (Ok (Second c.in-Ok-Second.i)) (c.in-Ok-Second.is ∙ ap (λ x. Ok x) c.in-Ok-Second.field-0-is)

pub returns-in-Ok-First : goal.returns-in-Ok-First
returns-in-Ok-First c =
    let a = c.args in
    let d = c.desk in
    let f = c.find_place in
    let r = c.record_at in
    let w = c.write_part in
    shown_given d.result d.ensures a.graph1.now a.graph2.now a.number f.result f.ensures (Ok (First c.in-Ok-First.i)) _ a.out.now w.new.out w.result (c.in-Ok-First.is ∙ ap (λ x. Ok x) c.in-Ok-First.field-0-is) (ap (λ (l : List ℕ). says (part_said l)) (sym r.ensures.0)) w.ensures

pub returns-in-Ok-Second : goal.returns-in-Ok-Second
returns-in-Ok-Second c =
    let a = c.args in
    let d = c.desk in
    let f = c.find_place in
    let r = c.record_at-in-Ok-Second in
    let w = c.write_part-in-Ok-Second in
    shown_given d.result d.ensures a.graph1.now a.graph2.now a.number f.result f.ensures (Ok (Second c.in-Ok-Second.i)) _ a.out.now w.new.out w.result (c.in-Ok-Second.is ∙ ap (λ x. Ok x) c.in-Ok-Second.field-0-is) (ap (λ (l : List ℕ). says (part_said l)) (sym r.ensures.0)) w.ensures

pub returns-in-Err : goal.returns-in-Err
returns-in-Err c =
    let a = c.args in
    let d = c.desk in
    let f = c.find_place in
    nowhere_given d.result d.ensures a.graph1.now a.graph2.now a.number f.result f.ensures a.out.now c.in-Err.r c.refused.result c.in-Err.is c.refused.ensures
