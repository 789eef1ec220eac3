use mathlib.Core.Path.{◌≡◌, sym, ap, ◌∙◌}
use native.Mathlib.Omega.{arith}
use Rattle.files.specs.Record.{count}
use Rattle.files.specs.Interface.{Interface}
use Rattle.files.specs.Sides.{first_foreign_record}
use Rattle.files.specs.Sides.Reads.{foreign_at, foreign_never}
use Rattle.files.proofs.AccessLaws.{of_sets}
use Rattle.files.proofs.sides.first_foreign.Goals as goal

pub returns-then-foreign : goal.returns-then-foreign
returns-then-foreign c = (
  sym (foreign_at _ c.args.graph.now c.requires.0 c.loop-i.i (omega arith) c.loop-i.invariant (sym c.foreign.ensures ∙ c.if-foreign.true))
      ∙ ap (λ (I : Interface). first_foreign_record I c.args.graph.now) (of_sets _ _ _ c.provided_methods-provided.ensures c.required_methods-required.ensures),
  omega arith,
)

pub returns : goal.returns
returns c =
    let e : c.loop-i.i ≡ count c.args.graph.now = omega arith in (
      sym (foreign_never _ c.args.graph.now c.requires.0 (rw (← e) c.loop-i.invariant))
          ∙ ap (λ (I : Interface). first_foreign_record I c.args.graph.now) (of_sets _ _ _ c.provided_methods-provided.ensures c.required_methods-required.ensures),
      tt,
    )
