use mathlib.Core.Path.{◌≡◌, sym, ◌∙◌}
use native.Mathlib.Omega.{arith}
use Rattle.files.specs.Record.{count}
use Rattle.files.specs.Deliveries.Names.{end_is}
use Rattle.files.proofs.parts.part_end.Goals as goal

pub returns-then-kind_at-eq-OPENING : goal.returns-then-kind_at-eq-OPENING
returns-then-kind_at-eq-OPENING c =
    let a = c.args in
    let loop = c.loop-e in
    end_is a.file.now a.a loop.e (omega arith) (omega arith) loop.invariant (λ h. sym c.kind_at.ensures ∙ c.if-kind_at-eq-OPENING.true)

pub returns : goal.returns
returns c =
    let a = c.args in
    let loop = c.loop-e in
    let e : count a.file.now ≡ loop.e = omega arith in
    e ∙ end_is a.file.now a.a loop.e (omega arith) (omega arith) loop.invariant (λ h. absurd (omega (arith, h)))
