use mathlib.Core.Path.{◌≡◌, sym, subst, ◌∙◌}
use mathlib.Core.List.{List}
use Prim.Native.Nat.{ℕ, ◌+◌}
use native.Mathlib.Omega.{arith}
use Rattle.files.specs.Record.{count}
use Rattle.files.specs.Deliveries.Met.{Met, met_none, met_on, met_stop, met_all}
use Rattle.files.proofs.standing.repeats.Goals as goal

pub loop-i-init : goal.loop-i-init
loop-i-init c = met_none c.args.file.now

pub returns-then-meet : goal.returns-then-meet
returns-then-meet c =
    let loop = c.loop-i in
    met_stop c.args.file.now loop.met loop.i loop.invariant c.requires (omega arith) (sym c.meet.ensures.0 ∙ c.if-meet.true)

pub loop-i-preserved : goal.loop-i-preserved
loop-i-preserved c =
    let loop = c.loop-i in
    let meet = c.meet in
    let l = c.args.file.now in
    let on = met_on l loop.met loop.i loop.invariant c.requires (omega arith) (sym meet.ensures.0 ∙ c.if-meet.false) in
    subst (λ (m : List ℕ). Met l m (loop.i + 1)) (sym meet.ensures.1) on

pub returns : goal.returns
returns c =
    let l = c.args.file.now in
    let loop = c.loop-i in
    let e : loop.i ≡ count l = omega arith in
    met_all l loop.met (subst (Met l loop.met) e loop.invariant)
