use mathlib.Core.Path.{refl, sym, ap, ◌∙◌}
use mathlib.Core.List.{List, [], ◌∷◌, ◌++◌}
use Prim.Native.Nat.{ℕ, ◌≤◌, ◌<◌}
use native.Mathlib.Omega.{arith}
use lib.ListN.{length}
use Rattle.maximal.specs.Collected.{listed}
use Rattle.maximal.specs.Collected.Search.{inserted_past, inserted_last}
use Rattle.maximal.proofs.AntichainLaws.{listed_put, put_outside}
use Rattle.maximal.specs.Places.{max_candidates, model_room}
use Rattle.maximal.proofs.antichain.insert.Goals as goal

pub returns-then-has_within : goal.returns-then-has_within
returns-then-has_within c =
    let a = c.args in
    (sym (inserted_past (listed a.work.now a.count) a.s (sym c.has_within.ensures ∙ c.if-has_within.true)), (omega arith, λ q d. refl))

pub returns : goal.returns
returns c =
    let a = c.args in
    let d = c.drop_above-left in
    let p = c.put in
    let few : d.result < max_candidates = omega (arith, d.ensures.1.0) in
    let room : model_room ≤ length d.new.work = omega (arith, d.auto.work) in (
      listed_put d.new.work p.new.work d.result a.s few room (omega arith) p.ensures
          ∙ ap (λ (l : List ℕ). l ++ a.s ∷ []) d.ensures.0
          ∙ sym (inserted_last (listed a.work.now a.count) a.s (sym c.has_within.ensures ∙ c.if-has_within.false)),
      (omega (arith, d.ensures.1.0), λ q x. put_outside d.new.work p.new.work d.result a.s few room (omega arith) p.ensures q x ∙ d.ensures.1.1 q x),
    )
