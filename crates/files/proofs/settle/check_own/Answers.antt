-- The number that the scan gives is the finding of the definition, or there is none.
use mathlib.Core.Path.{ap, subst, sym, ◌∙◌}
use native.Mathlib.Omega.{arith}
use Rattle.std.specs.Option.{unwrap_or}
use Rattle.std.specs.Prelude.{IfSome, ◌<◌}
use Rattle.files.specs.Decode.{decode_interface}
use Rattle.files.specs.Record.{count}
use Rattle.files.specs.Sides.Reads.{record_found, none_found}
use Rattle.files.proofs.settle.check_own.Goals as goal

pub returns-in-Some : goal.returns-in-Some
returns-in-Some c =
    let g = c.args.graph.now in
    let n = count g in
    rw (
      c.at.ensures,
      record_found (decode_interface c.args.interface.now) g c.in-Some.foreign (sym (ap (λ o. unwrap_or o n) c.in-Some.is) ∙ c.first_foreign.ensures.0)
          (subst (λ o. IfSome o (λ v. v < n)) c.in-Some.is c.first_foreign.ensures.1),
    )

pub returns-in-None : goal.returns-in-None
returns-in-None c =
    let g = c.args.graph.now in
    let n = count g in
    rw (none_found (decode_interface c.args.interface.now) g n (sym (ap (λ o. unwrap_or o n) c.in-None.is) ∙ c.first_foreign.ensures.0) (omega arith))
