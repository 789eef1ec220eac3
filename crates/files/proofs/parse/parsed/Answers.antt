use mathlib.Core.Path.{refl, sym, ◌∙◌}
use native.Mathlib.Omega.{arith}
use borrow.Author.Tests.{ne_eqb}
use Rattle.files.specs.Record.Laws.{parsed_kind}
use Rattle.files.proofs.parse.parsed.Goals as goal

pub returns-in_default : goal.returns-in_default
returns-in_default c =
    let k = c.args.r.kind in
    let t = parsed_kind k c.args.r refl in
    sym (t ∙ rw (ne_eqb k 1 (λ e. omega arith), ne_eqb k 2 (λ e. omega arith), ne_eqb k 3 (λ e. omega arith), ne_eqb k 4 (λ e. omega arith), ne_eqb k 5 (λ e. omega arith)) refl)
