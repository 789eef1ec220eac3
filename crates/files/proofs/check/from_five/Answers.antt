-- what the tests of numbers 5 and 6 said, of the records
use Rattle.std.specs.Prelude.{Err}
use mathlib.Core.Path.{◌≡◌, sym, ap, ◌∙◌}
use Prim.Native.Nat.{ℕ}
use Rattle.std.specs.Prelude.{Err}
use Rattle.files.specs.FileKind.{kind_of}
use Rattle.files.specs.Record.{count}
use Rattle.files.specs.Refusal.{missing}
use Rattle.files.specs.Checking.{over, over_with}
use Rattle.files.proofs.CheckLaws.{counted_le, missing_is, five_over, six_missing, five_fine}
use Rattle.files.proofs.check.from_five.Goals as goal
use Rattle.files.proofs.check.from_five.Goals.{After-over, After-missing}

over-said : (c : After-over) → over c.args.limits (kind_of c.args.kind) c.args.records.now ≡ c.over.result
over-said c =
    let a = c.args in
    sym (c.over.ensures ∙ ap (λ (x : ℕ). over_with a.limits (kind_of a.kind) x (count a.records.now)) c.count-apart.ensures)

missing-said : (c : After-missing) → missing (kind_of c.args.kind) c.args.records.now ≡ c.missing.result
missing-said c = sym (c.missing.ensures ∙ missing_is (kind_of c.args.kind) c.args.records.now)

pub over-requires : goal.over-requires
over-requires c = rw c.count-apart.ensures (counted_le (kind_of c.args.kind) c.args.records.now)

pub returns-then-over : goal.returns-then-over
returns-then-over c = ap Err c.at.ensures ∙ five_over c.args.limits (kind_of c.args.kind) c.args.records.now c.args.first c.args.position (over-said (goal.at.returns-then-over c).After-over ∙ c.if-over.true)

pub returns-then-missing : goal.returns-then-missing
returns-then-missing c = ap Err c.at-then-missing.ensures ∙ six_missing c.args.limits (kind_of c.args.kind) c.args.records.now c.args.first c.args.position (over-said (goal.at.returns-then-missing c).After-over ∙ c.if-over.false) (missing-said (goal.at.returns-then-missing c).After-missing ∙ c.if-missing.true)

pub returns : goal.returns
returns c = c.from_seven.ensures ∙ five_fine c.args.limits (kind_of c.args.kind) c.args.records.now c.args.first c.args.position (over-said (goal.at.returns c).After-over ∙ c.if-over.false) (missing-said (goal.at.returns c).After-missing ∙ c.if-missing.false)
