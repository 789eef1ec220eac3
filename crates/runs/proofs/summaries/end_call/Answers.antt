-- The sets by caller are those of the entry state p and of its summary, which is `new`.
use mathlib.Core.Path.{ap, ◌∙◌}
use Prim.Native.Nat.{ℕ, suc, ◌^◌}
use native.Mathlib.Omega.{arith}
use Rattle.files.specs.Decode.{decode_rules}
use Rattle.files.specs.Rules.{watch, returns_to}
use Rattle.runs.specs.Worklist.{union}
use Rattle.runs.proofs.summaries.end_call.Goals as goal

pub run_calls-requires : goal.run_calls-requires
run_calls-requires c =
    let a = c.args in
    let into = c.entering_by-callers.ensures in
    let back = c.returning_by-ends.ensures in (
      c.requires.0,
      (
        c.requires.1.0,
        (
          omega (arith, c.requires.1.1.0),
          (
            c.requires.1.1.1.1.1.0,
            (
              c.requires.1.1.1.1.1.1,
              (
                a.p,
                c.requires.1.1.1.0,
                into,
                λ b hb. back b hb ∙ ap (union (λ (n : ℕ). 2 ^ watch (decode_rules a.rules.now) n (returns_to a.m (suc b)))) c.requires.1.1.1.1.0,
              ),
            ),
          ),
        ),
      ),
    )
