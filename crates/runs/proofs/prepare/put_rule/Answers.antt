use mathlib.Core.Path.{ap}
use Prim.Native.Nat.{ℕ, ◌+◌}
use Rattle.runs.proofs.PrepareLaws.{rule_slot, rule_put}
use Rattle.runs.proofs.prepare.put_rule.Goals as goal

pub slot-requires : goal.slot-requires
slot-requires c =
    let x = c.rule_at-rule in
    rule_slot c.args.rules.now c.requires.0 c.args.j c.requires.1.0 _ x.ensures

pub returns : goal.returns
returns c =
    let x = c.rule_at-rule in
    let p = c.put in
    rule_put c.args.rules.now c.requires.0 c.args.j c.requires.1.0 _ x.ensures
    c.args.work.now _ _ (ap (λ (n : ℕ). n + x.result.state) c.slot.ensures.0) c.requires.1.1.0 p.ensures c.requires.1.1.1
