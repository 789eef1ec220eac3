use mathlib.Core.Path.{◌≡◌, ap, ◌∙◌}
use Prim.Native.Nat.{ℕ, ◌-◌, ◌≤◌}
use native.Mathlib.Omega.{arith}
use Rattle.files.specs.Record.{record_at}
use Rattle.files.specs.declared.record.Record.{Record}
use Rattle.files.specs.Deliveries.Names.{begun, start_before, node_own, node_foreign}
use Rattle.files.proofs.parts.name_own.Goals as goal

closed : {k : ℕ} → k ≡ 1 → k ≡ 6 → ⊥
closed e d = omega arith

positive : {n : ℕ} → (n ≡ 0 → ⊥) → 1 ≤ n
positive f = omega arith

pub overflow_sub-part : goal.overflow_sub-part
overflow_sub-part c =
    omega (arith, c.requires.1.1.0.0, positive (begun c.args.file.now c.requires.0 c.args.i c.requires.1.0 (closed c.requires.1.1.1)))

pub read-opening-requires : goal.read-opening-requires
read-opening-requires c =
    omega (arith, c.requires.1.0, c.requires.1.1.0.0, start_before c.args.file.now c.requires.0 c.args.i c.requires.1.0 (closed c.requires.1.1.1))

pub returns-then-node-opening : goal.returns-then-node-opening
returns-then-node-opening c =
    let a = c.args in
    let l = a.file.now in
    node_own l c.requires.0 a.i c.requires.1.0 (closed c.requires.1.1.1) c.requires.1.1.1 a.position _ _ (ap (λ (r : Record). r.first) c.read-node.ensures)
    (ap (λ (r : Record). r.first) (c.read-opening.ensures ∙ ap (λ (n : ℕ). record_at l (n - 1)) c.requires.1.1.0.0)) c.if-node-opening.true

pub returns : goal.returns
returns c =
    let a = c.args in
    let l = a.file.now in
    node_foreign l c.requires.0 a.i c.requires.1.0 (closed c.requires.1.1.1) c.requires.1.1.1 a.position _ _ (ap (λ (r : Record). r.first) c.read-node.ensures)
    (ap (λ (r : Record). r.first) (c.read-opening.ensures ∙ ap (λ (n : ℕ). record_at l (n - 1)) c.requires.1.1.0.0)) c.if-node-opening.false c.at.result c.at.ensures
