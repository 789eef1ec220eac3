use mathlib.Core.Path.{◌≡◌, subst}
use Prim.Native.Nat.{ℕ, ◌+◌, ◌-◌}
use native.Mathlib.Omega.{arith}
use Rattle.files.specs.Assemble.Stood.{Summed, nodes_end, summed_on, summed_all}
use Rattle.files.proofs.stood.standing_view.Goals as goal

pub overflow_sub-edges-in-loop-method : goal.overflow_sub-edges-in-loop-method
overflow_sub-edges-in-loop-method c = omega (arith, nodes_end c.standing_part-part.ensures)

pub loop-method-preserved : goal.loop-method-preserved
loop-method-preserved c =
    let l = c.args.file.now in
    let loop = c.loop-method in
    let part = c.standing_part-part in
    let e : loop.method ≡ 1 + (loop.method - 1) = omega arith in
    let k : loop.method - 1 + 1 ≡ loop.method + 1 - 1 = omega arith in
    subst (λ (n : ℕ). Summed l n (loop.nodes + part.result.nodes) (loop.edges + (part.result.end - part.result.start - part.result.nodes))) k
    (summed_on l (loop.method - 1) loop.method loop.nodes loop.edges part.result e loop.invariant part.ensures)

pub returns : goal.returns
returns c =
    let l = c.args.file.now in
    let loop = c.loop-method in
    let e : loop.method - 1 ≡ 8 = omega arith in
    summed_all l loop.nodes loop.edges (subst (λ (k : ℕ). Summed l k loop.nodes loop.edges) e loop.invariant)
