use mathlib.Core.Path.{◌≡◌, ap, subst, ◌∙◌}
use Prim.Native.Nat.{ℕ, ◌+◌, ◌-◌, ◌≤◌}
use native.Mathlib.Omega.{arith}
use Rattle.files.specs.Assemble.Bytes.{node_recs, run, run_on, run_fits, all_nodes}
use Rattle.files.specs.Cells.{put_at}
use Rattle.files.specs.Cells.Wrote.{Wrote, wrote_none}
use Rattle.files.specs.Deliveries.{decode_deliveries}
use Rattle.files.proofs.assembled.write_all_nodes.Goals as goal

pub loop-method-init : goal.loop-method-init
loop-method-init c = wrote_none c.args.out.now 0

pub write_own_nodes-at-requires : goal.write_own_nodes-at-requires
write_own_nodes-at-requires c =
    let ds = decode_deliveries c.args.file.now in
    let loop = c.loop-method in
    let m = loop.method in
    let e : m ≡ 1 + (m - 1) = omega arith in
    let h : m ≤ 8 = omega arith in
    (c.requires.0, (h, run_fits (node_recs ds) c.args.out.now loop.out 0 loop.at (m - 1) m loop.invariant e h (omega (arith, c.requires.1, all_nodes ds))))

pub loop-method-preserved : goal.loop-method-preserved
loop-method-preserved c =
    let a = c.args in
    let f = node_recs (decode_deliveries a.file.now) in
    let loop = c.loop-method in
    let m = loop.method in
    let put = c.write_own_nodes-at in
    let e : m ≡ 1 + (m - 1) = omega arith in
    let k : m - 1 + 1 ≡ m + 1 - 1 = omega arith in
    subst (λ (n : ℕ). Wrote a.out.now put.new.out 0 put.result (run f n)) k
    (run_on f a.out.now loop.out 0 loop.at (m - 1) m loop.invariant e put.new.out put.result (omega arith) put.ensures.1 put.auto.out put.ensures.0)

pub returns : goal.returns
returns c =
    let a = c.args in
    let loop = c.loop-method in
    let e : loop.method - 1 ≡ 8 = omega arith in
    loop.invariant.bytes ∙ ap (λ (k : ℕ). put_at a.out.now 0 (run (node_recs (decode_deliveries a.file.now)) k)) e
