use mathlib.Core.Path.{◌≡◌, refl, ap, subst, ◌∙◌}
use Prim.Native.Nat.{ℕ, ◌+◌, ◌*◌, ◌-◌, ◌≤◌}
use native.Mathlib.Omega.{arith}
use lib.ListN.{length}
use Rattle.files.specs.Assemble.Bytes.{edge_recs, run, run_on, run_fits, nodes_on, nodes_before, all_edges}
use Rattle.files.specs.Cells.{put_at}
use Rattle.files.specs.Cells.Wrote.{Wrote, wrote_none}
use Rattle.files.specs.Deliveries.{decode_deliveries}
use Rattle.files.specs.Deliveries.Layout.{nodes_among}
use Rattle.files.specs.Places.{record_len}
use Rattle.files.proofs.assembled.write_all_edges.Goals as goal

pub loop-method-init : goal.loop-method-init
loop-method-init c = let a = c.args in (refl, wrote_none a.out.now a.first)

pub write_own_edges-own-requires : goal.write_own_edges-own-requires
write_own_edges-own-requires c =
    let ds = decode_deliveries c.args.file.now in
    let loop = c.loop-method in
    let m = loop.method in
    let e : m ≡ 1 + (m - 1) = omega arith in
    let h : m ≤ 8 = omega arith in (
      c.requires.0,
      (
        h,
        (
          loop.invariant.0,
          (
            omega (arith, loop.invariant.0, nodes_before ds (m - 1) m e h, c.requires.1.0),
            run_fits (edge_recs ds) c.args.out.now loop.out c.args.first loop.at (m - 1) m loop.invariant.1 e h (omega (arith, c.requires.1.1, all_edges ds)),
          ),
        ),
      ),
    )

pub overflow_add-before : goal.overflow_add-before
overflow_add-before c =
    let ds = decode_deliveries c.args.file.now in
    let loop = c.loop-method in
    let m = loop.method in
    let e : m ≡ 1 + (m - 1) = omega arith in
    omega (arith, loop.invariant.0, c.write_own_edges-own.ensures.0, nodes_before ds (m - 1) m e (omega arith), c.requires.1.0)

pub overflow_add-at : goal.overflow_add-at
overflow_add-at c =
    let ds = decode_deliveries c.args.file.now in
    let loop = c.loop-method in
    let m = loop.method in
    let e : m ≡ 1 + (m - 1) = omega arith in
    let room = run_fits (edge_recs ds) c.args.out.now loop.out c.args.first loop.at (m - 1) m loop.invariant.1 e (omega arith) (omega (arith, c.requires.1.1, all_edges ds)) in
    omega (arith, room, c.write_own_edges-own.ensures.1.0, loop.invariant.1.as_long)

pub loop-method-preserved : goal.loop-method-preserved
loop-method-preserved c =
    let a = c.args in
    let ds = decode_deliveries a.file.now in
    let loop = c.loop-method in
    let m = loop.method in
    let put = c.write_own_edges-own in
    let e : m ≡ 1 + (m - 1) = omega arith in
    let k : m - 1 + 1 ≡ m + 1 - 1 = omega arith in
    let on : loop.before + put.result.nodes ≡ nodes_among ds 1 (m - 1 + 1) = omega (arith, loop.invariant.0, put.ensures.0, nodes_on ds (m - 1) m e) in
    let sum : loop.at + put.result.edges ≡ loop.at + length (edge_recs ds m) = ap (λ (n : ℕ). loop.at + n) put.ensures.1.0 in (
      on ∙ ap (nodes_among ds 1) k,
      subst (λ (n : ℕ). Wrote a.out.now put.new.out a.first (loop.at + put.result.edges) (run (edge_recs ds) n)) k
          (run_on (edge_recs ds) a.out.now loop.out a.first loop.at (m - 1) m loop.invariant.1 e put.new.out (loop.at + put.result.edges) (omega (arith, c.requires.1.1)) put.ensures.1.1 put.auto.out sum),
    )

pub returns : goal.returns
returns c =
    let a = c.args in
    let loop = c.loop-method in
    let e : loop.method - 1 ≡ 8 = omega arith in
    loop.invariant.1.bytes ∙ ap (λ (k : ℕ). put_at a.out.now (record_len * a.first) (run (edge_recs (decode_deliveries a.file.now)) k)) e
