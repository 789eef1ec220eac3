-- The nodes are the first records of the part that stands.
use mathlib.Core.Path.{◌≡◌, sym, ap, ◌∙◌}
use Prim.Native.Nat.{ℕ, ◌+◌, ◌*◌}
use native.Mathlib.Omega.{arith}
use lib.ListN.{length}
use Rattle.files.specs.Assemble.Bytes.{node_cut, node_cut_length, node_recs, node_recs_count}
use Rattle.files.specs.Assemble.Stood.{node_count, nodes_end}
use Rattle.files.specs.Cells.{put_at}
use Rattle.files.specs.Deliveries.{decode_deliveries}
use Rattle.files.specs.Places.{record_len}
use Rattle.files.proofs.assembled.write_own_nodes.Goals as goal

pub records_in-nodes-requires : goal.records_in-nodes-requires
records_in-nodes-requires c = let at = c.standing_part-part.ensures in (omega arith, omega (arith, at.within, nodes_end at))

pub copy_at-requires : goal.copy_at-requires
copy_at-requires c =
    let part = c.standing_part-part in
    let l = c.args.file.now in
    omega (arith, c.requires.1.1, ap length c.records_in-nodes.ensures, node_cut_length l c.args.method part.result part.ensures, node_count part.ensures, node_recs_count (decode_deliveries l) c.args.method)

pub returns : goal.returns
returns c =
    let a = c.args in
    let part = c.standing_part-part in
    let n : part.result.nodes ≡ length (node_recs (decode_deliveries a.file.now) a.method) = node_count part.ensures ∙ sym (node_recs_count (decode_deliveries a.file.now) a.method) in (
      ap (λ (k : ℕ). a.at + k) n,
      c.copy_at.ensures ∙ ap (put_at a.out.now (record_len * a.at)) (c.records_in-nodes.ensures ∙ node_cut a.file.now a.method part.result part.ensures),
    )
