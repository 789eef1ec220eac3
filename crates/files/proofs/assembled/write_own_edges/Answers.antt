-- The part that stands is a graph file by itself, and its edges are written as those of any graph behind others.
use mathlib.Core.Path.{sym, ap, ◌∙◌}
use Prim.Native.Nat.{◌*◌}
use native.Mathlib.Omega.{arith}
use Rattle.files.specs.Assemble.Bytes.{body_views, body_moved, node_recs_count, edge_recs_count}
use Rattle.files.specs.Assemble.Stood.{node_count, edge_count, nodes_end}
use Rattle.files.specs.Cells.{put_at}
use Rattle.files.specs.Deliveries.{decode_deliveries}
use Rattle.files.specs.Places.{record_len}
use Rattle.files.proofs.assembled.write_own_edges.Goals as goal

pub overflow_sub-view-2 : goal.overflow_sub-view-2
overflow_sub-view-2 c = omega (arith, nodes_end c.standing_part-part.ensures)

pub write_all_moved-requires : goal.write_all_moved-requires
write_all_moved-requires c =
    let l = c.args.file.now in
    let ds = decode_deliveries l in
    let m = c.args.method in
    let part = c.standing_part-part in
    rw c.records_in.ensures (
      body_views l m part.result part.ensures,
      (omega (arith, c.requires.1.1.1.0, node_count part.ensures, node_recs_count ds m), omega (arith, c.requires.1.1.1.1, edge_count part.ensures, edge_recs_count ds m)),
    )

pub returns : goal.returns
returns c =
    let a = c.args in
    let l = a.file.now in
    let ds = decode_deliveries l in
    let part = c.standing_part-part in (
      node_count part.ensures ∙ sym (node_recs_count ds a.method),
      (
        edge_count part.ensures ∙ sym (edge_recs_count ds a.method),
        (rw c.records_in.ensures at c.write_all_moved.ensures) ∙ ap (put_at a.out.now (record_len * a.at)) (body_moved l a.method part.result part.ensures a.before c.requires.1.1.0),
      ),
    )
