-- Four runs of bytes stored one behind the other are the bytes of the joined graph.
use mathlib.Core.Path.{◌≡◌, sym, ap}
use Prim.Native.Nat.{ℕ, ◌+◌, ◌*◌, ◌-◌}
use native.Mathlib.Omega.{arith}
use lib.ListN.{take, drop}
use Rattle.files.specs.Places.{record_len}
use Rattle.runs.specs.Joining.Bytes.{first_room, first_cut, second_cut, join_stored}
use Rattle.runs.proofs.joining.write_join.Goals as goal

pub slice_bounds-copy_at-end : goal.slice_bounds-copy_at-end
slice_bounds-copy_at-end c =
    sym (first_cut c.args.s c.args.graph1.now c.args.graph2.now c.requires.0)

pub slice_bounds-copy_at-end-2 : goal.slice_bounds-copy_at-end-2
slice_bounds-copy_at-end-2 c =
    sym (second_cut c.args.s c.args.graph1.now c.args.graph2.now c.requires.0)

pub slice_bounds-copy_at-end-3 : goal.slice_bounds-copy_at-end-3
slice_bounds-copy_at-end-3 c =
    first_room c.args.s c.args.graph1.now c.args.graph2.now c.requires.0

pub returns : goal.returns
returns c =
    let s = c.args.s in
    let f = c.args.graph1.now in
    let c1 = c.copy_at in
    let c2 = c.copy_at-2 in
    let c3 = c.copy_at-3 in
    let w = c.write_all_moved in
    let e : record_len * (s.first.nodes + s.first.edges) - record_len * s.first.nodes ≡ record_len * s.first.edges = omega arith in
    join_stored s f c.args.graph2.now c.requires.0 c.args.out.now c1.new.dst c2.new.dst c3.new.dst w.new.out
    (take (record_len * (s.first.nodes + s.first.edges) - record_len * s.first.nodes) (drop (record_len * s.first.nodes) f)) c1.ensures c2.ensures c3.ensures
    (ap (λ (n : ℕ). take n (drop (record_len * s.first.nodes) f)) e) w.ensures
