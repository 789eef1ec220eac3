-- The pair that is listed at place i, and its causes, are the record's six bytes.
-- the place that is listed is a pair of the graph and the property
use mathlib.Core.Path.{ap, ◌∙◌}
use Prim.Native.Nat.{◌*◌, ◌/◌, ◌%◌, ◌<◌}
use native.Mathlib.Omega.{arith}
use Rattle.files.specs.Cells.{put_at}
use Rattle.files.specs.Decode.{decode_graph, decode_property}
use Rattle.files.specs.Places.{record_len}
use Rattle.judging.proofs.SheetLaws.{listed_few, place_in, cause_bytes, fault_of}
use Rattle.judging.proofs.sheet.put_fault.Goals as goal
use Rattle.judging.proofs.sheet.put_fault.Goals.{After-causes_of-c, After-get-p}

abbrev InRange : After-get-p → Type 0
InRange y =
    let s = y.args.s in
    (y.get-p.result / 32 < s.graph.nodes) × (y.get-p.result % 32 < s.rows)

in_range : (y : After-get-p) → InRange y
in_range y =
    let a = y.args in
    place_in a.s a.graph.now a.property.now y.requires.0 a.n a.work.now y.requires.1.0 a.i y.get-p.result y.requires.1.1.0 y.get-p.ensures

-- the causes fit bytes
first-bytes : (y : After-causes_of-c) → (y.causes_of-c.result.first.node < 256) × (y.causes_of-c.result.first.row < 256)
first-bytes y =
    let a = y.args in
    let x = y.get-p.result in
    let h = place_in a.s a.graph.now a.property.now y.requires.0 a.n a.work.now y.requires.1.0 a.i x y.requires.1.1.0 y.get-p.ensures in
    cause_bytes a.s a.graph.now a.property.now y.requires.0 (x / 32) (x % 32) h.0 h.1 0 y.causes_of-c.result.first y.causes_of-c.ensures.0

second-bytes : (y : After-causes_of-c) → (y.causes_of-c.result.second.node < 256) × (y.causes_of-c.result.second.row < 256)
second-bytes y =
    let a = y.args in
    let x = y.get-p.result in
    let h = place_in a.s a.graph.now a.property.now y.requires.0 a.n a.work.now y.requires.1.0 a.i x y.requires.1.1.0 y.get-p.ensures in
    cause_bytes a.s a.graph.now a.property.now y.requires.0 (x / 32) (x % 32) h.0 h.1 1 y.causes_of-c.result.second y.causes_of-c.ensures.1

pub get-p-requires : goal.get-p-requires
get-p-requires c =
    let a = c.args in
    omega (arith, c.requires.1.1.0, listed_few a.s a.graph.now a.property.now c.requires.0 a.n a.work.now c.requires.1.0, c.requires.1.0.settled.room)

pub causes_of-c-requires : goal.causes_of-c-requires
causes_of-c-requires c =
    let h = in_range c in
    (c.requires.0, (h.0, (h.1, c.requires.1.0.settled)))

pub overflow_cast-g : goal.overflow_cast-g
overflow_cast-g c = omega (arith, in_range (goal.at.overflow_cast-g c).After-get-p)

pub overflow_cast-c : goal.overflow_cast-c
overflow_cast-c c = omega (arith, (first-bytes (goal.at.overflow_cast-c c).After-causes_of-c).0)

pub overflow_cast-c-2 : goal.overflow_cast-c-2
overflow_cast-c-2 c = omega (arith, (first-bytes (goal.at.overflow_cast-c-2 c).After-causes_of-c).1)

pub overflow_cast-c-3 : goal.overflow_cast-c-3
overflow_cast-c-3 c = omega (arith, (second-bytes (goal.at.overflow_cast-c-3 c).After-causes_of-c).0)

pub overflow_cast-c-4 : goal.overflow_cast-c-4
overflow_cast-c-4 c = omega (arith, (second-bytes (goal.at.overflow_cast-c-4 c).After-causes_of-c).1)

pub returns : goal.returns
returns c =
    let a = c.args in
    let x = c.get-p in
    let f = c.causes_of-c in
    c.put_record.ensures
    ∙ ap (put_at a.out.now (record_len * a.i))
    (c.fault-fault.ensures
    ∙ fault_of (decode_graph a.graph.now) (decode_property a.property.now) a.work.now a.i x.result f.result.first f.result.second x.ensures f.ensures.0
    f.ensures.1)
