use mathlib.Core.Path.{refl, ◌∙◌}
use Prim.Native.Nat.{◌+◌, ◌*◌, ◌-◌}
use Rattle.files.specs.Places.{line_bytes}
use Rattle.judging.proofs.RelationLaws.{kinds_stay, prepared}
use mathlib.Core.Logic.{inr}
use native.Mathlib.Omega.{arith}
use Rattle.judging.proofs.ClearedLaws.{cleared_length, cleared_inside}
use Rattle.judging.specs.Places.{kinds_base, neighbours_base}
use Rattle.judging.proofs.relation.prepare.Goals as goal

pub put_kinds-requires : goal.put_kinds-requires
put_kinds-requires c = (c.requires.0, (omega (arith, (cleared_length kinds_base (neighbours_base + 10 * line_bytes * c.args.s.second.nodes - kinds_base) c.args.work.now c.clear.new.work c.clear.ensures), c.requires.1), λ q a b. cleared_inside kinds_base (neighbours_base + 10 * line_bytes * c.args.s.second.nodes - kinds_base) c.args.work.now c.clear.new.work c.clear.ensures (omega (arith, c.requires.1, c.requires.0.second_held.few_nodes)) q a (omega (arith, b))))

pub link_slots-requires : goal.link_slots-requires
link_slots-requires c = (c.requires.0, (omega (arith, c.put_kinds.auto.work, (cleared_length kinds_base (neighbours_base + 10 * line_bytes * c.args.s.second.nodes - kinds_base) c.args.work.now c.clear.new.work c.clear.ensures), c.requires.1), λ q a b. c.put_kinds.ensures.1 q (inr a) ∙ cleared_inside kinds_base (neighbours_base + 10 * line_bytes * c.args.s.second.nodes - kinds_base) c.args.work.now c.clear.new.work c.clear.ensures (omega (arith, c.requires.1, c.requires.0.second_held.few_nodes)) q (omega (arith, a)) (omega (arith, b))))

pub put_edges-requires : goal.put_edges-requires
put_edges-requires c = (c.requires.0, (omega (arith, c.link_slots.auto.work, c.put_kinds.auto.work, (cleared_length kinds_base (neighbours_base + 10 * line_bytes * c.args.s.second.nodes - kinds_base) c.args.work.now c.clear.new.work c.clear.ensures), c.requires.1), λ q a b. c.link_slots.ensures.1 q (inr (omega (arith, a))) ∙ c.put_kinds.ensures.1 q (inr (omega (arith, a))) ∙ cleared_inside kinds_base (neighbours_base + 10 * line_bytes * c.args.s.second.nodes - kinds_base) c.args.work.now c.clear.new.work c.clear.ensures (omega (arith, c.requires.1, c.requires.0.second_held.few_nodes)) q (omega (arith, a)) (omega (arith, b))))

pub relate-requires : goal.relate-requires
relate-requires c = (c.requires.0, (omega (arith, c.put_edges.auto.work, c.link_slots.auto.work, c.put_kinds.auto.work, (cleared_length kinds_base (neighbours_base + 10 * line_bytes * c.args.s.second.nodes - kinds_base) c.args.work.now c.clear.new.work c.clear.ensures), c.requires.1), kinds_stay c.args.s c.args.first.now c.args.second.now c.requires.0 c.put_kinds.new.work c.link_slots.new.work c.put_edges.new.work c.put_edges.new.work c.link_slots.ensures.1 c.put_edges.ensures.1 (λ q d. refl) c.put_kinds.ensures.0))

pub returns : goal.returns
returns c = prepared c.args.s c.args.first.now c.args.second.now c.requires.0 c.put_kinds.new.work c.link_slots.new.work c.put_edges.new.work c.relate.new.work c.link_slots.ensures.1 c.put_edges.ensures.1 c.relate.ensures.1 (omega (arith, c.relate.auto.work, c.put_edges.auto.work, c.link_slots.auto.work, c.put_kinds.auto.work, (cleared_length kinds_base (neighbours_base + 10 * line_bytes * c.args.s.second.nodes - kinds_base) c.args.work.now c.clear.new.work c.clear.ensures), c.requires.1)) c.link_slots.ensures.0 c.put_edges.ensures.0 c.relate.ensures.0
