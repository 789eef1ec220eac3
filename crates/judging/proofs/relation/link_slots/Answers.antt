use mathlib.Core.Path.{refl}
use native.Mathlib.Omega.{arith}
use Rattle.judging.proofs.RelationLaws.{slots_start, may_slot, slots_turn}
use Rattle.judging.proofs.relation.link_slots.Goals as goal

pub loop-e-init : goal.loop-e-init
loop-e-init c = (slots_start c.args.s c.args.first.now c.args.second.now c.requires.0 c.args.work.now c.requires.1.1, λ q d. refl)

pub link-requires : goal.link-requires
link-requires c = may_slot c.args.s c.args.first.now c.args.second.now c.requires.0 c.loop-e.work c.loop-e.e c.slot_of-slot.result (omega arith) (omega (arith, c.requires.1.0)) c.slot_of-slot.ensures

pub loop-e-preserved : goal.loop-e-preserved
loop-e-preserved c =
    let l = c.loop-e in
    let p = c.link in
    let r = slots_turn c.args.s c.args.first.now c.args.second.now c.requires.0 c.args.work.now l.work p.new.work l.e c.slot_of-slot.result (omega arith) (omega (arith, c.requires.1.0)) c.slot_of-slot.ensures l.invariant.0 l.invariant.1 p.ensures in
    (r.0, r.1)
