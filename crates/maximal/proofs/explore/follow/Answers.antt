-- A slot with no label stays clear, one that asks as an earlier one gets its row, any other is worked anew; rows that look along another label ask for nothing.
use mathlib.Core.Path.{ap, ◌∙◌}
use mathlib.Core.Bool.{not}
use Prim.Native.Nat.{ℕ, ◌≤◌}
use native.Mathlib.Omega.{arith}
use lib.ListN.{length}
use Rattle.files.specs.Decode.{decode_interface, decode_property}
use Rattle.maximal.specs.Masks.{asked_of}
use Rattle.maximal.proofs.ExploreLaws.{Cleared, worked_none, among_fits, Stored, may_follow, worked_again}
use Rattle.maximal.proofs.MaskLaws.{asked_among}
use Rattle.maximal.specs.Places.{model_room}
use Rattle.maximal.proofs.explore.follow.Goals as goal
use Rattle.maximal.proofs.explore.follow.Goals.{After-is_label, After-put-3}

-- the slot is cleared, and is_label has told
cleared : (p : After-is_label) → Cleared p.args.s (decode_interface p.args.interface.now) p.args.property.now p.requires.1.1.0 p.args.i p.args.label p.args.c
    p.args.work.now p.clear_row.new.work p.is_label.result
cleared p =
    let h = p.requires.1.1.1 in record {
      of_states = h.0;
      of_labels = h.1.0;
      in_scope = h.1.1.0;
      room = omega (arith, p.clear_row.auto.work, h.1.1.1.0);
      tables₀ = h.1.1.1.1.0;
      charting₀ = h.1.1.1.1.1;
      blank = p.clear_row.ensures.0;
      beside = p.clear_row.ensures.1;
      told = p.is_label.ensures;
    }

-- the state's method and what it asks for are stored there
stored : (p : After-put-3)
    (y : Cleared p.args.s (decode_interface p.args.interface.now) p.args.property.now p.requires.1.1.0 p.args.i p.args.label p.args.c p.args.work.now
    p.clear_row.new.work p.is_label.result)
    → Stored _ _ _ _ y p.get-method.result p.asked-set.result p.put-2.new.work p.put-3.new.work
stored p y =
    let a = p.args in
    let P = decode_property a.property.now in
    let among = asked_among P a.label a.boxes.now p.requires.0 y.of_labels p.get.result in record {
      follows = ap not p.if-not-is_label.false;
      is_kind = p.get-method.ensures;
      asks = p.asked-set.ensures ∙ among ∙ ap (λ (u : ℕ). asked_of P u a.label) p.get.ensures;
      narrow = omega (arith, p.asked-set.type_inv);
      put_method = p.put-2.ensures;
      put_asked = p.put-3.ensures;
    }

still_room : (p : After-put-3) → model_room ≤ length p.clear_row.new.work → model_room ≤ length p.put-3.new.work
still_room p h = omega (arith, h, p.put-2.auto.work, p.put-3.auto.work)

pub returns-then-not-is_label : goal.returns-then-not-is_label
returns-then-not-is_label c =
    let y = cleared (goal.at.returns-then-not-is_label c).After-is_label in
    worked_none _ _ _ _ y (ap not c.if-not-is_label.true) c.put.new.work c.put.ensures

pub asked-set-requires : goal.asked-set-requires
asked-set-requires c =
    let x = c.requires.1.1.0 in
    (x.file, (x.rows_are, (x.few_rows, among_fits _ _ _ _ (cleared (goal.at.asked-set-requires c).After-is_label) c.get.result _ c.get.ensures)))

pub returns-then-p-q : goal.returns-then-p-q
returns-then-p-q c =
    let y = cleared (goal.at.returns-then-p-q c).After-is_label in
    let z = stored (goal.at.returns-then-p-q c).After-put-3 y in
    worked_again _ _ _ _ y z c.find_pair-p.result c.find_pair-p.ensures c.if-p-q.true c.copy_row.new.work c.copy_row.ensures.0 c.copy_row.ensures.1

pub follow_anew-requires : goal.follow_anew-requires
follow_anew-requires c =
    let y = cleared (goal.at.follow_anew-requires c).After-is_label in
    let p = (goal.at.follow_anew-requires c).After-put-3 in
    (c.requires.1.1.0, (omega (arith, y.of_states, y.of_labels), (y.in_scope, (still_room p y.room, may_follow _ _ _ _ y (stored p y)))))
