use mathlib.Core.Path.{refl, sym, ap, subst, ◌∙◌}
use mathlib.Core.Bool.{Bool}
use Prim.Native.Nat.{ℕ, ◌+◌}
use native.Mathlib.Omega.{arith}
use lib.ListN.{length}
use Rattle.files.specs.Decode.{decode_graph}
use Rattle.files.specs.Graph.{node}
use Rattle.judging.specs.Refinement.{Chosen}
use Rattle.judging.proofs.RowLaws.{chosen_none, chosen_put, chosen_over}
use Rattle.judging.proofs.cover.entries.Goals as goal
use Rattle.judging.proofs.cover.entries.Goals.{else-is_entry, then-is_entry}

pub loop-h-init : goal.loop-h-init
loop-h-init c = (refl, chosen_none (λ x. (node (decode_graph c.args.second.now) x).entry))

pub loop-h-preserved : goal.loop-h-preserved
loop-h-preserved c =
    let l = c.loop-h in
    let y = c.is_entry in
    let p : ℕ → Bool = λ x. (node (decode_graph c.args.second.now) x).entry in (elim c.if-is_entry.branch [ then-is_entry w ↦ ap length w.row-is ∙ w.put_bit.auto.work ∙ l.invariant.0 | else-is_entry w ↦ ap length w.row-is ∙ l.invariant.0 ], elim c.if-is_entry.branch [ then-is_entry w ↦ subst (Chosen p (l.h + 1)) (sym w.row-is) (chosen_put p l.row l.h l.invariant.1 w.put_bit.new.work (omega (arith, l.invariant.0)) (omega (arith, c.requires.second_held.few_nodes)) w.put_bit.ensures (sym y.ensures ∙ w.if-is_entry.true)) | else-is_entry w ↦ subst (Chosen p (l.h + 1)) (sym w.row-is) (chosen_over p l.row l.h l.invariant.1 (sym y.ensures ∙ w.if-is_entry.false)) ])
