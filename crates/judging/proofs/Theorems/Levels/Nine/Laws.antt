-- The theorems of specs/Levels/Nine/Laws that rest on a definition which a must-fail edit turns: there they could not be read under the edit.
-- Laws: Nine boxes, written out: a property in which every operator 10 is written as nine boxes has none left, has sixteen rows more for each, and is satisfied by the same graphs.
use Rattle.std.specs.Prelude.{◌≡◌, ◌↔◌, List}
use Prim.Native.Nat.{ℕ, ◌<◌}
use Rattle.std.proofs.Math.ListN.{length}
use Rattle.files.specs.Basics.Tests.{same_test}
use Rattle.files.specs.Graph.{Graph, size, Flow}
use Rattle.files.specs.Property.{Row, box_all, row, Property}
use Rattle.judging.specs.Levels.{Holds, Satisfies, satisfies}
use Rattle.judging.proofs.Theorems.Levels.Laws.{satisfies_agrees}
use Rattle.judging.specs.Levels.Nine.{NineLabels, nine, all_nine, SpellsOut}
use Rattle.judging.specs.Levels.Nine.Spelled.{spells_property}
use Rattle.judging.proofs.Theorems.Levels.Nine.Spelled.{spells_holds, spelled_out, spelled_satisfies}
use Rattle.judging.specs.Levels.Nine.Laws.{Q, all_nine_spells, nine_spells}

-- One operator 10, and its nine boxes: a property again, and every row holds at the same nodes, on every flow graph whose labels are 0 to 8.
pub nine_one : (P : List Row) (r a : ℕ) → Property P → r < length P → row P r ≡ box_all a
    → Property (nine P r a) × ((G : Graph) → Flow G → NineLabels G → (g q : ℕ) → g < size G → q < length P → Holds G P g q ↔ Holds G (nine P r a) g q)
nine_one P r a wf h e = let s = nine_spells P r a h e in (spells_property P (nine P r a) r a wf s, spells_holds P (nine P r a) r a wf s)

-- "nine boxes and one operator 10 must get equal verdicts on every graph": on every flow graph of any size whose labels are 0 to 8, of a property of any size.
pub nine_boxes : (P : List Row) → Property P → (G : Graph) → Flow G → NineLabels G → Satisfies G P ↔ Satisfies G (all_nine P)
nine_boxes P wf = spelled_satisfies P (all_nine P) wf (all_nine_spells P)

-- every row, not row 0 alone
pub nine_boxes_hold : (P : List Row) → Property P → (G : Graph) → Flow G → NineLabels G → (g q : ℕ) → g < size G → q < length P → Holds G P g q ↔ Holds G (all_nine P) g q
nine_boxes_hold P wf = (spelled_out P (all_nine P) wf (all_nine_spells P)).holds_as

pub all_nine_property : (P : List Row) → Property P → Property (all_nine P)
all_nine_property P wf = (spelled_out P (all_nine P) wf (all_nine_spells P)).is_property

-- the computed verdicts are equal too
pub spelled_verdict : (P Q : List Row) → Property P → SpellsOut P Q → (G : Graph) → Flow G → NineLabels G → satisfies G P ≡ satisfies G Q
spelled_verdict P Q wf out G flow labels =
    let i = spelled_satisfies P Q wf out G flow labels in
    let a = satisfies_agrees G P flow wf in
    let b = satisfies_agrees G Q flow (spelled_out P Q wf out).is_property in
    same_test (satisfies G P) (satisfies G Q) (λ t. b.1 (i.0 (a.0 t))) (λ t. a.1 (i.1 (b.0 t)))
