-- The theorems of specs/Levels/Nine/Spelled that rest on a definition which a must-fail edit turns: there they could not be read under the edit.
-- Spelled: One operator 10 and its nine boxes hold at the same nodes, for properties and flow graphs of any size whose labels are 0 to 8, however the boxes are joined.
-- From the one to the nine: the rows that hold, and every new row wherever the operator 10 is true, solve the longer equations. Back: what holds of the longer property,
-- cut to the rows of the shorter, solves the shorter equations, since every edge has one of the nine labels.
use Rattle.std.specs.Prelude.{◌≡◌, ◌⊎◌, ◌↔◌, ℕ, ◌≤◌, ◌<◌, T, length}
use Rattle.std.proofs.Common.{sym, subst, inl, inr, arith}
use mathlib.Core.List.{List}
use Rattle.std.proofs.Math.Decide.{ℕ_discrete, dec_lt}
use Rattle.files.specs.Basics.Tests.{and_l, and_r, and_i}
use Rattle.files.specs.Graph.{Graph, size, Flow}
use Rattle.files.specs.Property.{Row, box, box_all, row, Property}
use Rattle.judging.specs.Levels.{after, Holds, holds, Satisfies}
use Rattle.judging.specs.Levels.Laws.{obliged_named, obliged_box, truth_mono, after_e, after_i}
use Rattle.judging.proofs.Theorems.Levels.Laws.{holds_truth, holds_agrees}
use Rattle.judging.proofs.Theorems.Levels.Greatest.{greatest_tests}
use Rattle.judging.specs.Levels.Nine.{NineLabels, Joined, itself, by_first, by_second, JoinsNew, Spells, SpellsOut, as_is, one_more}
use Rattle.judging.specs.Levels.Nine.Spelled.{Says, SaysAs, after_all, box_own, new_read, old_read, operand, read_new, read_off, read_old, spells_property}

module _ (P Q : List Row) (r a : ℕ) (wf : Property P) (spells : Spells P Q r a) where
  module _ (G : Graph) (flow : Flow G) (labels : NineLabels G) where
    read_solves : (g q : ℕ) → g < size G → q < length Q → T ((read_off P Q r a wf spells G flow labels) g q) → (Says P Q r a wf spells G flow labels) (read_off P Q r a wf spells G flow labels) g (row Q q)
    read_solves g q hg hq t = go (dec_lt q (length P)) (ℕ_discrete q r)
      where
        joined : (x : Row) → JoinsNew P Q x → T (after G (holds G P) g (box_all a)) → (Says P Q r a wf spells G flow labels) (read_off P Q r a wf spells G flow labels) g x
        joined x j s =
            subst ((Says P Q r a wf spells G flow labels) (read_off P Q r a wf spells G flow labels) g) (sym j.2) (and_i ((read_off P Q r a wf spells G flow labels) g j.0) ((read_off P Q r a wf spells G flow labels) g j.1) ((read_new P Q r a wf spells G flow labels) g j.0 j.3.0 s) ((read_new P Q r a wf spells G flow labels) g j.1 j.4.0 s))

        new : (x : Row) → ((l : ℕ) × (x ≡ box l a)) ⊎ JoinsNew P Q x → T (after G (holds G P) g (box_all a)) → (Says P Q r a wf spells G flow labels) (read_off P Q r a wf spells G flow labels) g x
        new x (inl b) s =
            subst ((Says P Q r a wf spells G flow labels) (read_off P Q r a wf spells G flow labels) g) (sym b.1) (after_i G (read_off P Q r a wf spells G flow labels) g (box b.0 a) (λ e m p c o.
            let same = (obliged_box b.0 a e.label c o).1 in
            subst (λ (i : ℕ). T ((read_off P Q r a wf spells G flow labels) e.to i)) same ((read_old P Q r a wf spells G flow labels) e.to a (operand P Q r a wf spells) ((after_all G (holds G P) g a).0 s e m p))))
        new x (inr j) s = joined x j s

        any_true : T (holds G P g r) → T (after G (holds G P) g (box_all a))
        any_true s = subst ((Says P Q r a wf spells G flow labels) (holds G P) g) spells.is_any (holds_truth G P flow wf g r hg spells.is_row s)

        old : (h : q < length P) → (Says P Q r a wf spells G flow labels) (read_off P Q r a wf spells G flow labels) g (row P q)
        old h =
            truth_mono (length P) (row P q) _ _ (holds G P g) ((read_off P Q r a wf spells G flow labels) g) (after G (holds G P) g (row P q)) (after G (read_off P Q r a wf spells G flow labels) g (row P q)) (wf.names_rows q h) ((read_old P Q r a wf spells G flow labels) g)
            (λ s. after_i G (read_off P Q r a wf spells G flow labels) g (row P q) (λ e m p b o.
            (read_old P Q r a wf spells G flow labels) e.to b (obliged_named (length P) (row P q) e.label b (wf.names_rows q h) o) (after_e G (holds G P) g (row P q) s e m p b o)))
            (holds_truth G P flow wf g q hg h ((old_read P Q r a wf spells G flow labels) g q h t))

        go : Dec (q < length P) → Dec (q ≡ r) → (Says P Q r a wf spells G flow labels) (read_off P Q r a wf spells G flow labels) g (row Q q)
        go (no k) d = let h : length P ≤ q = omega arith in new (row Q q) (spells.fresh q (h, hq)) ((new_read P Q r a wf spells G flow labels) g q h t)
        go (yes k) (yes e) =
            subst (λ (i : ℕ). (Says P Q r a wf spells G flow labels) (read_off P Q r a wf spells G flow labels) g (row Q i)) (sym e)
            (joined (row Q r) spells.joins (any_true (subst (λ (i : ℕ). T (holds G P g i)) e ((old_read P Q r a wf spells G flow labels) g q k t))))
        go (yes k) (no e) = subst ((Says P Q r a wf spells G flow labels) (read_off P Q r a wf spells G flow labels) g) (sym (spells.same q k e)) (old k)

    -- a row that holds has what it comes to by "and"s hold
    joined_holds : (g : ℕ) → g < size G → (c d : ℕ) → Joined Q c d → T (holds G Q g c) → T (holds G Q g d)
    joined_holds g hg c d (itself _) t = t
    joined_holds g hg c d (by_first _ _ x y h e j) t =
        joined_holds g hg x d j (and_l (holds G Q g x) (holds G Q g y) (subst ((Says P Q r a wf spells G flow labels) (holds G Q) g) e (holds_truth G Q flow (spells_property P Q r a wf spells) g c hg h t)))
    joined_holds g hg c d (by_second _ _ x y h e j) t =
        joined_holds g hg y d j (and_r (holds G Q g x) (holds G Q g y) (subst ((Says P Q r a wf spells G flow labels) (holds G Q) g) e (holds_truth G Q flow (spells_property P Q r a wf spells) g c hg h t)))

    cut_solves : (g q : ℕ) → g < size G → q < length P → T (holds G Q g q) → (Says P Q r a wf spells G flow labels) (holds G Q) g (row P q)
    cut_solves g q hg hq t = go (ℕ_discrete q r)
      where
        all_boxes : T (holds G Q g r) → T (after G (holds G Q) g (box_all a))
        all_boxes s = (after_all G (holds G Q) g a).1 (λ e m p.
            let b = spells.boxes e.label (labels e m) in
            let u = subst ((Says P Q r a wf spells G flow labels) (holds G Q) g) b.2 (holds_truth G Q flow (spells_property P Q r a wf spells) g b.0 hg b.1 (joined_holds g hg r b.0 b.3 s)) in
            after_e G (holds G Q) g (box e.label a) u e m p a (box_own e.label a))

        go : Dec (q ≡ r) → (Says P Q r a wf spells G flow labels) (holds G Q) g (row P q)
        go (yes e) =
            subst (λ (i : ℕ). (Says P Q r a wf spells G flow labels) (holds G Q) g (row P i)) (sym e)
            (subst ((Says P Q r a wf spells G flow labels) (holds G Q) g) (sym spells.is_any) (all_boxes (subst (λ (i : ℕ). T (holds G Q g i)) e t)))
        go (no e) = let k = spells.longer in subst ((Says P Q r a wf spells G flow labels) (holds G Q) g) (spells.same q hq e) (holds_truth G Q flow (spells_property P Q r a wf spells) g q hg (omega arith) t)

    -- every row of P holds where it holds of Q
    pub spells_holds : (g q : ℕ) → g < size G → q < length P → Holds G P g q ↔ Holds G Q g q
    spells_holds g q hg hq = (
      λ f. greatest_tests G Q flow (spells_property P Q r a wf spells) (read_off P Q r a wf spells G flow labels) read_solves g q hg (let k = spells.longer in omega arith) ((read_old P Q r a wf spells G flow labels) g q hq ((holds_agrees G P flow wf g q hg hq).1 f)),
      λ f. greatest_tests G P flow wf (holds G Q) cut_solves g q hg hq ((holds_agrees G Q flow (spells_property P Q r a wf spells) g q hg (let k = spells.longer in omega arith)).1 f),
    )

pub spelled_out : (P Q : List Row) → Property P → SpellsOut P Q → SaysAs P Q
spelled_out P Q wf as_is = record { is_property = wf; longer = omega arith; holds_as = λ G flow labels g q hg hq. (λ f. f, λ f. f) }
spelled_out P Q wf (one_more M _ r a out s) =
    let t = spelled_out P M wf out in
    let k = t.longer in
    let l = s.longer in
    record {
      is_property = spells_property M Q r a t.is_property s;
      longer = omega arith;
      holds_as = λ G flow labels g q hg hq.
          let i = t.holds_as G flow labels g q hg hq in
          let j = spells_holds M Q r a t.is_property s G flow labels g q hg (omega arith) in
          (λ f. j.0 (i.0 f), λ f. i.1 (j.1 f));
    }

-- "nine boxes and one operator 10 must get equal verdicts on every graph", however the boxes are joined
pub spelled_satisfies : (P Q : List Row) → Property P → SpellsOut P Q → (G : Graph) → Flow G → NineLabels G → Satisfies G P ↔ Satisfies G Q
spelled_satisfies P Q wf out G flow labels =
    let s = spelled_out P Q wf out in
    (λ f g h e. (s.holds_as G flow labels g 0 h wf.has_root).0 (f g h e), λ f g h e. (s.holds_as G flow labels g 0 h wf.has_root).1 (f g h e))
