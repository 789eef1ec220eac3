-- The theorems of specs/Ranking/Files that rest on a definition which a must-fail edit turns: there they could not be read under the edit.
-- Files: What accepted files say to the code of judging: the counts, the flow graph and the property that they hold, and which rows are false by themselves or by their operands.
use Rattle.std.specs.Prelude.{◌≡◌, refl, Bool, true, false, not, ◌&&◌, ◌||◌, List, ℕ, T, eqb}
use Rattle.std.proofs.Common.{sym, ap, subst, ◌∙◌}
use Rattle.std.proofs.Math.Bool.{or-false}
use Rattle.files.specs.Access.{row_held, first_of, operator_of}
use Rattle.files.specs.Basics.Tests.{T_eq}
use Rattle.files.specs.Graph.{Graph, node}
use Rattle.files.specs.Property.{Row, always, never, returns, not_returns, in_method, not_in_method, both, either, box, box_all, row}
use Rattle.judging.specs.Levels.{truth, after, level}
use Rattle.judging.specs.Levels.Laws.{after_i, level_next}
use Rattle.judging.proofs.Theorems.Levels.Laws.{level_zero}
use Rattle.judging.specs.Ranking.{leaf_false, may_fall}

-- ---- rows that are false by themselves

pub leaf_level : (G : Graph) (P : List Row) (g r : ℕ)
    → leaf_false (operator_of (row_held (row P r))) (first_of (row_held (row P r))) (node G g).method (node G g).ret ≡ not (level G P 1 g r)
leaf_level G P g r = go (row P r) (after G (level G P 0) g (row P r)) (T_eq _ (after_i G (level G P 0) g (row P r) (λ e m p b q. level_zero G P e.to b))) ∙ ap not (sym (level_next G P 0 g r))
  where
    flip : (b : Bool) → b ≡ not (not b)
    flip true = refl
    flip false = refl

    drop_three : (b : Bool) → b || false || false || false ≡ b
    drop_three true = refl
    drop_three false = refl

    drop_two : (b : Bool) → b || false || false ≡ not (not b)
    drop_two true = refl
    drop_two false = refl

    go : (x : Row) (w : Bool) → w ≡ true
        → leaf_false (operator_of (row_held x)) (first_of (row_held x)) (node G g).method (node G g).ret ≡ not (truth x (node G g).method (node G g).ret (level G P 0 g) w)
    go always w e = refl
    go never w e = refl
    go returns w e = or-false _
    go not_returns w e = flip (node G g).ret
    go (in_method a) w e = drop_three (not (eqb (node G g).method a))
    go (not_in_method a) w e = drop_two (eqb (node G g).method a)
    go (both a b) w e = sym (ap not (truth_both (level G P 0 g a) (level G P 0 g b) (level_zero G P g a) (level_zero G P g b)))
      where
        truth_both : (c d : Bool) → T c → T d → c && d ≡ true
        truth_both true true s t = refl
        truth_both true false s t = absurd t
        truth_both false d s t = absurd s
    go (either a b) w e = sym (ap not (truth_either (level G P 0 g a) (level G P 0 g b) (level_zero G P g a)))
      where
        truth_either : (c d : Bool) → T c → c || d ≡ true
        truth_either true d s = refl
        truth_either false d s = absurd s
    go (box l b) w e = sym (ap not e)
    go (box_all a) w e = sym (ap not e)

-- no other row is
pub fallen_may : (G : Graph) (P : List Row) (g r : ℕ) → T (not (level G P 1 g r)) → T (may_fall (operator_of (row_held (row P r))))
fallen_may G P g r t = go (row P r) (subst T (sym (leaf_level G P g r)) t)
  where
    go : (x : Row) → T (leaf_false (operator_of (row_held x)) (first_of (row_held x)) (node G g).method (node G g).ret) → T (may_fall (operator_of (row_held x)))
    go always t = absurd t
    go never t = tt
    go returns t = tt
    go not_returns t = tt
    go (in_method a) t = tt
    go (not_in_method a) t = tt
    go (both a b) t = absurd t
    go (either a b) t = absurd t
    go (box l b) t = absurd t
    go (box_all a) t = absurd t
