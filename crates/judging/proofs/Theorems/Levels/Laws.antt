-- The theorems of specs/Levels/Laws that rest on a definition which a must-fail edit turns: there they could not be read under the edit.
-- Laws: The laws of judging: a row that ever turns false has done so by level nodes * rows. (That what holds is the greatest solution of the rows' equations: Greatest.)
use Rattle.std.specs.Prelude.{◌↔◌, ℕ, zero, suc, ◌*◌, ◌<◌, T}
use Rattle.std.proofs.Math.Bool.{not}
use mathlib.Core.List.{List, Memᴰ}
use Rattle.std.proofs.Math.Dec.{not_T, T_not}
use Rattle.std.proofs.Math.ListN.{length}
use Rattle.files.specs.Basics.Settle.{falls, settled}
use Rattle.files.specs.Basics.Tests.{grid, grid_i, length_grid}
use Rattle.files.specs.Graph.{Graph, size, node, Flow}
use Rattle.files.specs.Property.{Row, row, Property}
use Rattle.judging.specs.Levels.{truth, after, next, level, Holds, holds, Satisfies, satisfies}
use Rattle.judging.specs.Levels.Laws.{Under, at, at_mono, satisfies_iff}

module _ (G : Graph) (P : List Row) (flow : Flow G) (wf : Property P) where
  at_start : (x : ℕ × ℕ) → Memᴰ x (grid (size G) (length P)) → T ((at G P flow wf) zero x)
  unfolding level
  at_start x m = tt

  -- T1. A row that holds is true at every level: so one that is ever false is false by level nodes * rows.
  pub never_false : (g r : ℕ) → g < size G → r < length P → T (holds G P g r) → (k : ℕ) → T (level G P k g r)
  unfolding holds
  never_false g r hg hr t k =
      settled (grid (size G) (length P)) (at G P flow wf) at_start (at_mono G P flow wf) (g, r) (grid_i (size G) (length P) g r hg hr) (rw (length_grid (size G) (length P)) t) k

  -- a level is below the one before it
  pub level_falls : (k : ℕ) → (Under G P flow wf) (level G P (suc k)) (level G P k)
  level_falls k g r hg hr t = falls (grid (size G) (length P)) (at G P flow wf) at_start (at_mono G P flow wf) k (g, r) (grid_i (size G) (length P) g r hg hr) t

  -- a row that holds is true from what holds
  pub holds_down : (Under G P flow wf) (holds G P) (next G P (holds G P))
  unfolding holds level
  holds_down g r hg hr t = never_false g r hg hr t (suc (size G * length P))

  -- so a row that holds is true from what holds
  pub holds_truth : (g r : ℕ) → g < size G → r < length P → T (holds G P g r)
      → T (truth (row P r) (node G g).method (node G g).ret (holds G P g) (after G (holds G P) g (row P r)))
  unfolding next
  holds_truth g r hg hr t = holds_down g r hg hr t

-- The computed tests say what the definitions say.
module _ (G : Graph) (P : List Row) (flow : Flow G) (wf : Property P) where
  pub holds_agrees : (g r : ℕ) → g < size G → r < length P → T (holds G P g r) ↔ Holds G P g r
  unfolding holds
  holds_agrees g r hg hr = (never_false G P flow wf g r hg hr, λ f. f (size G * length P))

  -- A row that ever turns false has done so by level nodes * rows.
  pub false_soon : (g r k : ℕ) → g < size G → r < length P → T (not (level G P k g r)) → T (not (level G P (size G * length P) g r))
  unfolding holds
  false_soon g r k hg hr t = not_T (level G P (size G * length P) g r) (λ s. T_not (level G P k g r) t (never_false G P flow wf g r hg hr s k))

  pub satisfies_agrees : T (satisfies G P) ↔ Satisfies G P
  satisfies_agrees = (
    λ t g h s. (holds_agrees g 0 h wf.has_root).0 ((satisfies_iff G P).0 t g h s),
    λ f. (satisfies_iff G P).1 (λ g h s. (holds_agrees g 0 h wf.has_root).1 (f g h s)),
  )

-- the levels, as equations
pub level_zero : (G : Graph) (P : List Row) (g r : ℕ) → T (level G P zero g r)
unfolding level
level_zero G P g r = tt
