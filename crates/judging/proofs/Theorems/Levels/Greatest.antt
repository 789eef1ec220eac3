-- The theorems of specs/Levels/Greatest that rest on a definition which a must-fail edit turns: there they could not be read under the edit.
-- Greatest: What holds is the greatest solution of the rows' equations, among all predicates: it solves them, and lies above whatever is consistent with them.
use Rattle.std.specs.Prelude.{Bool, List, ℕ, zero, suc, ◌<◌, T, length}
use Rattle.files.specs.Graph.{Graph, size, node, Flow}
use Rattle.files.specs.Property.{Row, row, Property}
use Rattle.judging.specs.Levels.{truth, after, level, Holds, holds}
use Rattle.judging.specs.Levels.Laws.{level_next}
use Rattle.judging.proofs.Theorems.Levels.Laws.{level_zero, holds_agrees, holds_truth, level_falls}
use Rattle.judging.specs.Levels.Equations.{Solution, Consistent}
use Rattle.judging.specs.Levels.Greatest.{follows_e, follows_i}

module _ (G : Graph) (P : List Row) (flow : Flow G) (wf : Property P) where
  -- "the greatest solution": every predicate that is consistent with the equations lies below what holds ..
  pub greatest_solution : (X : ℕ → ℕ → Type 0) → Consistent G P X → (g r : ℕ) → g < size G → r < length P → X g r → Holds G P g r
  greatest_solution X u g r hg hr x zero = level_zero G P g r
  greatest_solution X u g r hg hr x (suc k) =
      rw level_next ((follows_i G P flow wf) X (level G P k) (λ h s hh hs y. greatest_solution X u h s hh hs y k) g r hg hr (u g r hg hr x))

  -- in particular whatever is so by tests,
  pub greatest_tests : (v : ℕ → ℕ → Bool)
      → ((g r : ℕ) → g < size G → r < length P → T (v g r) → T (truth (row P r) (node G g).method (node G g).ret (v g) (after G v g (row P r))))
      → (g r : ℕ) → g < size G → r < length P → T (v g r) → Holds G P g r
  greatest_tests v u =
      greatest_solution (λ (g r : ℕ). T (v g r)) (λ g r hg hr t. (follows_e G P flow wf) (λ (g r : ℕ). T (v g r)) v (λ h s hh hs y. y) g r hg hr (u g r hg hr t))

  -- .. and what holds is a solution
  pub holds_solves : Solution G P (Holds G P)
  holds_solves g r hg hr = (
    λ f. (follows_e G P flow wf) (Holds G P) (holds G P) (λ h s hh hs. (holds_agrees G P flow wf h s hh hs).0) g r hg hr
        (holds_truth G P flow wf g r hg hr ((holds_agrees G P flow wf g r hg hr).1 f)),
    λ y k. level_falls G P flow wf k g r hg hr (rw level_next ((follows_i G P flow wf) (Holds G P) (level G P k) (λ h s hh hs f. f k) g r hg hr y)),
  )
