-- The theorems of specs/Levels/Ranks that rest on a definition which a must-fail edit turns: there they could not be read under the edit.
-- Ranks: The laws of ranks: what is false has a rank, at most nodes * rows, and its row is false of what had a lower rank.
use Rattle.std.specs.Prelude.{◌≡◌, refl, Bool, List, ℕ, zero, suc, ◌*◌, ◌≤◌, ◌<◌, T}
use Rattle.std.proofs.Common.{subst, arith, T_not}
use Rattle.std.proofs.Math.Bool.{not}
use Rattle.std.proofs.Math.Dec.{not_T}
use Rattle.std.proofs.Math.ListN.{length}
use Rattle.files.specs.Basics.Least.{least_hit}
use Rattle.files.specs.Graph.{Graph, size, node, Flow}
use Rattle.files.specs.Property.{Row, row, Property}
use Rattle.judging.specs.Levels.{truth, after, level, holds, rank}
use Rattle.judging.specs.Levels.Laws.{rank_false, level_next}
use Rattle.judging.proofs.Theorems.Levels.Laws.{never_false, level_zero}

module _ (G : Graph) (P : List Row) (flow : Flow G) (wf : Property P) where
  pub false_if : (g r k : ℕ) → g < size G → r < length P → T (not (level G P k g r)) → T (not (holds G P g r))
  false_if g r k hg hr t = not_T (holds G P g r) (λ s. T_not (level G P k g r) t (never_false G P flow wf g r hg hr s k))

  pub low_false : (g r : ℕ) → g < size G → r < length P → rank G P g r ≤ size G * length P → T (not (holds G P g r))
  unfolding rank
  low_false g r hg hr h =
      false_if g r _ hg hr (least_hit (λ k. not (level G P k g r)) (suc (size G * length P)) (omega arith))

  -- a false row's rank is one more than a level of which the row is false
  pub rank_step : (g r : ℕ) → T (not (holds G P g r))
      → (k : ℕ) × (rank G P g r ≡ suc k) × T (not (truth (row P r) (node G g).method (node G g).ret (level G P k g) (after G (level G P k) g (row P r))))
  rank_step g r t = go (rank G P g r) refl (rank_false G P flow wf g r t)
    where
      go : (n : ℕ) → rank G P g r ≡ n → T (not (level G P n g r))
          → (k : ℕ) × (rank G P g r ≡ suc k) × T (not (truth (row P r) (node G g).method (node G g).ret (level G P k g) (after G (level G P k) g (row P r))))
      go zero e s = absurd (T_not (level G P zero g r) s (level_zero G P g r))
      go (suc k) e s = (k, e, subst (λ (b : Bool). T (not b)) (level_next G P k g r) s)
