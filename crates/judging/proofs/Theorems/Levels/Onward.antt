-- The theorems of specs/Levels/Onward that rest on a definition which a must-fail edit turns: there they could not be read under the edit.
-- Onward: From one level to the next: what turns false leans on what has just turned false, so a queue of what has just turned false tells all that turns false next;
-- and where nothing turns false nothing ever will.
use Rattle.std.specs.Prelude.{◌≡◌, ◌⊎◌, not, length}
use Rattle.std.proofs.Math.Path.{subst}
use Rattle.std.proofs.Common.{sym, inl, inr, eq-or-lt_of_le, le_of_suc-le-suc, T_not}
use mathlib.Core.List.{List}
use Prim.Native.Nat.{ℕ, zero, suc, ◌≤◌, ◌<◌}
use Rattle.std.proofs.Math.Decide.{dec_le}
use native.Mathlib.Omega.{arith}
use Rattle.std.proofs.Math.Dec.{T}
use Rattle.files.specs.Graph.{Graph, size, Flow}
use Rattle.files.specs.Property.{Row, Property}
use Rattle.judging.specs.Levels.{level, holds, rank}
use Rattle.judging.specs.Levels.Laws.{rank_false, holds_if}
use Rattle.judging.proofs.Theorems.Levels.Laws.{level_falls}
use Rattle.judging.specs.Levels.Ranks.{rank_le}
use Rattle.judging.proofs.Theorems.Levels.Ranks.{rank_step, false_if}
use Rattle.judging.specs.Levels.Onward.{stays}

module _ (G : Graph) (P : List Row) (flow : Flow G) (wf : Property P) where
  -- what is true at a level is true at every level before
  pub down_true : (k j g r : ℕ) → j ≤ k → g < size G → r < length P → T (level G P k g r) → T (level G P j g r)
  down_true zero j g r h hg hr t = let e : 0 ≡ j = omega arith in subst (λ (n : ℕ). T (level G P n g r)) e t
  down_true (suc k) j g r h hg hr t = go (eq-or-lt_of_le h) (λ l. down_true k j g r l hg hr (level_falls G P flow wf k g r hg hr t))
    where
      go : (j ≡ suc k) ⊎ (j < suc k) → (j ≤ k → T (level G P j g r)) → T (level G P j g r)
      go (inl e) f = subst (λ (n : ℕ). T (level G P n g r)) (sym e) t
      go (inr l) f = f (le_of_suc-le-suc l)

  -- the rank of what turns false at level k + 1
  pub rank_new : (k g r : ℕ) → g < size G → r < length P → T (level G P k g r) → T (not (level G P (suc k) g r)) → rank G P g r ≡ suc k
  rank_new k g r hg hr a b = go (dec_le (rank G P g r) k)
    where
      low : rank G P g r ≤ suc k
      low = rank_le G P flow wf g r (suc k) b

      go : Dec (rank G P g r ≤ k) → rank G P g r ≡ suc k
      go (no h) = omega (arith, low)
      go (yes h) = absurd (T_not (level G P (rank G P g r) g r) (rank_false G P flow wf g r (false_if G P flow wf g r (suc k) hg hr b)) (down_true k (rank G P g r) g r h hg hr a))

  -- what is false at level k has a rank from 1 to k
  pub rank_within : (k g r : ℕ) → g < size G → r < length P → T (not (level G P k g r)) → (0 < rank G P g r) × (rank G P g r ≤ k)
  rank_within k g r hg hr t = let a = rank_step G P flow wf g r (false_if G P flow wf g r k hg hr t) in (omega (arith, a.1), rank_le G P flow wf g r k t)

  -- where nothing turns false at level k + 1 nothing ever will
  module _ (k : ℕ) (still : (g r : ℕ) → g < size G → r < length P → T (level G P k g r) → T (level G P (suc k) g r)) where
    pub steady : (g r : ℕ) → g < size G → r < length P → T (level G P k g r) → T (holds G P g r)
    steady g r hg hr t = holds_if G P g r (λ m. go m (dec_le m k))
      where
        go : (m : ℕ) → Dec (m ≤ k) → T (level G P m g r)
        go m (yes h) = down_true k m g r h hg hr t
        go m (no h) = (stays G P flow wf k still) m g r (omega arith) hg hr t
