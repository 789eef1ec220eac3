-- The laws of ranks: what is false has a rank, at most nodes * rows, and its row is false of what had a lower rank.
-- Its theorems that rest on a definition which a must-fail edit turns stand in proofs/Theorems/Levels/Ranks.
use Rattle.std.specs.Prelude.{List, ℕ, ◌*◌, ◌≤◌, T}
use Rattle.std.proofs.Common.{arith, T_not}
use Rattle.std.proofs.Math.Bool.{not}
use Rattle.std.proofs.Math.Decide.{dec_le}
use Rattle.std.proofs.Math.ListN.{length}
use Rattle.files.specs.Graph.{Graph, size, Flow}
use Rattle.files.specs.Property.{Row, Property}
use Rattle.judging.specs.Levels.{level, holds, rank}
use Rattle.judging.specs.Levels.Laws.{rank_before}

module _ (G : Graph) (P : List Row) (flow : Flow G) (wf : Property P) where
  -- a row is false at some level: its rank is at most that
  pub rank_le : (g r k : ℕ) → T (not (level G P k g r)) → rank G P g r ≤ k
  rank_le g r k t = go (dec_le (rank G P g r) k)
    where
      go : Dec (rank G P g r ≤ k) → rank G P g r ≤ k
      go (yes h) = h
      go (no h) = absurd (T_not (level G P k g r) t (rank_before G P flow wf g r k (omega arith)))

  -- what does not hold has a rank up to nodes * rows; what holds, a higher number
  pub rank_bound : (g r : ℕ) → T (not (holds G P g r)) → rank G P g r ≤ size G * length P
  unfolding holds
  rank_bound g r t = rank_le g r (size G * length P) t
