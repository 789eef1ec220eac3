-- The theorems of specs/Ranking/Stores that rest on a definition which a must-fail edit turns: there they could not be read under the edit.
-- Stores: What giving a pair its rank does to the buffer: the pair's rank, the queue's end, and nothing else; and that it keeps what is known while a level is found.
use Rattle.std.specs.Prelude.{◌≡◌, ◌⊎◌, Bool, not, cond, List}
use Rattle.std.proofs.Math.Path.{refl, sym, ap, subst}
use Rattle.std.proofs.Common.{◌∙◌, inl, inr, le_refl, arith, eqb→eq}
use Rattle.std.proofs.Math.Bool.{true, false}
use Prim.Native.Nat.{ℕ, suc, ◌≤◌, ◌<◌}
use Rattle.std.proofs.Math.Decide.{ℕ_discrete}
use Rattle.std.proofs.Math.Dec.{T, eqb}
use Rattle.std.proofs.Math.ListN.{length}
use Rattle.files.specs.Basics.Tests.{decide, eq_eqb}
use Rattle.files.specs.Cells.{cell}
use Rattle.files.specs.Graph.{Graph, size, Flow}
use Rattle.files.specs.Places.{max_nodes, max_rows}
use Rattle.files.specs.Property.{Row, Property}
use Rattle.judging.specs.Chains.Laws.{index_kept}
use Rattle.judging.specs.Levels.{level}
use Rattle.judging.specs.Levels.Onward.{first_rank}
use Rattle.judging.proofs.Theorems.Levels.Onward.{rank_within}
use Rattle.judging.specs.Ranking.{pair, rank_at, queue_at, Given, given, tail_after, RankBy, Finding, Grew}
use Rattle.judging.specs.Ranking.Stores.{after, grew_none, here, in_queue, in_ranks, pair_same, past_kept, pushed, pushed_length, queue_here, queue_there, queued_after, ranked_more, there}

module _ (G : Graph) (P : List Row) (flow : Flow G) (wf : Property P) (few_nodes : size G ≤ max_nodes) (few_rows : length P ≤ max_rows) where
  -- a pair that turns false at level k + 1 and has no rank yet was true at level k
  was_true : (k tail : ℕ) (w : List ℕ) → Finding G P k tail w → (g r : ℕ) → g < size G → r < length P → rank_at w g r ≡ 0 → T (level G P k g r)
  was_true k tail w f g r hg hr e = go (decide (level G P k g r)) (f.ranks g r hg hr)
    where
      go : T (level G P k g r) ⊎ T (not (level G P k g r)) → RankBy G P k w g r → T (level G P k g r)
      go (inl t) x = t
      go (inr t) (inl x) = let h = rank_within G P flow wf k g r hg hr t in absurd (omega (arith, x, first_rank G P k g r t, h.0))
      go (inr t) (inr x) = x.0

  module _ (k tail : ℕ) (w : List ℕ) (f : Finding G P k tail w) (g r : ℕ) (hg : g < size G) (hr : r < length P) (turns : T (not (level G P (suc k) g r))) where
    module _ (none : rank_at w g r ≡ 0) where
      ranks_after : (u q : ℕ) → u < size G → q < length P → RankBy G P k (after G P flow wf few_nodes few_rows k tail w f g r hg hr turns none) u q
      ranks_after u q hu hq = go (ℕ_discrete (pair g r) (pair u q))
        where
          go : Dec (pair g r ≡ pair u q) → RankBy G P k (after G P flow wf few_nodes few_rows k tail w f g r hg hr turns none) u q
          go (yes e) =
              let d = pair_same g r u q (omega arith) (omega arith) e in
              let t = was_true k tail w f g r hg hr none in
              subst (λ (x : ℕ). RankBy G P k (after G P flow wf few_nodes few_rows k tail w f g r hg hr turns none) x q) d.0 (subst (λ (x : ℕ). RankBy G P k (after G P flow wf few_nodes few_rows k tail w f g r hg hr turns none) g x) d.1 (inr (t, turns, (here G P flow wf few_nodes few_rows k tail w f g r hg hr turns none))))
          go (no n) = kept (f.ranks u q hu hq)
            where
              kept : RankBy G P k w u q → RankBy G P k (after G P flow wf few_nodes few_rows k tail w f g r hg hr turns none) u q
              kept (inl x) = inl ((there G P flow wf few_nodes few_rows k tail w f g r hg hr turns none) u q hu hq n ∙ x)
              kept (inr x) = inr (x.0, x.1, (there G P flow wf few_nodes few_rows k tail w f g r hg hr turns none) u q hu hq n ∙ x.2)

      found_after : Finding G P k (suc tail) (after G P flow wf few_nodes few_rows k tail w f g r hg hr turns none)
      unfolding after
      found_after = record {
        room = omega (arith, f.room, pushed_length w tail (pair g r) k (in_ranks G P flow wf few_nodes few_rows k tail w f g r hg hr turns none) (in_queue G P flow wf few_nodes few_rows k tail w f g r hg hr turns none) f.room f.low);
        low = f.low;
        index = index_kept G P w (pushed w tail (pair g r) k) (past_kept w tail (pair g r) k (in_ranks G P flow wf few_nodes few_rows k tail w f g r hg hr turns none) (in_queue G P flow wf few_nodes few_rows k tail w f g r hg hr turns none) f.room f.low) f.index;
        ranks = ranks_after;
        queued = (queued_after G P flow wf few_nodes few_rows k tail w f g r hg hr turns none);
        counted = ap suc f.counted ∙ sym (ranked_more w tail (pair g r) k (in_ranks G P flow wf few_nodes few_rows k tail w f g r hg hr turns none) (in_queue G P flow wf few_nodes few_rows k tail w f g r hg hr turns none) f.room f.low (size G) few_nodes (omega arith) none);
      }

      grew_one : Grew G P k tail (suc tail) w (after G P flow wf few_nodes few_rows k tail w f g r hg hr turns none) × Given (after G P flow wf few_nodes few_rows k tail w f g r hg hr turns none) g r
      unfolding after
      grew_one = (
        record {
          finding = found_after;
          longer = omega arith;
          given_kept = λ u q hu hq x e. old u q hu hq x e (ℕ_discrete (pair g r) (pair u q));
          queue_kept = λ i h. queue_there w tail (pair g r) k (in_ranks G P flow wf few_nodes few_rows k tail w f g r hg hr turns none) (in_queue G P flow wf few_nodes few_rows k tail w f g r hg hr turns none) f.room f.low i h;
          new_queued = λ u q hu hq x. new u q hu hq x (ℕ_discrete (pair g r) (pair u q));
        },
        λ e. omega (arith, (here G P flow wf few_nodes few_rows k tail w f g r hg hr turns none)),
      )
        where
          old : (u q : ℕ) → u < size G → q < length P → Given w u q → rank_at (pushed w tail (pair g r) k) u q ≡ 0 → Dec (pair g r ≡ pair u q) → ⊥
          old u q hu hq x e (yes d) = omega (arith, (here G P flow wf few_nodes few_rows k tail w f g r hg hr turns none), ap (cell (pushed w tail (pair g r) k) 0 2) d)
          old u q hu hq x e (no n) = x (sym ((there G P flow wf few_nodes few_rows k tail w f g r hg hr turns none) u q hu hq n) ∙ e)

          new : (u q : ℕ) → u < size G → q < length P → Given (pushed w tail (pair g r) k) u q → Dec (pair g r ≡ pair u q)
              → Given w u q ⊎ ((i : ℕ) × (tail ≤ i) × (i < suc tail) × (queue_at (pushed w tail (pair g r) k) i ≡ pair u q))
          new u q hu hq x (yes d) = inr (tail, le_refl tail, omega arith, queue_here w tail (pair g r) k (in_ranks G P flow wf few_nodes few_rows k tail w f g r hg hr turns none) (in_queue G P flow wf few_nodes few_rows k tail w f g r hg hr turns none) f.room f.low ∙ d)
          new u q hu hq x (no n) = inl (λ e. x ((there G P flow wf few_nodes few_rows k tail w f g r hg hr turns none) u q hu hq n ∙ e))

    -- giving the rank keeps what is known, and the pair has a rank
    pub give_grew : Grew G P k tail (tail_after w tail g r) w (given w tail g r k) × Given (given w tail g r k) g r
    unfolding given after
    give_grew = go (eqb (rank_at w g r) 0) refl
      where
        go : (b : Bool) → eqb (rank_at w g r) 0 ≡ b → Grew G P k tail (cond b (suc tail) tail) w (cond b (pushed w tail (pair g r) k) w) × Given (cond b (pushed w tail (pair g r) k) w) g r
        go true e = grew_one (eqb→eq _ _ (subst T (sym e) tt))
        go false e = (grew_none G P k tail w f, λ z. subst T e (eq_eqb _ _ z))
