-- The theorems of specs/Ranking/Laws that rest on a definition which a must-fail edit turns: there they could not be read under the edit.
-- Laws: Laws of ranks as they are found: from zeros to level 1, from level to level, and at the end all ranks; what a row that leans on a popped pair needs to be done.
use Rattle.std.specs.Prelude.{◌≡◌, refl, ◌⊎◌, Bool, true, false, not, cond, ◌&&◌, List, ℕ, suc, ◌*◌, ◌≤◌, ◌<◌, eqb, leb}
use Rattle.std.proofs.Common.{sym, ◌∙◌, inl, inr, arith, T_not, leb→le, le→leb}
use Rattle.std.proofs.Math.Dec.{T, not_T}
use Rattle.std.proofs.Math.ListN.{length}
use Rattle.files.specs.Basics.Tables.{tally_is}
use Rattle.files.specs.Basics.Tests.{decide, and_l, and_r, and_i, eq_eqb, T_eq}
use Rattle.files.specs.Cells.{cell}
use Rattle.files.specs.Graph.{Graph, size, Flow}
use Rattle.files.specs.Places.{max_rows}
use Rattle.files.specs.Property.{Row, row, Property}
use Rattle.judging.specs.Chains.{Index}
use Rattle.judging.specs.Levels.{level, holds, rank}
use Rattle.judging.proofs.Theorems.Levels.Laws.{level_zero, level_falls}
use Rattle.judging.proofs.Theorems.Levels.Ranks.{false_if}
use Rattle.judging.specs.Levels.Onward.{Leans, first_false, first_true, first_rank, turned}
use Rattle.judging.proofs.Theorems.Levels.Onward.{rank_new, rank_within, steady}
use Rattle.judging.specs.Places.{judge_room, max_pairs}
use Rattle.judging.specs.Ranking.{pair, rank_at, queue_at, Given, RankBy, Finding, Grew, Done, Found, final_rank, Ranked}
use Rattle.judging.specs.Ranking.Laws.{leans_in, no_rank, row_done_e}

module _ (G : Graph) (P : List Row) where
  -- the ranks of zeros are those of level 0
  pub start_finding : (w : List ℕ) → judge_room ≤ length w → Index G P w → ((i : ℕ) → i < 32 * size G → cell w 0 2 i ≡ 0) → length P ≤ max_rows → Finding G P 0 0 w
  start_finding w room x zero_ranks fr = record {
    room = room;
    low = omega arith;
    index = x;
    ranks = λ g r hg hr. inl (zero_ranks (pair g r) (omega arith) ∙ sym (first_true G P 0 g r (level_zero G P g r)));
    queued = λ i h. absurd (omega arith);
    counted = sym (tally_is (λ (p : ℕ). not (eqb (cell w 0 2 p) 0)) 0 (32 * size G) (omega arith) (λ i h. absurd (omega arith))
        (λ i h m. not_T (not (eqb (cell w 0 2 i) 0)) (λ t. T_not (eqb (cell w 0 2 i) 0) t (eq_eqb _ _ (zero_ranks i m)))));
  }

module _ (G : Graph) (P : List Row) (flow : Flow G) (wf : Property P) where
  still_false : (k g r : ℕ) → g < size G → r < length P → T (not (level G P k g r)) → T (not (level G P (suc k) g r))
  still_false k g r hg hr t = not_T (level G P (suc k) g r) (λ s. T_not (level G P k g r) t (level_falls G P flow wf k g r hg hr s))

  -- what turns false at level k + 2 leans on a pair of rank k + 1
  pub turned_rank : (k g r : ℕ) → g < size G → r < length P → T (level G P (suc k) g r) → T (not (level G P (suc (suc k)) g r))
      → (t q : ℕ) × (t < size G) × (q < length P) × Leans G (row P r) g t q × T (not (level G P (suc k) t q)) × (rank G P t q ≡ suc k)
  turned_rank k g r hg hr a b =
      let x = turned G P k g r a b in
      let i = (leans_in G P flow wf) g r x.0 x.1 hr x.2 hg in
      (x.0, x.1, i.0, i.1, x.2, x.4, rank_new G P flow wf k x.0 x.1 i.0 i.1 x.3 x.4)

  -- ---- reading ranks while a level is found

  -- a rank from 1 to k tells that the pair is false at level k
  pub rank_tells : (k tail : ℕ) (w : List ℕ) → Finding G P k tail w → (g r : ℕ) → g < size G → r < length P
      → (leb 1 (rank_at w g r) && leb (rank_at w g r) k) ≡ not (level G P k g r)
  rank_tells k tail w f g r hg hr = go (f.ranks g r hg hr) (decide (level G P k g r))
    where
      says : (x : ℕ) (b : Bool) → (T b → (x ≡ 0) ⊎ (x ≡ suc k)) → (T (not b) → (1 ≤ x) × (x ≤ k)) → (leb 1 x && leb x k) ≡ not b
      says x true f g = no (f tt)
        where
          no : (x ≡ 0) ⊎ (x ≡ suc k) → (leb 1 x && leb x k) ≡ false
          no e = off (leb 1 x && leb x k) (λ t. bad e (leb→le 1 x (and_l (leb 1 x) (leb x k) t)) (leb→le x k (and_r (leb 1 x) (leb x k) t)))
            where
              bad : (x ≡ 0) ⊎ (x ≡ suc k) → 1 ≤ x → x ≤ k → ⊥
              bad (inl d) a b = omega arith
              bad (inr d) a b = omega arith

              off : (c : Bool) → (T c → ⊥) → c ≡ false
              off true n = absurd (n tt)
              off false n = refl
      says x false f g = T_eq (leb 1 x && leb x k) (and_i (leb 1 x) (leb x k) (le→leb 1 x (g tt).0) (le→leb x k (g tt).1))

      go : RankBy G P k w g r → T (level G P k g r) ⊎ T (not (level G P k g r)) → (leb 1 (rank_at w g r) && leb (rank_at w g r) k) ≡ not (level G P k g r)
      go (inl x) d = says (rank_at w g r) (level G P k g r) (λ t. inl (x ∙ first_true G P k g r t))
          (λ t. let h = rank_within G P flow wf k g r hg hr t in let y = x ∙ first_rank G P k g r t in (omega (arith, y, h.0), omega (arith, y, h.1)))
      go (inr x) d = says (rank_at w g r) (level G P k g r) (λ t. inr x.2) (λ t. absurd (T_not (level G P k g r) t x.0))

  -- ---- from level to level

  -- a level that is found is where the next is looked for
  pub next_finding : (k head tail : ℕ) (w : List ℕ) → Found G P k head tail w → head < tail → tail ≤ max_pairs → Finding G P k tail w
  next_finding k head tail w f h few = record {
    room = f.room;
    low = omega (arith, f.low);
    index = f.index;
    ranks = λ g r hg hr. inl (f.ranks g r hg hr);
    queued = λ i l. let x = f.queued i l in record {
      its_node = x.its_node;
      its_row = x.its_row;
      is_node = x.is_node;
      is_row = x.is_row;
      is_there = x.is_there;
      is_false = still_false k x.its_node x.its_row x.is_node x.is_row x.is_false;
    };
    counted = f.counted;
  }

  module _ (k head tail tail' : ℕ) (w w' : List ℕ) (was : (g r : ℕ) → g < size G → r < length P → rank_at w g r ≡ first_false G P k g r) (grew : Grew G P k tail tail' w w')
      (all_given : (g r : ℕ) → g < size G → r < length P → T (level G P k g r) → T (not (level G P (suc k) g r)) → Given w' g r) (order : k ≤ tail) where
    ranks_found : (g r : ℕ) → g < size G → r < length P → rank_at w' g r ≡ first_false G P (suc k) g r
    ranks_found g r hg hr = go (decide (level G P k g r)) (decide (level G P (suc k) g r)) (grew.finding.ranks g r hg hr)
      where
        go : T (level G P k g r) ⊎ T (not (level G P k g r)) → T (level G P (suc k) g r) ⊎ T (not (level G P (suc k) g r)) → RankBy G P k w' g r
            → rank_at w' g r ≡ first_false G P (suc k) g r
        go (inl a) (inl b) (inl x) = x ∙ first_true G P k g r a ∙ sym (first_true G P (suc k) g r b)
        go a (inl b) (inr x) = absurd (T_not (level G P (suc k) g r) x.1 b)
        go (inr a) (inl b) (inl x) = absurd (T_not (level G P k g r) a (level_falls G P flow wf k g r hg hr b))
        go (inl a) (inr b) (inl x) = absurd (all_given g r hg hr a b (x ∙ first_true G P k g r a))
        go (inr a) (inr b) (inl x) = x ∙ first_rank G P k g r a ∙ sym (first_rank G P (suc k) g r b)
        go a (inr b) (inr x) = x.2 ∙ sym (rank_new G P flow wf k g r hg hr x.0 x.1) ∙ sym (first_rank G P (suc k) g r b)

    fresh_found : (g r : ℕ) → g < size G → r < length P → T (not (level G P (suc k) g r)) → rank G P g r ≡ suc k
        → (i : ℕ) × (tail ≤ i) × (i < tail') × (queue_at w' i ≡ pair g r)
    fresh_found g r hg hr b e = go (decide (level G P k g r))
      where
        go : T (level G P k g r) ⊎ T (not (level G P k g r)) → (i : ℕ) × (tail ≤ i) × (i < tail') × (queue_at w' i ≡ pair g r)
        go (inr a) = let h = rank_within G P flow wf k g r hg hr a in absurd (omega (arith, e, h.1))
        go (inl a) = on (grew.new_queued g r hg hr (all_given g r hg hr a b))
          where
            on : Given w g r ⊎ ((i : ℕ) × (tail ≤ i) × (i < tail') × (queue_at w' i ≡ pair g r)) → (i : ℕ) × (tail ≤ i) × (i < tail') × (queue_at w' i ≡ pair g r)
            on (inr x) = x
            on (inl x) = absurd (x (was g r hg hr ∙ first_true G P k g r a))

    -- once all that turns false has its rank, the next level is found
    pub level_found : Found G P (suc k) tail tail' w'
    level_found = record {
      room = grew.finding.room;
      index = grew.finding.index;
      ranks = ranks_found;
      queued = grew.finding.queued;
      fresh = fresh_found;
      counted = grew.finding.counted;
      in_order = grew.longer;
      low = omega (arith, order);
    }

  -- level 1, from what is false by itself
  pub first_found : (tail : ℕ) (w w' : List ℕ) → Finding G P 0 0 w → length P ≤ max_rows → Grew G P 0 0 tail w w' → ((g r : ℕ) → g < size G → r < length P → T (not (level G P 1 g r)) → Given w' g r) → Found G P 1 0 tail w'
  first_found tail w w' f fr x d =
      level_found 0 0 0 tail w w' (λ g r hg hr. no_rank G P w f (pair g r) (omega arith) ∙ sym (first_true G P 0 g r (level_zero G P g r))) x (λ g r hg hr a b. d g r hg hr b) (omega arith)

  -- and each later one, from the queue's pairs of the level before
  pub later_found : (k head tail tail' : ℕ) (w w' : List ℕ) → Found G P (suc k) head tail w → head < tail → Grew G P (suc k) tail tail' w w'
      → ((i : ℕ) → head ≤ i → i < tail → (v r : ℕ) → v < size G → r < length P → queue_at w i ≡ pair v r → Done G P (suc k) w' v r) → Found G P (suc (suc k)) tail tail' w'
  later_found k head tail tail' w w' f h x d = level_found (suc k) head tail tail' w w' f.ranks x given_all (omega (arith, f.low))
    where
      given_all : (g r : ℕ) → g < size G → r < length P → T (level G P (suc k) g r) → T (not (level G P (suc (suc k)) g r)) → Given w' g r
      given_all g r hg hr a b =
          let t = turned_rank k g r hg hr a b in
          let i = f.fresh t.0 t.1 t.2 t.3 t.5 t.6 in
          row_done_e G P (suc k) w' t.0 t.1 r (d i.0 i.1 i.2 t.0 t.1 t.2 t.3 i.3 r hr) g hg t.4 b

  -- where the queue is empty all ranks are found
  pub all_found : (k head tail : ℕ) (w : List ℕ) → Found G P (suc k) head tail w → tail ≤ head → Ranked G P w
  unfolding Ranked final_rank
  all_found k head tail w f h g r hg hr = go (decide (level G P (suc k) g r))
    where
      still : (u q : ℕ) → u < size G → q < length P → T (level G P (suc k) u q) → T (level G P (suc (suc k)) u q)
      still u q hu hq t = on (decide (level G P (suc (suc k)) u q))
        where
          on : T (level G P (suc (suc k)) u q) ⊎ T (not (level G P (suc (suc k)) u q)) → T (level G P (suc (suc k)) u q)
          on (inl s) = s
          on (inr s) =
              let x = turned_rank k u q hu hq t s in
              let i = f.fresh x.0 x.1 x.2 x.3 x.5 x.6 in
              absurd (omega (arith, i.1, i.2))

      pick : (b : Bool) → T b → 0 ≡ cond b 0 (rank G P g r)
      pick true t = refl
      pick false t = absurd t

      leave : (b : Bool) → T (not b) → rank G P g r ≡ cond b 0 (rank G P g r)
      leave true t = absurd t
      leave false t = refl

      go : T (level G P (suc k) g r) ⊎ T (not (level G P (suc k) g r)) → rank_at w g r ≡ cond (holds G P g r) 0 (rank G P g r)
      go (inl t) = f.ranks g r hg hr ∙ first_true G P (suc k) g r t ∙ pick (holds G P g r) (steady G P flow wf (suc k) still g r hg hr t)
      go (inr t) = f.ranks g r hg hr ∙ first_rank G P (suc k) g r t ∙ leave (holds G P g r) (false_if G P flow wf g r (suc k) hg hr t)
