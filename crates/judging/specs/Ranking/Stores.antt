-- What giving a pair its rank does to the buffer: the pair's rank, the queue's end, and nothing else; and that it keeps what is known while a level is found.
-- Its theorems that rest on a definition which a must-fail edit turns stand in proofs/Theorems/Ranking/Stores.
use Rattle.std.specs.Prelude.{◌≡◌, ◌⊎◌, Bool, not, List}
use Rattle.std.proofs.Math.Path.{refl, sym, ap}
use Rattle.std.proofs.Common.{◌∙◌, inl, inr, le_refl, arith, T_not, eqb→eq}
use Prim.Native.Nat.{ℕ, zero, suc, ◌+◌, ◌*◌, ◌≤◌, ◌<◌}
use Rattle.std.proofs.Math.Decide.{ℕ_discrete}
use Rattle.std.proofs.Math.Dec.{T, not_T, eqb}
use Rattle.std.proofs.Math.ListN.{length}
use Rattle.files.specs.Basics.Tables.{tally, tally_le}
use Rattle.files.specs.Basics.Tests.{one, one_le, one_true, one_false, eq_eqb}
use Rattle.files.specs.Cells.{cell, put_cell}
use Rattle.files.specs.Cells.Laws.{length_put_cell, cell_same, cell_apart, cell_other}
use Rattle.files.specs.Graph.{Graph, size, Flow}
use Rattle.files.specs.Places.{max_nodes, max_rows}
use Rattle.files.specs.Property.{Row, Property}
use Rattle.judging.specs.Levels.{level}
use Rattle.judging.specs.Places.{judge_room, max_pairs, node_heads_base, queue_base}
use Rattle.judging.specs.Ranking.{pair, rank_at, queue_at, Given, ranked, Queued, Finding, Grew}

-- ---- tallies

-- one number more that passes is one more in the tally
pub tally_one : (f h : ℕ → Bool) (i n : ℕ) → i < n → T (not (f i)) → T (h i) → ((j : ℕ) → j < n → (i ≡ j → ⊥) → h j ≡ f j) → tally h n ≡ suc (tally f n)
tally_one f h i zero l a b same = absurd (omega arith)
tally_one f h i (suc n) l a b same = go (ℕ_discrete i n) (λ m. tally_one f h i n m a b (λ j x. same j (omega arith)))
  where
    below : (m : ℕ) → m ≤ i → tally h m ≡ tally f m
    below zero k = refl
    below (suc m) k = omega (arith, ap one (same m (omega arith) (λ e. omega arith)), below m (omega arith))

    go : Dec (i ≡ n) → (i < n → tally h n ≡ suc (tally f n)) → one (h n) + tally h n ≡ suc (one (f n) + tally f n)
    go (yes e) r =
        let x : one (h n) ≡ 1 = ap (λ (m : ℕ). one (h m)) (sym e) ∙ one_true (h i) b in
        let y : one (f n) ≡ 0 = ap (λ (m : ℕ). one (f m)) (sym e) ∙ one_false (f i) a in
        omega (arith, x, y, below n (omega arith))
    go (no e) r = omega (arith, ap one (same n (omega arith) e), r (omega arith))

-- where one does not pass there is room for it
pub tally_room : (f : ℕ → Bool) (i n : ℕ) → i < n → T (not (f i)) → tally f n < n
tally_room f i zero l a = absurd (omega arith)
tally_room f i (suc n) l a = go (ℕ_discrete i n) (λ m. tally_room f i n m a)
  where
    go : Dec (i ≡ n) → (i < n → tally f n < n) → one (f n) + tally f n < suc n
    go (yes e) r = let y : one (f n) ≡ 0 = ap (λ (m : ℕ). one (f m)) (sym e) ∙ one_false (f i) a in omega (arith, y, tally_le f n)
    go (no e) r = omega (arith, one_le (f n), r (omega arith))

-- ---- a pair put at the queue's end with its rank

abbrev pub pushed : List ℕ → ℕ → ℕ → ℕ → List ℕ
pushed w tail p k = put_cell (put_cell w 0 2 p (suc k)) queue_base 2 tail p

module _ (w : List ℕ) (tail p k : ℕ) (in_ranks : p < max_pairs) (in_queue : tail < max_pairs) (room : judge_room ≤ length w) (low : k ≤ max_pairs) where
  abbrev once : List ℕ
  once = put_cell w 0 2 p (suc k)

  room_once : judge_room ≤ length once
  room_once = omega (arith, room, length_put_cell w 0 2 p (suc k))

  pub pushed_length : length (pushed w tail p k) ≡ length w
  pushed_length = length_put_cell once queue_base 2 tail p ∙ length_put_cell w 0 2 p (suc k)

  rank_here : cell (pushed w tail p k) 0 2 p ≡ suc k
  rank_here = cell_apart once queue_base 2 tail p 0 2 p (inl (omega arith)) ∙ cell_same w 0 2 p (suc k) (omega arith) (omega arith)

  rank_there : (j : ℕ) → j < max_pairs → (p ≡ j → ⊥) → cell (pushed w tail p k) 0 2 j ≡ cell w 0 2 j
  rank_there j h f = cell_apart once queue_base 2 tail p 0 2 j (inl (omega arith)) ∙ cell_other w 0 2 p j (suc k) f

  pub queue_here : cell (pushed w tail p k) queue_base 2 tail ≡ p
  queue_here = cell_same once queue_base 2 tail p (omega (arith, room_once)) (omega arith)

  pub queue_there : (i : ℕ) → i < tail → cell (pushed w tail p k) queue_base 2 i ≡ cell w queue_base 2 i
  queue_there i h = cell_other once queue_base 2 tail i p (λ e. omega arith) ∙ cell_apart w 0 2 p (suc k) queue_base 2 i (inr (omega arith))

  -- what stands past the queue is kept
  pub past_kept : (base j : ℕ) → node_heads_base ≤ base → cell (pushed w tail p k) base 2 j ≡ cell w base 2 j
  past_kept base j h = cell_apart once queue_base 2 tail p base 2 j (inr (omega arith)) ∙ cell_apart w 0 2 p (suc k) base 2 j (inr (omega arith))

  -- where the pair had no rank, one more has
  pub ranked_more : (n : ℕ) → n ≤ 256 → p < 32 * n → cell w 0 2 p ≡ 0 → ranked (pushed w tail p k) n ≡ suc (ranked w n)
  ranked_more n few l e =
      tally_one (λ j. not (eqb (cell w 0 2 j) 0)) (λ j. not (eqb (cell (pushed w tail p k) 0 2 j) 0)) p (32 * n) l
      (not_T (not (eqb (cell w 0 2 p) 0)) (λ t. T_not (eqb (cell w 0 2 p) 0) t (eq_eqb _ _ e)))
      (not_T (eqb (cell (pushed w tail p k) 0 2 p) 0) (λ t. let z : cell (pushed w tail p k) 0 2 p ≡ 0 = eqb→eq _ _ t in omega (arith, rank_here)))
      (λ j m f. ap (λ (x : ℕ). not (eqb x 0)) (rank_there j (omega arith) f))

-- ---- what is known while a level is found

-- a pair without a rank finds room in the queue
pub ranked_room : (w : List ℕ) (n p : ℕ) → p < 32 * n → cell w 0 2 p ≡ 0 → ranked w n < 32 * n
ranked_room w n p l e = tally_room (λ j. not (eqb (cell w 0 2 j) 0)) p (32 * n) l (not_T (not (eqb (cell w 0 2 p) 0)) (λ t. T_not (eqb (cell w 0 2 p) 0) t (eq_eqb _ _ e)))

-- pairs are numbered apart
pub pair_same : (g r u q : ℕ) → r < 32 → q < 32 → pair g r ≡ pair u q → (g ≡ u) × (r ≡ q)
pair_same g r u q h k e = (omega arith, omega arith)

module _ (G : Graph) (P : List Row) where
  pub grew_none : (k tail : ℕ) (w : List ℕ) → Finding G P k tail w → Grew G P k tail tail w w
  grew_none k tail w f = record { finding = f; longer = le_refl tail; given_kept = λ g r hg hr x. x; queue_kept = λ i h. refl; new_queued = λ g r hg hr x. inl x }

  pub grew_on : (k a b c : ℕ) (u v w : List ℕ) → Grew G P k a b u v → Grew G P k b c v w → Grew G P k a c u w
  grew_on k a b c u v w x y = record {
    finding = y.finding;
    longer = omega (arith, x.longer, y.longer);
    given_kept = λ g r hg hr z. y.given_kept g r hg hr (x.given_kept g r hg hr z);
    queue_kept = λ i h. y.queue_kept i (omega (arith, x.longer)) ∙ x.queue_kept i h;
    new_queued = λ g r hg hr z. go g r hg hr (y.new_queued g r hg hr z);
  }
    where
      go : (g r : ℕ) → g < size G → r < length P → Given v g r ⊎ ((i : ℕ) × (b ≤ i) × (i < c) × (queue_at w i ≡ pair g r))
          → Given u g r ⊎ ((i : ℕ) × (a ≤ i) × (i < c) × (queue_at w i ≡ pair g r))
      go g r hg hr (inr z) = inr (z.0, omega (arith, x.longer, z.1), z.2, z.3)
      go g r hg hr (inl z) = old (x.new_queued g r hg hr z)
        where
          old : Given u g r ⊎ ((i : ℕ) × (a ≤ i) × (i < b) × (queue_at v i ≡ pair g r)) → Given u g r ⊎ ((i : ℕ) × (a ≤ i) × (i < c) × (queue_at w i ≡ pair g r))
          old (inl s) = inl s
          old (inr s) = inr (s.0, s.1, omega (arith, s.2, y.longer), y.queue_kept s.0 s.2 ∙ s.3)

  -- a place of the queue holds what it held where its cell reads the same
  pub queued_same : (k i : ℕ) (w w' : List ℕ) → queue_at w' i ≡ queue_at w i → Queued G P k w i → Queued G P k w' i
  queued_same k i w w' e x = record { its_node = x.its_node; its_row = x.its_row; is_node = x.is_node; is_row = x.is_row; is_there = e ∙ x.is_there; is_false = x.is_false }

module _ (G : Graph) (P : List Row) (flow : Flow G) (wf : Property P) (few_nodes : size G ≤ max_nodes) (few_rows : length P ≤ max_rows) where
  module _ (k tail : ℕ) (w : List ℕ) (f : Finding G P k tail w) (g r : ℕ) (hg : g < size G) (hr : r < length P) (turns : T (not (level G P (suc k) g r))) where
    module _ (none : rank_at w g r ≡ 0) where
      pub in_ranks : pair g r < max_pairs
      in_ranks = omega arith

      pub in_queue : tail < max_pairs
      in_queue = omega (arith, f.counted, ranked_room w (size G) (pair g r) (omega arith) none)

      unfoldable pub after : List ℕ
      after = pushed w tail (pair g r) k

      pub here : rank_at after g r ≡ suc k
      unfolding after
      here = rank_here w tail (pair g r) k in_ranks in_queue f.room f.low

      pub there : (u q : ℕ) → u < size G → q < length P → (pair g r ≡ pair u q → ⊥) → rank_at after u q ≡ rank_at w u q
      unfolding after
      there u q hu hq n = rank_there w tail (pair g r) k in_ranks in_queue f.room f.low (pair u q) (omega arith) n

      pub queued_after : (i : ℕ) → i < suc tail → Queued G P (suc k) after i
      unfolding after
      queued_after i h = go (ℕ_discrete i tail)
        where
          go : Dec (i ≡ tail) → Queued G P (suc k) (pushed w tail (pair g r) k) i
          go (yes e) = record {
            its_node = g;
            its_row = r;
            is_node = hg;
            is_row = hr;
            is_there = ap (queue_at (pushed w tail (pair g r) k)) e ∙ queue_here w tail (pair g r) k in_ranks in_queue f.room f.low;
            is_false = turns;
          }
          go (no n) = queued_same G P (suc k) i w (pushed w tail (pair g r) k) (queue_there w tail (pair g r) k in_ranks in_queue f.room f.low i (omega arith)) (f.queued i (omega arith))

    -- there is room to give it
    pub give_room : rank_at w g r ≡ 0 → tail < max_pairs
    give_room none = in_queue none
