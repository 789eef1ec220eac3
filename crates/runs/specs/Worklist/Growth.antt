-- Adding states to a point: what changes in the buffer, that there is room in the queue, and that all else is kept. `Grew` is transitive.
use Rattle.std.specs.Prelude.{◌≡◌, ◌⊎◌, Bool, not, cond, ◌&&◌, ◌||◌, ℕ, suc, ◌+◌, ◌*◌, ◌/◌, ◌%◌, ◌≤◌, ◌<◌, length, get_or}
use Rattle.std.proofs.Math.Path.{refl, ap, subst}
use Rattle.std.proofs.Common.{sym, ◌∙◌, inl, inr, le_refl, le_of_lt, add-one, arith, T_not}
use Rattle.std.proofs.Math.Bool.{true, false}
use mathlib.Core.List.{List}
use Rattle.std.proofs.Math.Nat.{le-suc}
use Rattle.std.proofs.Math.Decide.{ℕ_discrete, dec_lt}
use Rattle.std.specs.Int.Bits.{bit_or}
use Rattle.std.proofs.lemmas.Nat.{or_lt}
use Rattle.std.proofs.Math.Dec.{T, eqb, eqb→eq}
use Rattle.files.specs.Basics.Lists.{span, span_i, span_e}
use Rattle.files.specs.Basics.Tables.{tally_more}
use Rattle.files.specs.Basics.Tests.{any, any_i, any_e, and_i, and_e, or_l, or_r, or_e, decide, same_test, eq_eqb}
use Rattle.files.specs.Cells.{cell, put_cell}
use Rattle.files.specs.Cells.Laws.{length_put_cell, byte_outside, cell_same, cell_apart, cell_other}
use Rattle.files.specs.Graph.{Graph, size}
use Rattle.files.specs.Places.{max_edges, max_nodes}
use Rattle.files.specs.Rules.{Monitor}
use Rattle.judging.specs.Ranking.Stores.{tally_room}
use Rattle.maximal.specs.Masks.{member}
use Rattle.maximal.specs.Masks.Laws.{member_or, members_eq}
use Rattle.runs.specs.Prepared.Files.{tables_kept}
use Rattle.runs.specs.Regions.{monitor_base, points, queue_cells, reached_base, spare_base, waiting_base, watch_room}
use Rattle.runs.specs.Runs.{meth}
use Rattle.runs.specs.Summary.{Inside}
use Rattle.runs.specs.Worklist.{point, reach, waits, queue, reached, grown, queued, added, added_tail, Queued, Holding, Grew}

-- ---- sets and tallies

-- a set that grows by another has a new state
pub new_state : (x y : ℕ) → x < 256 → y < 256 → (bit_or x y ≡ x → ⊥) → (q : ℕ) × (q < 8) × T (member y q) × T (not (member x q))
new_state x y hx hy f = go (decide (any (λ (q : ℕ). member y q && not (member x q)) (span 0 8)))
  where
    go : T (any (λ (q : ℕ). member y q && not (member x q)) (span 0 8)) ⊎ T (not (any (λ (q : ℕ). member y q && not (member x q)) (span 0 8)))
        → (q : ℕ) × (q < 8) × T (member y q) × T (not (member x q))
    go (inl t) =
        let a = any_e (λ (q : ℕ). member y q && not (member x q)) (span 0 8) t in
        let b = and_e (member y a.0) (not (member x a.0)) a.2 in
        (a.0, omega (arith, (span_e 8 0 a.0 a.1).1), b.0, b.1)
    go (inr t) = absurd (f (members_eq 8 (bit_or x y) x (or_lt 8 x y hx hy) hx same))
      where
        old : (q : ℕ) → q < 8 → T (member x q) ⊎ T (not (member x q)) → T (member y q) → T (member x q)
        old q h (inl m) u = m
        old q h (inr m) u =
            absurd (T_not (any (λ (q : ℕ). member y q && not (member x q)) (span 0 8)) t
            (any_i (λ (q : ℕ). member y q && not (member x q)) (span 0 8) q (span_i 8 0 q (omega arith) (omega arith)) (and_i (member y q) (not (member x q)) u m)))

        same : (q : ℕ) → q < 8 → member (bit_or x y) q ≡ member x q
        same q h =
            member_or x y q
            ∙ same_test (member x q || member y q) (member x q) (λ u. on (or_e (member x q) (member y q) u)) (λ u. or_l (member x q) (member y q) u)
          where
            on : T (member x q) ⊎ T (member y q) → T (member x q)
            on (inl u) = u
            on (inr u) = old q h (decide (member x q)) u

-- (over plain numbers, since the tallies are long)
lt_le : (a b c : ℕ) → a ≤ b → b < c → a < c
lt_le a b c h l = omega arith

le_lt : (a b c : ℕ) → a ≤ b → b < c → suc a ≤ c
le_lt a b c h l = omega arith

le_le : (a b c : ℕ) → a ≤ b → b < c → a ≤ c
le_le a b c h l = omega arith

-- ---- what a store does to the buffer

-- w' is w with the states v at a point, which waits, and with the point at the queue's end unless it waited before
pub record Stored (w w' : List ℕ) (tail tail' at v : ℕ) : Type 0 where
  pub same_length : length w' ≡ length w
  pub reach_here : cell w' reached_base 1 at ≡ v
  pub reach_there : (i : ℕ) → i < points → (at ≡ i → ⊥) → cell w' reached_base 1 i ≡ cell w reached_base 1 i
  pub waits_here : cell w' waiting_base 1 at ≡ 1
  pub waits_there : (i : ℕ) → i < points → (at ≡ i → ⊥) → cell w' waiting_base 1 i ≡ cell w waiting_base 1 i
  pub queue_before : (i : ℕ) → i < tail → queue w' i ≡ queue w i
  pub queue_end : ((cell w waiting_base 1 at ≡ 1) × (tail' ≡ tail)) ⊎ ((tail' ≡ suc tail) × (queue w' tail ≡ at))
  pub rest : (q : ℕ) → ((monitor_base ≤ q) × (q < reached_base)) ⊎ (spare_base ≤ q) → get_or w' q 0 ≡ get_or w q 0

module _ (w : List ℕ) (tail at v : ℕ) (inside : at < points) (small : v < 256) (room : watch_room ≤ length w) where
  abbrev once : List ℕ
  once = put_cell w reached_base 1 at v

  once_rest : (q : ℕ) → ((monitor_base ≤ q) × (q < reached_base)) ⊎ (spare_base ≤ q) → get_or once q 0 ≡ get_or w q 0
  once_rest q (inl h) = byte_outside w reached_base 1 at v q (inl (omega (arith, h.1)))
  once_rest q (inr h) = byte_outside w reached_base 1 at v q (inr (omega arith))

  stored_waiting : tail ≤ queue_cells → cell w waiting_base 1 at ≡ 1 → Stored w once tail tail at v
  stored_waiting t e = record {
    same_length = length_put_cell w reached_base 1 at v;
    reach_here = cell_same w reached_base 1 at v (omega arith) small;
    reach_there = λ i h n. cell_other w reached_base 1 at i v n;
    waits_here = cell_apart w reached_base 1 at v waiting_base 1 at (inr (omega arith)) ∙ e;
    waits_there = λ i h n. cell_apart w reached_base 1 at v waiting_base 1 i (inr (omega arith));
    queue_before = λ i h. cell_apart w reached_base 1 at v 0 2 i (inl (omega (arith, h)));
    queue_end = inl (e, refl);
    rest = once_rest;
  }

  abbrev marked : List ℕ
  marked = put_cell once waiting_base 1 at 1

  abbrev pushed : List ℕ
  pushed = put_cell marked 0 2 tail at

  long : (length marked ≡ length w) × (length pushed ≡ length w)
  long =
      let a = length_put_cell w reached_base 1 at v in
      let b = length_put_cell once waiting_base 1 at 1 in
      (b ∙ a, length_put_cell marked 0 2 tail at ∙ b ∙ a)

  stored_new : tail < queue_cells → Stored w pushed tail (suc tail) at v
  stored_new t = record {
    same_length = long.1;
    reach_here = cell_apart marked 0 2 tail at reached_base 1 at (inr (omega arith)) ∙ cell_apart once waiting_base 1 at 1 reached_base 1 at (inl (omega arith)) ∙ cell_same w reached_base 1 at v (omega arith) small;
    reach_there = λ i h n. cell_apart marked 0 2 tail at reached_base 1 i (inr (omega arith)) ∙ cell_apart once waiting_base 1 at 1 reached_base 1 i (inl (omega arith)) ∙ cell_other w reached_base 1 at i v n;
    waits_here = cell_apart marked 0 2 tail at waiting_base 1 at (inr (omega arith))
        ∙ cell_same once waiting_base 1 at 1 (omega (arith, length_put_cell w reached_base 1 at v)) (omega arith);
    waits_there = λ i h n. cell_apart marked 0 2 tail at waiting_base 1 i (inr (omega arith)) ∙ cell_other once waiting_base 1 at i 1 n ∙ cell_apart w reached_base 1 at v waiting_base 1 i (inr (omega arith));
    queue_before = λ i h. cell_other marked 0 2 tail i at (λ e. omega (arith, h, e)) ∙ cell_apart once waiting_base 1 at 1 0 2 i (inl (omega (arith, h)))
        ∙ cell_apart w reached_base 1 at v 0 2 i (inl (omega (arith, h)));
    queue_end = inr (refl, cell_same marked 0 2 tail at (omega (arith, long.0)) (omega arith));
    rest = λ q h. byte_outside marked 0 2 tail at q (inr (after q h)) ∙ twice q h ∙ once_rest q h;
  }
    where
      after : (q : ℕ) → ((monitor_base ≤ q) × (q < reached_base)) ⊎ (spare_base ≤ q) → 0 + 2 * tail + 2 ≤ q
      after q (inl h) = omega (arith, h.0)
      after q (inr h) = omega arith

      twice : (q : ℕ) → ((monitor_base ≤ q) × (q < reached_base)) ⊎ (spare_base ≤ q) → get_or marked q 0 ≡ get_or once q 0
      twice q (inl h) = byte_outside once waiting_base 1 at 1 q (inl (omega (arith, h.1)))
      twice q (inr h) = byte_outside once waiting_base 1 at 1 q (inr (omega arith))

-- ---- adding states, as the code does it

pub add_same : (w : List ℕ) (tail g p y old : ℕ) → old ≡ reach w g p → bit_or old y ≡ old → (tail ≡ added_tail w tail g p y) × (w ≡ added w tail g p y)
unfolding added added_tail
add_same w tail g p y old e d = go (eqb (bit_or (reach w g p) y) (reach w g p)) (eq_eqb _ _ (ap (λ (x : ℕ). bit_or x y) (sym e) ∙ d ∙ e))
  where
    go : (b : Bool) → T b → (tail ≡ cond b tail (cond (eqb (waits w g p) 1) tail (suc tail)))
        × (w ≡ cond b w (cond (eqb (waits w g p) 1) (grown w g p y) (queued (grown w g p y) tail g p)))
    go true t = (refl, refl)
    go false t = absurd t

-- w₁ has the new states
module _ (w w₁ : List ℕ) (tail g p y old : ℕ) (hg : g < 256) (hp : p < 8) (is : old ≡ reach w g p) (fresh : bit_or old y ≡ old → ⊥)
    (put : w₁ ≡ put_cell w reached_base 1 (point g p) (bit_or old y)) where
  is_grown : w₁ ≡ grown w g p y
  is_grown = put ∙ ap (λ (x : ℕ). put_cell w reached_base 1 (point g p) (bit_or x y)) is

  same_waits : waits w₁ g p ≡ waits w g p
  same_waits = ap (λ (v : List ℕ). waits v g p) put ∙ cell_apart w reached_base 1 (point g p) (bit_or old y) waiting_base 1 (point g p) (inr (omega arith))

  not_same : T (eqb (bit_or (reach w g p) y) (reach w g p)) → ⊥
  not_same t = fresh (ap (λ (x : ℕ). bit_or x y) is ∙ eqb→eq _ _ t ∙ sym is)

  abbrev Ends : Bool → Bool → ℕ → List ℕ → Type 0
  Ends b c t v = (t ≡ cond b tail (cond c tail (suc tail))) × (v ≡ cond b w (cond c (grown w g p y) (queued (grown w g p y) tail g p)))

  pub add_waiting : cell w₁ waiting_base 1 (point g p) ≡ 1 → (tail ≡ added_tail w tail g p y) × (w₁ ≡ added w tail g p y)
  unfolding added added_tail
  add_waiting e = go (eqb (bit_or (reach w g p) y) (reach w g p)) (eqb (waits w g p) 1) not_same (eq_eqb _ _ (sym same_waits ∙ e))
    where
      go : (b c : Bool) → (T b → ⊥) → T c → Ends b c tail w₁
      go true c f t = absurd (f tt)
      go false true f t = (refl, is_grown)
      go false false f t = absurd t

  pub add_new : (w₂ w₃ : List ℕ) → (cell w₁ waiting_base 1 (point g p) ≡ 1 → ⊥) → w₂ ≡ put_cell w₁ waiting_base 1 (point g p) 1 → w₃ ≡ put_cell w₂ 0 2 tail (point g p)
      → (tail + 1 ≡ added_tail w tail g p y) × (w₃ ≡ added w tail g p y)
  unfolding added added_tail
  add_new w₂ w₃ n a b = go (eqb (bit_or (reach w g p) y) (reach w g p)) (eqb (waits w g p) 1) not_same (λ t. n (same_waits ∙ eqb→eq _ _ t))
    where
      go : (b c : Bool) → (T b → ⊥) → (T c → ⊥) → Ends b c (tail + 1) w₃
      go true c f h = absurd (f tt)
      go false true f h = absurd (h tt)
      go false false f h = (add-one tail, b ∙ ap (λ (v : List ℕ). put_cell v 0 2 tail (point g p)) a ∙ ap (λ (v : List ℕ). queued v tail g p) is_grown)

-- ---- what grows

module _ (G : Graph) (mon : Monitor) where
  pub grew_none : (tail : ℕ) (w : List ℕ) → Holding G mon tail w → Grew G mon tail tail w w
  grew_none tail w h = record {
    holding = h;
    longer = omega arith;
    reach_kept = λ g p q x y t. t;
    new_waits = λ g p x y. inl refl;
    waits_kept = λ g p x y e. e;
    new_queued = λ g p x y e. inl e;
    queue_kept = λ i l. refl;
    rest_kept = λ q d. refl;
  }

  pub grew_on : (a b c : ℕ) (u v w : List ℕ) → Grew G mon a b u v → Grew G mon b c v w → Grew G mon a c u w
  grew_on a b c u v w x y = record {
    holding = y.holding;
    longer = omega (arith, x.longer, y.longer);
    reach_kept = λ g p q hg hp t. y.reach_kept g p q hg hp (x.reach_kept g p q hg hp t);
    new_waits = λ g p hg hp. changed g p hg hp (x.new_waits g p hg hp) (y.new_waits g p hg hp);
    waits_kept = λ g p hg hp e. y.waits_kept g p hg hp (x.waits_kept g p hg hp e);
    new_queued = λ g p hg hp e. found g p hg hp (y.new_queued g p hg hp e);
    queue_kept = λ i l. y.queue_kept i (omega (arith, l, x.longer)) ∙ x.queue_kept i l;
    rest_kept = λ q d. y.rest_kept q d ∙ x.rest_kept q d;
  }
    where
      changed : (g p : ℕ) → g < size G → p < 8 → (reach v g p ≡ reach u g p) ⊎ (waits v g p ≡ 1) → (reach w g p ≡ reach v g p) ⊎ (waits w g p ≡ 1)
          → (reach w g p ≡ reach u g p) ⊎ (waits w g p ≡ 1)
      changed g p hg hp d (inr e) = inr e
      changed g p hg hp (inl i) (inl j) = inl (j ∙ i)
      changed g p hg hp (inr e) (inl j) = inr (y.waits_kept g p hg hp e)

      found : (g p : ℕ) → g < size G → p < 8 → (waits v g p ≡ 1) ⊎ ((i : ℕ) × (b ≤ i) × (i < c) × (queue w i ≡ point g p))
          → (waits u g p ≡ 1) ⊎ ((i : ℕ) × (a ≤ i) × (i < c) × (queue w i ≡ point g p))
      found g p hg hp (inr k) = inr (k.0, omega (arith, x.longer, k.1), k.2, k.3)
      found g p hg hp (inl e) = on (x.new_queued g p hg hp e)
        where
          on : (waits u g p ≡ 1) ⊎ ((i : ℕ) × (a ≤ i) × (i < b) × (queue v i ≡ point g p)) → (waits u g p ≡ 1) ⊎ ((i : ℕ) × (a ≤ i) × (i < c) × (queue w i ≡ point g p))
          on (inl z) = inl z
          on (inr k) = inr (k.0, k.1, omega (arith, k.2, y.longer), y.queue_kept k.0 k.2 ∙ k.3)

  module _ (few_nodes : size G ≤ max_nodes) (few_edges : length G.edges ≤ max_edges) (tail : ℕ) (w : List ℕ) (now : Holding G mon tail w) (g p y : ℕ) (hg : g < size G) (hp : p < 8) (small : y < 256) where
    abbrev old : ℕ
    old = reach w g p

    abbrev new : ℕ
    new = bit_or old y

    -- bit q of the point's states, among all
    abbrev bit_of : List ℕ → ℕ → Bool
    bit_of v h = member (cell v reached_base 1 (h / 8)) (h % 8)

    at_bit : (v : List ℕ) (q : ℕ) → q < 8 → bit_of v (8 * point g p + q) ≡ member (reach v g p) q
    at_bit v q h =
        let a : (8 * point g p + q) / 8 ≡ point g p = omega arith in
        let b : (8 * point g p + q) % 8 ≡ q = omega arith in
        ap (λ (i : ℕ). member (cell v reached_base 1 i) ((8 * point g p + q) % 8)) a ∙ ap (λ (k : ℕ). member (reach v g p) k) b

    not_full : (q : ℕ) → q < 8 → T (not (member old q)) → reached w < queue_cells
    unfolding reached
    not_full q h t = tally_room (bit_of w) (8 * point g p + q) queue_cells (omega (arith, few_nodes)) (subst (λ (b : Bool). T (not b)) (sym (at_bit w q h)) t)

    -- a state that is new has room in the queue
    pub room_for : (new ≡ old → ⊥) → tail < queue_cells
    room_for f = let a = new_state old y (now.reach_small g p hg hp) small f in lt_le tail (reached w) queue_cells now.few (not_full a.0 a.1 a.3)

    module _ (happens : (q : ℕ) → q < 8 → T (member y q) → Inside G mon (meth G g) p g q) (w' : List ℕ) (tail' : ℕ) (fresh : new ≡ old → ⊥) (st : Stored w w' tail tail' (point g p) new) where
      -- the point itself, or another
      pick : (h r : ℕ) → h < size G → r < 8 → ((g ≡ h) × (p ≡ r)) ⊎ (point g p ≡ point h r → ⊥)
      pick h r hh hr = go (ℕ_discrete (point g p) (point h r))
        where
          go : Dec (point g p ≡ point h r) → ((g ≡ h) × (p ≡ r)) ⊎ (point g p ≡ point h r → ⊥)
          go (yes e) = inl (omega arith, omega arith)
          go (no n) = inr n

      same_point : (h r : ℕ) → (g ≡ h) × (p ≡ r) → point g p ≡ point h r
      same_point h r e = omega (arith, e.0, e.1)

      reach_other : (h r : ℕ) → h < size G → r < 8 → (point g p ≡ point h r → ⊥) → reach w' h r ≡ reach w h r
      reach_other h r hh hr n = st.reach_there (point h r) (omega (arith, few_nodes)) n

      grows : (q : ℕ) → T (member old q) → T (member (reach w' g p) q)
      grows q t = subst T (sym (ap (λ (k : ℕ). member k q) st.reach_here ∙ member_or old y q)) (or_l (member old q) (member y q) t)

      pub has_new : (q : ℕ) → T (member y q) → T (member (reach w' g p) q)
      has_new q t = subst T (sym (ap (λ (k : ℕ). member k q) st.reach_here ∙ member_or old y q)) (or_r (member old q) (member y q) t)

      more : reached w < reached w'
      unfolding reached
      more =
          let a = new_state old y (now.reach_small g p hg hp) small fresh in
          tally_more (bit_of w) (bit_of w') (8 * point g p + a.0) queue_cells (omega (arith, few_nodes, a.1)) (subst (λ (b : Bool). T (not b)) (sym (at_bit w a.0 a.1)) a.3)
          (subst T (sym (at_bit w' a.0 a.1)) (has_new a.0 a.2)) (λ h l t. up h l (ℕ_discrete (point g p) (h / 8)) t)
        where
          up : (h : ℕ) → h < queue_cells → Dec (point g p ≡ h / 8) → T (bit_of w h) → T (bit_of w' h)
          up h l (yes e) t =
              subst (λ (i : ℕ). T (member (cell w' reached_base 1 i) (h % 8))) e (grows (h % 8) (subst (λ (i : ℕ). T (member (cell w reached_base 1 i) (h % 8))) (sym e) t))
          up h l (no n) t = subst (λ (k : ℕ). T (member k (h % 8))) (sym (st.reach_there (h / 8) (omega arith) n)) t

      at_most : tail' ≡ tail → tail ≤ tail'
      at_most e = subst (λ (k : ℕ). tail ≤ k) (sym e) (le_refl tail)

      past : tail' ≡ suc tail → tail ≤ tail'
      past e = subst (λ (k : ℕ). tail ≤ k) (sym e) (le-suc tail)

      ends : ((waits w g p ≡ 1) × (tail' ≡ tail)) ⊎ ((tail' ≡ suc tail) × (queue w' tail ≡ point g p)) → (tail ≤ tail') × (tail' ≤ reached w')
      ends (inl e) = (at_most e.1, subst (λ (k : ℕ). k ≤ reached w') (sym e.1) (le_le tail (reached w) (reached w') now.few more))
      ends (inr e) = (past e.0, subst (λ (k : ℕ). k ≤ reached w') (sym e.0) (le_lt tail (reached w) (reached w') now.few more))

      queued_on : (i : ℕ) → i < tail' → Queued G mon w' i
      queued_on i l = go (dec_lt i tail) st.queue_end
        where
          go : Dec (i < tail) → ((waits w g p ≡ 1) × (tail' ≡ tail)) ⊎ ((tail' ≡ suc tail) × (queue w' tail ≡ point g p)) → Queued G mon w' i
          go (yes h) d =
              let a = now.in_queue i h in
              record { its_node = a.its_node; its_state = a.its_state; is_node = a.is_node; is_state = a.is_state; is_there = st.queue_before i h ∙ a.is_there }
          go (no h) (inl e) = absurd (omega (arith, e.1))
          go (no h) (inr e) =
              let i_is : i ≡ tail = omega (arith, e.0) in
              record { its_node = g; its_state = p; is_node = hg; is_state = hp; is_there = ap (queue w') i_is ∙ e.1 }

      holds_on : Holding G mon tail' w'
      holds_on = record {
        room = omega (arith, st.same_length, now.room);
        tables = tables_kept G mon w w' few_nodes few_edges (λ q a b. st.rest q (inl (a, b))) now.tables;
        reach_small = λ h r hh hr. small_on h r hh hr (pick h r hh hr);
        reach_happens = λ h r q hh hr hq t. happens_on h r q hh hr hq t (pick h r hh hr);
        in_queue = queued_on;
        few = (ends st.queue_end).1;
      }
        where
          small_on : (h r : ℕ) → h < size G → r < 8 → ((g ≡ h) × (p ≡ r)) ⊎ (point g p ≡ point h r → ⊥) → reach w' h r < 256
          small_on h r hh hr (inl e) = subst (λ (k : ℕ). k < 256) (sym (ap (λ (i : ℕ). cell w' reached_base 1 i) (sym (same_point h r e)) ∙ st.reach_here)) (or_lt 8 old y (now.reach_small g p hg hp) small)
          small_on h r hh hr (inr n) = subst (λ (k : ℕ). k < 256) (sym (reach_other h r hh hr n)) (now.reach_small h r hh hr)

          happens_on : (h r q : ℕ) → h < size G → r < 8 → q < 8 → T (member (reach w' h r) q) → ((g ≡ h) × (p ≡ r)) ⊎ (point g p ≡ point h r → ⊥) → Inside G mon (meth G h) r h q
          happens_on h r q hh hr hq t (inr n) = now.reach_happens h r q hh hr hq (subst (λ (k : ℕ). T (member k q)) (reach_other h r hh hr n) t)
          happens_on h r q hh hr hq t (inl e) = subst (λ (i : ℕ). Inside G mon (meth G i) r i q) e.0 (subst (λ (i : ℕ). Inside G mon (meth G g) i g q) e.1 here)
            where
              here : Inside G mon (meth G g) p g q
              here = on (or_e (member old q) (member y q) (subst T (ap (λ (i : ℕ). member (cell w' reached_base 1 i) q) (sym (same_point h r e)) ∙ ap (λ (k : ℕ). member k q) st.reach_here ∙ member_or old y q) t))
                where
                  on : T (member old q) ⊎ T (member y q) → Inside G mon (meth G g) p g q
                  on (inl u) = now.reach_happens g p q hg hp hq u
                  on (inr u) = happens q hq u

      stored_grew : Grew G mon tail tail' w w'
      stored_grew = record {
        holding = holds_on;
        longer = (ends st.queue_end).0;
        reach_kept = λ h r q hh hr t. kept_on h r q hh hr t (pick h r hh hr);
        new_waits = λ h r hh hr. changed_on h r hh hr (pick h r hh hr);
        waits_kept = λ h r hh hr e. waits_on h r hh hr e (pick h r hh hr);
        new_queued = λ h r hh hr e. queued_new h r hh hr e (pick h r hh hr) st.queue_end;
        queue_kept = st.queue_before;
        rest_kept = st.rest;
      }
        where
          here_waits : (h r : ℕ) → (g ≡ h) × (p ≡ r) → waits w' h r ≡ 1
          here_waits h r e = ap (λ (i : ℕ). cell w' waiting_base 1 i) (sym (same_point h r e)) ∙ st.waits_here

          kept_on : (h r q : ℕ) → h < size G → r < 8 → T (member (reach w h r) q) → ((g ≡ h) × (p ≡ r)) ⊎ (point g p ≡ point h r → ⊥) → T (member (reach w' h r) q)
          kept_on h r q hh hr t (inl e) = subst (λ (i : ℕ). T (member (cell w' reached_base 1 i) q)) (same_point h r e) (grows q (subst (λ (i : ℕ). T (member (cell w reached_base 1 i) q)) (sym (same_point h r e)) t))
          kept_on h r q hh hr t (inr n) = subst (λ (k : ℕ). T (member k q)) (sym (reach_other h r hh hr n)) t

          changed_on : (h r : ℕ) → h < size G → r < 8 → ((g ≡ h) × (p ≡ r)) ⊎ (point g p ≡ point h r → ⊥) → (reach w' h r ≡ reach w h r) ⊎ (waits w' h r ≡ 1)
          changed_on h r hh hr (inl e) = inr (here_waits h r e)
          changed_on h r hh hr (inr n) = inl (reach_other h r hh hr n)

          waits_on : (h r : ℕ) → h < size G → r < 8 → waits w h r ≡ 1 → ((g ≡ h) × (p ≡ r)) ⊎ (point g p ≡ point h r → ⊥) → waits w' h r ≡ 1
          waits_on h r hh hr e (inl d) = here_waits h r d
          waits_on h r hh hr e (inr n) = st.waits_there (point h r) (omega (arith, few_nodes)) n ∙ e

          queued_new : (h r : ℕ) → h < size G → r < 8 → waits w' h r ≡ 1 → ((g ≡ h) × (p ≡ r)) ⊎ (point g p ≡ point h r → ⊥)
              → ((waits w g p ≡ 1) × (tail' ≡ tail)) ⊎ ((tail' ≡ suc tail) × (queue w' tail ≡ point g p))
              → (waits w h r ≡ 1) ⊎ ((i : ℕ) × (tail ≤ i) × (i < tail') × (queue w' i ≡ point h r))
          queued_new h r hh hr e (inr n) d = inl (sym (st.waits_there (point h r) (omega (arith, few_nodes)) n) ∙ e)
          queued_new h r hh hr e (inl d) (inl z) = inl (ap (λ (i : ℕ). cell w waiting_base 1 i) (sym (same_point h r d)) ∙ z.0)
          queued_new h r hh hr e (inl d) (inr z) = inr (tail, omega arith, omega (arith, z.0), z.1 ∙ same_point h r d)

    -- adding states that happen
    module _ (happens : (q : ℕ) → q < 8 → T (member y q) → Inside G mon (meth G g) p g q) where
      abbrev Adds : List ℕ → ℕ → Type 0
      Adds w' tail' = Grew G mon tail tail' w w' × ((q : ℕ) → T (member y q) → T (member (reach w' g p) q))

      at_point : point g p < points
      at_point = omega (arith, few_nodes)

      new_small : new < 256
      new_small = or_lt 8 old y (now.reach_small g p hg hp) small

      adds : (w' : List ℕ) (tail' : ℕ) → (new ≡ old → ⊥) → Stored w w' tail tail' (point g p) new → Adds w' tail'
      adds w' tail' f st = (stored_grew happens w' tail' f st, has_new happens w' tail' f st)

      pub added_grew : Adds (added w tail g p y) (added_tail w tail g p y)
      unfolding added added_tail
      added_grew = go (eqb new old) refl
        where
          both : (b : Bool) → eqb (waits w g p) 1 ≡ b → (new ≡ old → ⊥) → Adds (cond b (grown w g p y) (queued (grown w g p y) tail g p)) (cond b tail (suc tail))
          both true e f =
              adds (grown w g p y) tail f
              (stored_waiting w tail (point g p) new at_point new_small now.room (le_of_lt (room_for f)) (eqb→eq (waits w g p) 1 (subst T (sym e) tt)))
          both false e f = adds (queued (grown w g p y) tail g p) (suc tail) f (stored_new w tail (point g p) new at_point new_small now.room (room_for f))

          go : (b : Bool) → eqb new old ≡ b
              → Adds (cond b w (cond (eqb (waits w g p) 1) (grown w g p y) (queued (grown w g p y) tail g p))) (cond b tail (cond (eqb (waits w g p) 1) tail (suc tail)))
          go true e =
              let same : new ≡ old = eqb→eq new old (subst T (sym e) tt) in
              (grew_none tail w now, λ q t. subst T (ap (λ (k : ℕ). member k q) same) (subst T (sym (member_or old y q)) (or_r (member old q) (member y q) t)))
          go false e = both (eqb (waits w g p) 1) refl (λ d. subst T e (eq_eqb new old d))
