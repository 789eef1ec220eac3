-- The queue of the fault sheet: one pair more, with its mark, keeps what is known of it; the causes of a pair put one after the other are what the breadth first list puts.
use Rattle.std.specs.Prelude.{◌≡◌, refl, ◌⊎◌, Bool, true, false, cond, ◌||◌, ℕ, zero, suc, ◌+◌, ◌*◌, ◌/◌, ◌%◌, ◌^◌, ◌≤◌, ◌<◌, T, eqb, length, get_or}
use Rattle.std.proofs.Common.{sym, ap, ap₂, subst, ◌∙◌, inl, inr, add-zero, mul-le-mul_left, arith, length-append}
use mathlib.Core.List.Memᴰ
use mathlib.Core.List.{List, [], ◌∷◌, ◌++◌, append-nil, Memᴰ}
use Rattle.std.proofs.Math.Decide.{ℕ_discrete}
use Rattle.files.specs.Basics.Queue.{Once, once_append, room, fresh}
use Rattle.files.specs.Basics.Tables.{table, length_table, getD_table}
use Rattle.files.specs.Basics.Tests.{any, any_i, grid, grid_i, length_grid}
use Rattle.files.specs.Cells.{cell, put_cell, has_bit, put_bit}
use Rattle.files.specs.Cells.Laws.{length_put_cell, length_put_bit, byte_outside, bit_outside, cell_agree, cell_same, cell_other, bit_same, bit_other, has_bit_is}
use Rattle.files.specs.Graph.{Graph, size}
use Rattle.files.specs.Places.{max_nodes, max_rows}
use Rattle.files.specs.Property.{Row}
use Rattle.judging.specs.Levels.Sheet.{same_pair}
use Rattle.judging.specs.Levels.Sheet.Laws.{same_pair_e, same_pair_refl}
use Rattle.judging.specs.Places.{firsts_base, judge_room, marks_base, max_pairs, queue_base}
use Rattle.judging.specs.Ranking.{pair, queue_at}
use Rattle.judging.specs.Ranking.Laws.{ranked_kept}
use Rattle.judging.specs.Sheets.{Settled, Listed, listed, pair_of}

-- ---- lists

pub table_more : {A : Type 0} (f : ℕ → A) (a n : ℕ) → table f a (suc n) ≡ table f a n ++ f (a + n) ∷ []
table_more f a zero = ap (λ (i : ℕ). f i ∷ []) (sym (add-zero a))
table_more f a (suc n) = let e : suc a + n ≡ a + suc n = omega arith in ap (λ (ys : List _). f a ∷ ys) (table_more f (suc a) n ∙ ap (λ (i : ℕ). table f (suc a) n ++ f i ∷ []) e)

pub table_same : {A : Type 0} (f h : ℕ → A) (a n : ℕ) → ((i : ℕ) → a ≤ i → i < a + n → f i ≡ h i) → table f a n ≡ table h a n
table_same f h a zero e = refl
table_same f h a (suc n) e = ap₂ ◌∷◌ (e a (omega arith) (omega arith)) (table_same f h (suc a) n (λ i x y. e i (omega arith) (omega arith)))

any_append : {A : Type 0} (p : A → Bool) (xs ys : List A) → any p (xs ++ ys) ≡ any p xs || any p ys
any_append p [] ys = refl
any_append p (x ∷ xs) ys = go (p x) (any_append p xs ys)
  where
    go : (b : Bool) → any p (xs ++ ys) ≡ any p xs || any p ys → b || any p (xs ++ ys) ≡ (b || any p xs) || any p ys
    go true e = refl
    go false e = e

-- ---- the pairs listed

pub listed_none : (w : List ℕ) → listed w 0 ≡ []
unfolding listed
listed_none w = refl

pub listed_more : (w : List ℕ) (n : ℕ) → listed w (suc n) ≡ listed w n ++ pair_of (queue_at w n) ∷ []
unfolding listed
listed_more w n = table_more (λ (i : ℕ). pair_of (queue_at w i)) 0 n ∙ ap (λ (i : ℕ). table (λ (j : ℕ). pair_of (queue_at w j)) 0 n ++ pair_of (queue_at w i) ∷ []) (omega arith)

pub listed_same : (w w' : List ℕ) (n : ℕ) → ((i : ℕ) → i < n → queue_at w' i ≡ queue_at w i) → listed w' n ≡ listed w n
unfolding listed
listed_same w w' n f = table_same (λ (i : ℕ). pair_of (queue_at w' i)) (λ (i : ℕ). pair_of (queue_at w i)) 0 n (λ i x y. ap pair_of (f i (omega arith)))

pub length_listed : (w : List ℕ) (n : ℕ) → length (listed w n) ≡ n
unfolding listed
length_listed w n = length_table (λ (i : ℕ). pair_of (queue_at w i)) 0 n

pub listed_at : (w : List ℕ) (n i : ℕ) (d : ℕ × ℕ) → i < n → get_or (listed w n) i d ≡ pair_of (queue_at w i)
unfolding listed
listed_at w n i d h = getD_table (λ (j : ℕ). pair_of (queue_at w j)) 0 n i d h ∙ ap (λ (j : ℕ). pair_of (queue_at w j)) (omega arith)

pub pair_of_pair : (g r : ℕ) → r < 32 → pair_of (pair g r) ≡ (g, r)
pair_of_pair g r h = let a : (32 * g + r) / 32 ≡ g = omega arith in let b : (32 * g + r) % 32 ≡ r = omega arith in ap₂ (λ (i j : ℕ). (i, j)) a b

-- ---- one pair more

abbrev marked : List ℕ → ℕ → ℕ → List ℕ
marked w tail p = put_cell (put_bit w marks_base p) queue_base 2 tail p

module _ (w : List ℕ) (tail p : ℕ) (in_marks : p < max_pairs) (in_queue : tail < max_pairs) (long : judge_room ≤ length w) where
  abbrev bitten : List ℕ
  bitten = put_bit w marks_base p

  long_bitten : judge_room ≤ length bitten
  long_bitten = omega (arith, length_put_bit w marks_base p)

  pub marked_length : length (marked w tail p) ≡ length w
  marked_length = length_put_cell bitten queue_base 2 tail p ∙ length_put_bit w marks_base p

  -- a byte that is neither in the queue nor among the marks
  kept : (q : ℕ) → (q < queue_base) ⊎ (firsts_base ≤ q) → get_or (marked w tail p) q 0 ≡ get_or w q 0
  kept q (inl h) = byte_outside bitten queue_base 2 tail p q (inl (omega arith)) ∙ bit_outside w marks_base p q (λ e. omega arith)
  kept q (inr h) = byte_outside bitten queue_base 2 tail p q (inr (omega arith)) ∙ bit_outside w marks_base p q (λ e. omega arith)

  rank_kept : (j : ℕ) → j < max_pairs → cell (marked w tail p) 0 2 j ≡ cell w 0 2 j
  rank_kept j h = cell_agree (marked w tail p) w 0 2 j (λ q a b. kept q (inl (omega arith)))

  first_kept : (j : ℕ) → cell (marked w tail p) firsts_base 2 j ≡ cell w firsts_base 2 j
  first_kept j = cell_agree (marked w tail p) w firsts_base 2 j (λ q a b. kept q (inr (omega arith)))

  queue_here : queue_at (marked w tail p) tail ≡ p
  queue_here = cell_same bitten queue_base 2 tail p (omega (arith, long_bitten)) (omega arith)

  queue_there : (i : ℕ) → i < tail → queue_at (marked w tail p) i ≡ queue_at w i
  queue_there i h = cell_other bitten queue_base 2 tail i p (λ e. omega arith) ∙ cell_agree bitten w queue_base 2 i (λ q a b. bit_outside w marks_base p q (λ e. omega arith))

  -- the queue's bytes do not touch the marks
  mark_is : (h : ℕ) → has_bit (marked w tail p) marks_base h ≡ has_bit bitten marks_base h
  mark_is h =
      has_bit_is (marked w tail p) marks_base h
      ∙ ap (λ (x : ℕ). eqb (x / 2 ^ (h % 8) % 2) 1) (byte_outside bitten queue_base 2 tail p (marks_base + h / 8) (inr (omega arith)))
      ∙ sym (has_bit_is bitten marks_base h)

  mark_here : has_bit (marked w tail p) marks_base p ≡ true
  mark_here = mark_is p ∙ bit_same w marks_base p (omega arith)

  mark_there : (h : ℕ) → (p ≡ h → ⊥) → has_bit (marked w tail p) marks_base h ≡ has_bit w marks_base h
  mark_there h f = mark_is h ∙ bit_other w marks_base p h f

module _ (G : Graph) (P : List Row) where
  -- what is settled stays so where ranks and first edges read the same
  pub settled_kept : (w w' : List ℕ) → judge_room ≤ length w' → size G ≤ max_nodes → length P ≤ max_rows → ((j : ℕ) → j < max_pairs → cell w' 0 2 j ≡ cell w 0 2 j)
      → ((j : ℕ) → j ≤ 256 → cell w' firsts_base 2 j ≡ cell w firsts_base 2 j) → Settled G P w → Settled G P w'
  settled_kept w w' long fn fr a b s = record {
    room = long;
    ranks = ranked_kept G P w w' fn fr a s.ranks;
    firsts = λ g h. b g (omega arith) ∙ s.firsts g h;
  }

  module _ (fn : size G ≤ max_nodes) (fr : length P ≤ max_rows) (tail : ℕ) (w : List ℕ) (x : Listed G P tail w) (g r : ℕ) (hg : g < size G) (hr : r < length P)
      (new : has_bit w marks_base (pair g r) ≡ false) where
    unseen : any (same_pair (g, r)) (listed w tail) ≡ false
    unseen = sym (x.marks g r hg hr) ∙ new

    once_more : Once (listed w tail ++ (g, r) ∷ [])
    once_more = once_append (listed w tail) ((g, r) ∷ []) x.once ((λ m. Memᴰ.not-nil m), tt) (λ y m n. no y m (Memᴰ.eq_of_singleton n))
      where
        no : (y : ℕ × ℕ) → Memᴰ y (listed w tail) → y ≡ (g, r) → ⊥
        no y m e = subst T unseen (any_i (same_pair (g, r)) (listed w tail) (g, r) (subst (λ (z : ℕ × ℕ). Memᴰ z (listed w tail)) e m) (same_pair_refl (g, r)))

    inside_more : (y : ℕ × ℕ) → Memᴰ y (listed w tail ++ (g, r) ∷ []) → (y.0 < size G) × (y.1 < length P)
    inside_more y m = go (Memᴰ.append_cases (listed w tail) m)
      where
        go : Memᴰ y (listed w tail) ⊎ Memᴰ y ((g, r) ∷ []) → (y.0 < size G) × (y.1 < length P)
        go (inl n) = x.inside y n
        go (inr n) = let e : y ≡ (g, r) = Memᴰ.eq_of_singleton n in subst (λ (z : ℕ × ℕ). (z.0 < size G) × (z.1 < length P)) (sym e) (hg, hr)

    few : suc tail ≤ size G * length P
    few =
        let a = room (listed w tail ++ (g, r) ∷ []) (grid (size G) (length P)) once_more (λ y m. let b = inside_more y m in grid_i (size G) (length P) y.0 y.1 b.0 b.1) in
        omega (arith, a, length_grid (size G) (length P), length-append (listed w tail) ((g, r) ∷ []), length_listed w tail)

    pub in_queue : tail < max_pairs
    in_queue = omega (arith, few, mul-le-mul_left (size G) fr, fn)

    after : List ℕ
    after = marked w tail (pair g r)

    -- the pair stands at the end of the list
    pub listed_after : listed (marked w tail (pair g r)) (suc tail) ≡ listed w tail ++ (g, r) ∷ []
    listed_after =
        listed_more (marked w tail (pair g r)) tail
        ∙ ap₂ (λ (xs : List (ℕ × ℕ)) (y : ℕ × ℕ). xs ++ y ∷ [])
        (listed_same w (marked w tail (pair g r)) tail (queue_there w tail (pair g r) (omega arith) in_queue x.settled.room))
        (ap pair_of (queue_here w tail (pair g r) (omega arith) in_queue x.settled.room) ∙ pair_of_pair g r (omega arith))

    marks_after : (u q : ℕ) → u < size G → q < length P → has_bit (marked w tail (pair g r)) marks_base (pair u q) ≡ any (same_pair (u, q)) (listed w tail ++ (g, r) ∷ [])
    marks_after u q hu hq = go (ℕ_discrete (pair g r) (pair u q)) ∙ sym (any_append (same_pair (u, q)) (listed w tail) ((g, r) ∷ []))
      where
        hit : T (same_pair (u, q) (g, r)) → true ≡ any (same_pair (u, q)) (listed w tail) || (same_pair (u, q) (g, r) || false)
        hit t = go (any (same_pair (u, q)) (listed w tail)) (same_pair (u, q) (g, r)) t
          where
            go : (a b : Bool) → T b → true ≡ a || (b || false)
            go true b t = refl
            go false true t = refl
            go false false t = absurd t

        miss : (T (same_pair (u, q) (g, r)) → ⊥) → any (same_pair (u, q)) (listed w tail) ≡ any (same_pair (u, q)) (listed w tail) || (same_pair (u, q) (g, r) || false)
        miss f = go (any (same_pair (u, q)) (listed w tail)) (same_pair (u, q) (g, r)) f
          where
            go : (a b : Bool) → (T b → ⊥) → a ≡ a || (b || false)
            go a true f = absurd (f tt)
            go true false f = refl
            go false false f = refl

        go : Dec (pair g r ≡ pair u q) → has_bit (marked w tail (pair g r)) marks_base (pair u q) ≡ any (same_pair (u, q)) (listed w tail) || (same_pair (u, q) (g, r) || false)
        go (yes e) =
            let a : u ≡ g = omega arith in
            let b : q ≡ r = omega arith in
            ap (has_bit (marked w tail (pair g r)) marks_base) (sym e) ∙ mark_here w tail (pair g r) (omega arith) in_queue x.settled.room
            ∙ hit (subst (λ (z : ℕ × ℕ). T (same_pair (u, q) z)) (ap₂ (λ (i j : ℕ). (i, j)) a b) (same_pair_refl (u, q)))
        go (no f) =
            mark_there w tail (pair g r) (omega arith) in_queue x.settled.room (pair u q) f ∙ x.marks u q hu hq
            ∙ miss (λ t. f (ap (λ (z : ℕ × ℕ). pair z.0 z.1) (sym (same_pair_e (u, q) (g, r) t))))

    pub visit_new : Listed G P (suc tail) (marked w tail (pair g r)) × (listed (marked w tail (pair g r)) (suc tail) ≡ listed w tail ++ fresh same_pair (listed w tail) ((g, r) ∷ []))
    visit_new = (
      record {
        settled = settled_kept w (marked w tail (pair g r)) (omega (arith, marked_length w tail (pair g r) (omega arith) in_queue x.settled.room, x.settled.room)) fn fr
            (rank_kept w tail (pair g r) (omega arith) in_queue x.settled.room) (λ j h. first_kept w tail (pair g r) (omega arith) in_queue x.settled.room j) x.settled;
        marks = λ u q hu hq. marks_after u q hu hq ∙ ap (any (same_pair (u, q))) (sym listed_after);
        once = subst Once (sym listed_after) once_more;
        inside = λ y m. inside_more y (subst (Memᴰ y) listed_after m);
      },
      listed_after ∙ ap (λ (b : Bool). listed w tail ++ cond b [] ((g, r) ∷ [])) (sym unseen),
    )

  -- a pair that is listed already
  pub visit_old : (tail : ℕ) (w : List ℕ) (g r : ℕ) → any (same_pair (g, r)) (listed w tail) ≡ true → listed w tail ≡ listed w tail ++ fresh same_pair (listed w tail) ((g, r) ∷ [])
  visit_old tail w g r e = sym (append-nil (listed w tail)) ∙ ap (λ (b : Bool). listed w tail ++ cond b [] ((g, r) ∷ [])) (sym e)

pub append_nothing : (xs : List (ℕ × ℕ)) → xs ≡ xs ++ []
append_nothing xs = sym (append-nil xs)

-- ---- two causes, one after the other

pub fresh_two : (seen : List (ℕ × ℕ)) (x y : ℕ × ℕ)
    → fresh same_pair seen (x ∷ []) ++ fresh same_pair (seen ++ fresh same_pair seen (x ∷ [])) (y ∷ []) ≡ fresh same_pair seen (x ∷ y ∷ [])
fresh_two seen x y = go (any (same_pair x) seen) refl
  where
    swap : any (same_pair y) (seen ++ x ∷ []) ≡ any (same_pair y) (x ∷ seen)
    swap = any_append (same_pair y) seen (x ∷ []) ∙ turn (any (same_pair y) seen) (same_pair y x)
      where
        turn : (a b : Bool) → a || (b || false) ≡ b || a
        turn true true = refl
        turn true false = refl
        turn false true = refl
        turn false false = refl

    go : (b : Bool) → any (same_pair x) seen ≡ b
        → cond b [] (x ∷ []) ++ fresh same_pair (seen ++ cond b [] (x ∷ [])) (y ∷ []) ≡ cond b (fresh same_pair seen (y ∷ [])) (x ∷ fresh same_pair (x ∷ seen) (y ∷ []))
    go true e = ap (λ (s : List (ℕ × ℕ)). fresh same_pair s (y ∷ [])) (append-nil seen)
    go false e = ap (λ (b : Bool). x ∷ cond b [] (y ∷ [])) swap
