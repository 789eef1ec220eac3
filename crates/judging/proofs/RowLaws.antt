-- For the code on rows of bits: a row whose bytes are all written, a row of chosen nodes, and what bytes put together by "or" tell of two rows.
use mathlib.Core.Path.{◌≡◌, refl, sym, ap, ap₂, subst, ◌∙◌}
use mathlib.Core.Bool.{Bool, true, false, not, ◌&&◌, ◌||◌}
use mathlib.Core.List.{List}
use Prim.Native.Nat.{ℕ, ◌+◌, ◌*◌, ◌-◌, ◌/◌, ◌%◌, ◌≤◌, ◌<◌}
use native.Mathlib.Nat.{zero-add}
use native.Mathlib.Decide.{ℕ_discrete}
use native.Mathlib.Omega.{arith}
use lib.Bits.{bit_or, bit_and}
use lib.Dec.{T, ltb, ltb→lt, lt→ltb, T_not}
use lib.ListN.{length, get_or, replicate, get_or-replicate}
use Rattle.files.specs.Basics.Tests.{and_l, and_r, and_i, same_test, T_eq}
use Rattle.files.specs.Cells.{has_bit, put_bit}
use Rattle.files.specs.Cells.Laws.{zero_byte, zero_bit, bit_same, bit_other}
use Rattle.files.specs.Places.{line_bytes, max_nodes}
use Rattle.judging.specs.Chains.{Outside}
use Rattle.judging.specs.Refinement.{Chosen}
use Rattle.judging.specs.Refinement.Rows.{Bytes, lit, lit_or, lit_and, lit_not, lit_zero, some_lit, joined, joined_e, joined_i, row_lit, byte_lit, row_bits}

-- a bit of a row that stands by itself
pub own_lit : (l : List ℕ) (h : ℕ) → has_bit l 0 h ≡ lit (get_or l (h / 8) 0) (h % 8)
own_lit l h = row_lit l 0 h ∙ ap (λ (n : ℕ). lit (get_or l n 0) (h % 8)) (zero-add (h / 8))

pub own_byte : (l : List ℕ) (k j : ℕ) → j < 8 → has_bit l 0 (8 * k + j) ≡ lit (get_or l k 0) j
own_byte l k j h = byte_lit l 0 k j h ∙ ap (λ (n : ℕ). lit (get_or l n 0) j) (zero-add k)

-- ---- rows, written

module _ (f : ℕ → ℕ) (l₀ l : List ℕ) (at k : ℕ) (all : 32 ≤ k) (b : Bytes f l₀ at k l) where
  written : (h : ℕ) → h < max_nodes → has_bit l at h ≡ lit (f (h / 8)) (h % 8)
  written = row_bits f l at (λ j m. b.0 j (omega arith))

pub joint_bits : (row w : List ℕ) (at : ℕ) (r₀ r : List ℕ) (k : ℕ) → 32 ≤ k → Bytes (λ j. bit_or (get_or row j 0) (get_or w (at + j) 0)) r₀ 0 k r
    → (h : ℕ) → h < max_nodes → has_bit r 0 h ≡ (has_bit row 0 h || has_bit w at h)
joint_bits row w at r₀ r k all b h m =
    written (λ j. bit_or (get_or row j 0) (get_or w (at + j) 0)) r₀ r 0 k all b h m ∙ lit_or (get_or row (h / 8) 0) (get_or w (at + h / 8) 0) (h % 8) ∙ ap₂ ◌||◌ (sym (own_lit row h)) (sym (row_lit w at h))

pub copied_bits : (w : List ℕ) (at : ℕ) (r₀ r : List ℕ) (k : ℕ) → 32 ≤ k → Bytes (λ j. get_or w (at + j) 0) r₀ 0 k r → (h : ℕ) → h < max_nodes → has_bit r 0 h ≡ has_bit w at h
copied_bits w at r₀ r k all b h m = written (λ j. get_or w (at + j) 0) r₀ r 0 k all b h m ∙ sym (row_lit w at h)

-- the bytes beside a row that is written whole
pub written_beside : (f : ℕ → ℕ) (l₀ l : List ℕ) (at k : ℕ) → k ≤ 32 → 32 ≤ k → Bytes f l₀ at k l → Outside at (at + line_bytes) l₀ l
written_beside f l₀ l at k a c b = let e : k ≡ 32 = omega arith in subst (λ (n : ℕ). Outside at (at + n) l₀ l) e b.1

pub stored_bits : (row w₀ w : List ℕ) (at k : ℕ) → 32 ≤ k → Bytes (λ j. get_or row j 0) w₀ at k w → (h : ℕ) → h < max_nodes → has_bit w at h ≡ has_bit row 0 h
stored_bits row w₀ w at k all b h m = written (λ j. get_or row j 0) w₀ w at k all b h m ∙ sym (own_lit row h)

pub rest_bits : (row w : List ℕ) (at : ℕ) (r₀ r : List ℕ) (k : ℕ) → 32 ≤ k → Bytes (λ j. bit_and (get_or w (at + j) 0) (255 - get_or row j 0)) r₀ 0 k r → ((j : ℕ) → j < k → get_or row j 0 < max_nodes)
    → (h : ℕ) → h < max_nodes → has_bit r 0 h ≡ (has_bit w at h && not (has_bit row 0 h))
rest_bits row w at r₀ r k all b low h m =
    written (λ j. bit_and (get_or w (at + j) 0) (255 - get_or row j 0)) r₀ r 0 k all b h m
    ∙ lit_and (get_or w (at + h / 8) 0) (255 - get_or row (h / 8) 0) (h % 8)
    ∙ ap₂ ◌&&◌ (sym (row_lit w at h)) (lit_not (get_or row (h / 8) 0) (h % 8) (low (h / 8) (omega arith)) (omega arith) ∙ ap not (sym (own_lit row h)))

pub common_bits : (row other r₀ r : List ℕ) (k : ℕ) → 32 ≤ k → Bytes (λ j. bit_and (get_or row j 0) (get_or other j 0)) r₀ 0 k r → (h : ℕ) → h < max_nodes → has_bit r 0 h ≡ (has_bit row 0 h && has_bit other 0 h)
common_bits row other r₀ r k all b h m =
    written (λ j. bit_and (get_or row j 0) (get_or other j 0)) r₀ r 0 k all b h m ∙ lit_and (get_or row (h / 8) 0) (get_or other (h / 8) 0) (h % 8) ∙ ap₂ ◌&&◌ (sym (own_lit row h)) (sym (own_lit other h))

-- ---- the row of all nodes

pub full_bits : (x : ℕ) → x < max_nodes → T (has_bit (replicate line_bytes 255) 0 x)
full_bits x b =
    subst T
    (sym (own_lit (replicate line_bytes 255) x ∙ ap (λ (n : ℕ). lit n (x % 8)) (get_or-replicate line_bytes (x / 8) 255 0 (omega arith)) ∙ lit_not 0 (x % 8) (omega arith) (omega arith) ∙ ap not (lit_zero (x % 8))))
    tt

-- ---- a row of chosen nodes, one by one

pub chosen_none : (p : ℕ → Bool) → Chosen p 0 (replicate line_bytes 0)
chosen_none p x b =
    zero_bit (replicate line_bytes 0) 0 x (zero_byte (replicate line_bytes 0) refl (0 + x / 8))
    ∙ same_test false (p x && ltb x 0) (λ t. absurd t) (λ t. absurd (omega (arith, ltb→lt x 0 (and_r (p x) (ltb x 0) t))))

module _ (p : ℕ → Bool) (r : List ℕ) (n : ℕ) (was : Chosen p n r) where
  -- a node other than n is chosen below n + 1 where it is below n
  chosen_beside : (x : ℕ) → (n ≡ x → ⊥) → (p x && ltb x n) ≡ (p x && ltb x (n + 1))
  chosen_beside x f = ap (λ (b : Bool). p x && b) (same_test (ltb x n) (ltb x (n + 1)) (λ t. lt→ltb x (n + 1) (let z = ltb→lt x n t in omega arith)) (λ t. lt→ltb x n (let z = ltb→lt x (n + 1) t in omega (arith, z, f))))

  pub chosen_put : (r' : List ℕ) → 32 ≤ length r → n < max_nodes → r' ≡ put_bit r 0 n → p n ≡ true → Chosen p (n + 1) r'
  chosen_put r' room few put is x b = ap (λ (z : List ℕ). has_bit z 0 x) put ∙ go (ℕ_discrete n x)
    where
      go : Dec (n ≡ x) → has_bit (put_bit r 0 n) 0 x ≡ (p x && ltb x (n + 1))
      go (yes e) = subst (λ (k : ℕ). has_bit (put_bit r 0 n) 0 k ≡ (p k && ltb k (n + 1))) e (bit_same r 0 n (omega arith) ∙ sym (ap₂ ◌&&◌ is (T_eq (ltb n (n + 1)) (lt→ltb n (n + 1) (omega arith)))))
      go (no f) = bit_other r 0 n x f ∙ was x b ∙ chosen_beside x f

  pub chosen_over : p n ≡ false → Chosen p (n + 1) r
  chosen_over not_is x b = was x b ∙ go (ℕ_discrete n x)
    where
      go : Dec (n ≡ x) → (p x && ltb x n) ≡ (p x && ltb x (n + 1))
      go (yes e) = subst (λ (k : ℕ). (p k && ltb k n) ≡ (p k && ltb k (n + 1))) e (ap (λ (c : Bool). c && ltb n n) not_is ∙ sym (ap (λ (c : Bool). c && ltb n (n + 1)) not_is))
      go (no f) = chosen_beside x f

-- ---- bytes put together

-- the bytes f 0 .. f 31, put together and tested
module _ (f : ℕ → ℕ) (any k x : ℕ) (is : any ≡ joined f k) (few : k ≤ 32) (all : 32 ≤ k) (same : x ≡ any) (low : x < max_nodes) where
  -- some byte has a digit
  some_byte : T (ltb 0 x) → (n j : ℕ) × (n < 32) × (j < 8) × T (lit (f n) j)
  some_byte t =
      let l = ltb→lt 0 x t in
      let d = some_lit x low (λ e. omega arith) in
      let r = joined_e f k d.0 (subst (λ (y : ℕ). T (lit y d.0)) (same ∙ is) d.2) in
      (r.0, d.0, omega (arith, r.1), d.1, r.2)

  -- no byte has a digit
  no_byte : T (not (ltb 0 x)) → (n j : ℕ) → n < 32 → T (lit (f n) j) → ⊥
  no_byte t n j h d =
      let z : x ≡ 0 = zero (ltb 0 x) refl t in
      subst T (lit_zero j) (subst (λ (y : ℕ). T (lit y j)) (sym (same ∙ is) ∙ z) (joined_i f k n j (omega arith) d))
    where
      zero : (b : Bool) → ltb 0 x ≡ b → T (not b) → x ≡ 0
      zero true e s = absurd s
      zero false e s = let n : (0 < x → ⊥) = λ l. subst T e (lt→ltb 0 x l) in least x n
        where
          least : (y : ℕ) → (0 < y → ⊥) → y ≡ 0
          least y n = omega arith

-- two rows have a bit in common
pub meets_by : (row w : List ℕ) (at any k x : ℕ) → any ≡ joined (λ j. bit_and (get_or row j 0) (get_or w (at + j) 0)) k → k ≤ 32 → 32 ≤ k → x ≡ any → x < max_nodes
    → (T (ltb 0 x) → (h : ℕ) × (h < max_nodes) × T (has_bit row 0 h) × T (has_bit w at h)) × (T (not (ltb 0 x)) → (h : ℕ) → h < max_nodes → T (has_bit row 0 h) → T (has_bit w at h) → ⊥)
meets_by row w at any k x is few all same low = (yes_met, no_met)
  where
    f : ℕ → ℕ
    f j = bit_and (get_or row j 0) (get_or w (at + j) 0)

    yes_met : T (ltb 0 x) → (h : ℕ) × (h < max_nodes) × T (has_bit row 0 h) × T (has_bit w at h)
    yes_met t =
        let r = some_byte f any k x is few all same low t in
        let s : T (lit (get_or row r.0 0) r.1 && lit (get_or w (at + r.0) 0) r.1) = subst T (lit_and (get_or row r.0 0) (get_or w (at + r.0) 0) r.1) r.4 in (
          8 * r.0 + r.1,
          omega (arith, r.2, r.3),
          subst T (sym (own_byte row r.0 r.1 r.3)) (and_l (lit (get_or row r.0 0) r.1) (lit (get_or w (at + r.0) 0) r.1) s),
          subst T (sym (byte_lit w at r.0 r.1 r.3)) (and_r (lit (get_or row r.0 0) r.1) (lit (get_or w (at + r.0) 0) r.1) s),
        )

    no_met : T (not (ltb 0 x)) → (h : ℕ) → h < max_nodes → T (has_bit row 0 h) → T (has_bit w at h) → ⊥
    no_met t h m a b =
        no_byte f any k x is few all same low t (h / 8) (h % 8) (omega arith)
        (subst T (sym (lit_and (get_or row (h / 8) 0) (get_or w (at + h / 8) 0) (h % 8)))
        (and_i (lit (get_or row (h / 8) 0) (h % 8)) (lit (get_or w (at + h / 8) 0) (h % 8)) (subst T (own_lit row h) a) (subst T (row_lit w at h) b)))

-- a row has a bit
pub any_by : (w : List ℕ) (at any k x : ℕ) → any ≡ joined (λ j. get_or w (at + j) 0) k → k ≤ 32 → 32 ≤ k → x ≡ any → x < max_nodes
    → (T (ltb 0 x) → (h : ℕ) × (h < max_nodes) × T (has_bit w at h)) × (T (not (ltb 0 x)) → (h : ℕ) → h < max_nodes → has_bit w at h ≡ false)
any_by w at any k x is few all same low = (some, none)
  where
    f : ℕ → ℕ
    f j = get_or w (at + j) 0

    some : T (ltb 0 x) → (h : ℕ) × (h < max_nodes) × T (has_bit w at h)
    some t = let r = some_byte f any k x is few all same low t in (8 * r.0 + r.1, omega (arith, r.2, r.3), subst T (sym (byte_lit w at r.0 r.1 r.3)) r.4)

    none : T (not (ltb 0 x)) → (h : ℕ) → h < max_nodes → has_bit w at h ≡ false
    none t h m = row_lit w at h ∙ same_test (lit (f (h / 8)) (h % 8)) false (λ u. absurd (no_byte f any k x is few all same low t (h / 8) (h % 8) (omega arith) u)) (λ u. absurd u)

-- a row has a bit that another has not
pub exceeds_by : (w : List ℕ) (at less any k x : ℕ) → any ≡ joined (λ j. bit_and (get_or w (at + j) 0) (255 - get_or w (less + j) 0)) k → ((j : ℕ) → j < k → get_or w (less + j) 0 < max_nodes) → k ≤ 32 → 32 ≤ k → x ≡ any → x < max_nodes
    → (T (ltb 0 x) → (h : ℕ) × (h < max_nodes) × T (has_bit w at h) × (T (has_bit w less h) → ⊥)) × (T (not (ltb 0 x)) → (h : ℕ) → h < max_nodes → T (has_bit w at h) → T (has_bit w less h))
exceeds_by w at less any k x is bytes few all same low = (yes_over, no_over)
  where
    f : ℕ → ℕ
    f j = bit_and (get_or w (at + j) 0) (255 - get_or w (less + j) 0)

    parts : (n j : ℕ) → n < 32 → j < 8 → lit (f n) j ≡ (lit (get_or w (at + n) 0) j && not (lit (get_or w (less + n) 0) j))
    parts n j h l = lit_and (get_or w (at + n) 0) (255 - get_or w (less + n) 0) j ∙ ap (λ (b : Bool). lit (get_or w (at + n) 0) j && b) (lit_not (get_or w (less + n) 0) j (bytes n (omega arith)) l)

    yes_over : T (ltb 0 x) → (h : ℕ) × (h < max_nodes) × T (has_bit w at h) × (T (has_bit w less h) → ⊥)
    yes_over t =
        let r = some_byte f any k x is few all same low t in
        let s : T (lit (get_or w (at + r.0) 0) r.1 && not (lit (get_or w (less + r.0) 0) r.1)) = subst T (parts r.0 r.1 r.2 r.3) r.4 in (
          8 * r.0 + r.1,
          omega (arith, r.2, r.3),
          subst T (sym (byte_lit w at r.0 r.1 r.3)) (and_l (lit (get_or w (at + r.0) 0) r.1) (not (lit (get_or w (less + r.0) 0) r.1)) s),
          λ u. T_not (lit (get_or w (less + r.0) 0) r.1) (and_r (lit (get_or w (at + r.0) 0) r.1) (not (lit (get_or w (less + r.0) 0) r.1)) s) (subst T (byte_lit w less r.0 r.1 r.3) u),
        )

    no_over : T (not (ltb 0 x)) → (h : ℕ) → h < max_nodes → T (has_bit w at h) → T (has_bit w less h)
    no_over t h m a = go (lit (get_or w (less + h / 8) 0) (h % 8)) refl
      where
        go : (b : Bool) → lit (get_or w (less + h / 8) 0) (h % 8) ≡ b → T (has_bit w less h)
        go true e = subst T (sym (row_lit w less h ∙ e)) tt
        go false e =
            absurd (no_byte f any k x is few all same low t (h / 8) (h % 8) (omega arith)
            (subst T (sym (parts (h / 8) (h % 8) (omega arith) (omega arith)))
            (and_i (lit (get_or w (at + h / 8) 0) (h % 8)) (not (lit (get_or w (less + h / 8) 0) (h % 8))) (subst T (row_lit w at h) a) (subst (λ (b : Bool). T (not b)) (sym e) tt))))
