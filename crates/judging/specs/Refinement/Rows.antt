-- Laws of rows of bits: bytes stored one after the other, the bits of a byte made of two others, bytes put together by "or", and a row by its bytes.
use Rattle.std.specs.Prelude.{◌≡◌, refl, ◌⊎◌, Bool, true, false, not, ◌&&◌, ◌||◌, List, ℕ, zero, suc, ◌+◌, ◌*◌, ◌-◌, ◌/◌, ◌%◌, ◌^◌, ◌≤◌, ◌<◌, T, eqb, length, get_or, set}
use Rattle.std.proofs.Common.{sym, ap, ap₂, subst, ◌∙◌, inl, inr, eq-or-lt_of_le, le_of_suc-le-suc, not-suc-le-zero, arith, eqb→eq, get_or-set_same, get_or-set_other}
use Rattle.std.proofs.Math.Nat.{zero-div}
use Rattle.std.proofs.Math.Decide.{ℕ_discrete}
use Rattle.std.specs.Int.Bits.{bit_or, bit_and}
use Rattle.files.specs.Basics.Tests.{all, all_e, any, any_e, upto, upto_i, upto_e, same, same→eq, or_e, or_l, or_r}
use Rattle.files.specs.Cells.{has_bit}
use Rattle.files.specs.Cells.Laws.{digit, digit_or, digit_and, has_bit_is}
use Rattle.files.specs.Places.{max_nodes}
use Rattle.judging.specs.Chains.{Outside}

-- ---- bytes, one after the other

-- the k bytes from `at` on are f 0, f 1, .., and the rest of l is that of l₀
abbrev pub Bytes : (ℕ → ℕ) → List ℕ → ℕ → ℕ → List ℕ → Type 0
Bytes f l₀ at k l = ((j : ℕ) → j < k → get_or l (at + j) 0 ≡ f j) × Outside at (at + k) l₀ l

pub bytes_none : (f : ℕ → ℕ) (l : List ℕ) (at : ℕ) → Bytes f l at 0 l
bytes_none f l at = (λ j h. absurd (not-suc-le-zero h), λ q d. refl)

-- one byte more
pub bytes_on : (f : ℕ → ℕ) (l₀ l l' : List ℕ) (at k x : ℕ) → at + k < length l → x ≡ f k → l' ≡ set l (at + k) x → Bytes f l₀ at k l → Bytes f l₀ at (k + 1) l'
bytes_on f l₀ l l' at k x room is put b =
    (λ j h. ap (λ (m : List ℕ). get_or m (at + j) 0) put ∙ here j (ℕ_discrete j k) h, λ q d. ap (λ (m : List ℕ). get_or m q 0) put ∙ there q d)
  where
    here : (j : ℕ) → Dec (j ≡ k) → j < k + 1 → get_or (set l (at + k) x) (at + j) 0 ≡ f j
    here j (yes e) h = ap (λ (n : ℕ). get_or (set l (at + k) x) (at + n) 0) e ∙ get_or-set_same l (at + k) x 0 room ∙ is ∙ ap f (sym e)
    here j (no n) h = get_or-set_other l (at + k) (at + j) x 0 (λ e. n (omega arith)) ∙ b.0 j (omega arith)

    there : (q : ℕ) → (q < at) ⊎ (at + (k + 1) ≤ q) → get_or (set l (at + k) x) q 0 ≡ get_or l₀ q 0
    there q (inl h) = get_or-set_other l (at + k) q x 0 (λ e. omega arith) ∙ b.1 q (inl h)
    there q (inr h) = get_or-set_other l (at + k) q x 0 (λ e. omega arith) ∙ b.1 q (inr (omega arith))

-- ---- bits of bytes

-- x has digit j
abbrev pub lit : ℕ → ℕ → Bool
lit x j = eqb (digit x j) 1

-- a digit is 0 or 1
digit_cases : (x j : ℕ) → (digit x j ≡ 0) ⊎ (digit x j ≡ 1)
digit_cases x j = go (x / 2 ^ j % 2) (omega arith)
  where
    go : (d : ℕ) → d < 2 → (d ≡ 0) ⊎ (d ≡ 1)
    go zero h = inl refl
    go (suc zero) h = inr refl
    go (suc (suc d)) h = absurd (omega arith)

-- a test of two digits is what it is of 0 and 1
module _ (f : ℕ → ℕ → ℕ) (g : Bool → Bool → Bool) (both : eqb (f 1 1) 1 ≡ g true true) (left : eqb (f 1 0) 1 ≡ g true false) (right : eqb (f 0 1) 1 ≡ g false true) (none : eqb (f 0 0) 1 ≡ g false false) where
  by_digits : (x y j : ℕ) → eqb (f (digit x j) (digit y j)) 1 ≡ g (lit x j) (lit y j)
  by_digits x y j = go (digit_cases x j) (digit_cases y j)
    where
      at : (a b : ℕ) → digit x j ≡ a → digit y j ≡ b → eqb (f a b) 1 ≡ g (eqb a 1) (eqb b 1) → eqb (f (digit x j) (digit y j)) 1 ≡ g (lit x j) (lit y j)
      at a b p q e = ap₂ (λ (m n : ℕ). eqb (f m n) 1) p q ∙ e ∙ sym (ap₂ (λ (m n : ℕ). g (eqb m 1) (eqb n 1)) p q)

      go : (digit x j ≡ 0) ⊎ (digit x j ≡ 1) → (digit y j ≡ 0) ⊎ (digit y j ≡ 1) → eqb (f (digit x j) (digit y j)) 1 ≡ g (lit x j) (lit y j)
      go (inl a) (inl b) = at 0 0 a b none
      go (inl a) (inr b) = at 0 1 a b right
      go (inr a) (inl b) = at 1 0 a b left
      go (inr a) (inr b) = at 1 1 a b both

pub lit_or : (x y j : ℕ) → lit (bit_or x y) j ≡ (lit x j || lit y j)
lit_or x y j = ap (λ (n : ℕ). eqb n 1) (digit_or x y j) ∙ by_digits bit_or ◌||◌ refl refl refl refl x y j

pub lit_and : (x y j : ℕ) → lit (bit_and x y) j ≡ (lit x j && lit y j)
lit_and x y j = ap (λ (n : ℕ). eqb n 1) (digit_and x y j) ∙ by_digits bit_and ◌&&◌ refl refl refl refl x y j

-- the digits that a byte lacks, computed
pub lit_not : (y j : ℕ) → y < max_nodes → j < 8 → lit (255 - y) j ≡ not (lit y j)
lit_not y j h m = same→eq (lit (255 - y) j) (not (lit y j)) (all_e (right y) (upto 8) (all_e (λ (a : ℕ). all (right a) (upto 8)) (upto 256) tt y (upto_i 256 y h)) j (upto_i 8 j m))
  where
    right : ℕ → ℕ → Bool
    right a i = same (lit (255 - a) i) (not (lit a i))

pub lit_zero : (j : ℕ) → lit 0 j ≡ false
lit_zero j = ap (λ (n : ℕ). eqb (n % 2) 1) (zero-div (2 ^ j))

-- a byte that is not 0 has a digit, computed
pub some_lit : (x : ℕ) → x < max_nodes → (x ≡ 0 → ⊥) → (j : ℕ) × (j < 8) × T (lit x j)
some_lit x h n = go (or_e (eqb x 0) (any (lit x) (upto 8)) (all_e right (upto 256) tt x (upto_i 256 x h)))
  where
    right : ℕ → Bool
    right a = eqb a 0 || any (lit a) (upto 8)

    go : T (eqb x 0) ⊎ T (any (lit x) (upto 8)) → (j : ℕ) × (j < 8) × T (lit x j)
    go (inl t) = absurd (n (eqb→eq x 0 t))
    go (inr t) = let r = any_e (lit x) (upto 8) t in (r.0, upto_e 8 r.0 r.1, r.2)

-- ---- bytes put together

-- f 0 or f 1 or .. : n of them
abbrev pub joined : (ℕ → ℕ) → ℕ → ℕ
joined f zero = 0
joined f (suc n) = bit_or (joined f n) (f n)

-- a digit of theirs is one of theirs
pub joined_e : (f : ℕ → ℕ) (n j : ℕ) → T (lit (joined f n) j) → (k : ℕ) × (k < n) × T (lit (f k) j)
joined_e f zero j t = absurd (subst T (lit_zero j) t)
joined_e f (suc n) j t = go (joined_e f n j) (or_e (lit (joined f n) j) (lit (f n) j) (subst T (lit_or (joined f n) (f n) j) t))
  where
    go : (T (lit (joined f n) j) → (k : ℕ) × (k < n) × T (lit (f k) j)) → T (lit (joined f n) j) ⊎ T (lit (f n) j) → (k : ℕ) × (k < suc n) × T (lit (f k) j)
    go u (inl s) = let r = u s in (r.0, omega (arith, r.1), r.2)
    go u (inr s) = (n, omega arith, s)

pub joined_i : (f : ℕ → ℕ) (n k j : ℕ) → k < n → T (lit (f k) j) → T (lit (joined f n) j)
joined_i f zero k j h t = absurd (not-suc-le-zero h)
joined_i f (suc n) k j h t = subst T (sym (lit_or (joined f n) (f n) j)) (go (λ l. joined_i f n k j l t) (eq-or-lt_of_le (le_of_suc-le-suc h)))
  where
    go : (k < n → T (lit (joined f n) j)) → (k ≡ n) ⊎ (k < n) → T (lit (joined f n) j || lit (f n) j)
    go u (inl e) = or_r (lit (joined f n) j) (lit (f n) j) (subst (λ (m : ℕ). T (lit (f m) j)) e t)
    go u (inr l) = or_l (lit (joined f n) j) (lit (f n) j) (u l)

-- ---- a row by its bytes

pub row_lit : (l : List ℕ) (at h : ℕ) → has_bit l at h ≡ lit (get_or l (at + h / 8) 0) (h % 8)
row_lit l at h = has_bit_is l at h

-- bit 8 k + j is digit j of byte k
pub byte_lit : (l : List ℕ) (at k j : ℕ) → j < 8 → has_bit l at (8 * k + j) ≡ lit (get_or l (at + k) 0) j
byte_lit l at k j h =
    let a : (8 * k + j) / 8 ≡ k = omega arith in
    let b : (8 * k + j) % 8 ≡ j = omega arith in
    has_bit_is l at (8 * k + j) ∙ ap₂ (λ (m n : ℕ). lit (get_or l (at + m) 0) n) a b

-- a row whose 32 bytes are known
pub row_bits : (f : ℕ → ℕ) (l : List ℕ) (at : ℕ) → ((j : ℕ) → j < 32 → get_or l (at + j) 0 ≡ f j) → (h : ℕ) → h < max_nodes → has_bit l at h ≡ lit (f (h / 8)) (h % 8)
row_bits f l at b h m = has_bit_is l at h ∙ ap (λ (n : ℕ). lit n (h % 8)) (b (h / 8) (omega arith))
