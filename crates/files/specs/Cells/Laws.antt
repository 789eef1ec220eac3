-- Laws of stores, over every width: what is read back of the same cell, another cell, another region and a byte outside; the same of bits and runs. Then each definition as the code writes it.
use Rattle.std.specs.Prelude.{◌≡◌, refl, ◌⊎◌, Bool, true, false, List, ◌++◌, ℕ, zero, suc, ◌+◌, ◌*◌, ◌-◌, ◌/◌, ◌%◌, ◌^◌, ◌≤◌, ◌<◌, eqb, length, get_or, set, take, drop, replicate}
use Rattle.std.proofs.Common.{sym, ap, ap₂, ◌∙◌, inl, inr, append_assoc, eq-or-lt_of_le, mul-suc, mul-le-mul_left, pow-suc, mod-eq_of_lt, one-mul, zero-add, add-one, arith, eqb→eq, length-set, length-append, shl_exact, get_or-set_same, get_or-set_other, get_or-take, get_or-drop, get_or-append-add, length-take-le, take_at, drop-drop}
use Rattle.std.proofs.Math.Nat.{zero-div}
use Rattle.std.proofs.Math.Decide.{ℕ_discrete, dec_lt}
use Rattle.std.specs.Int.Bits.{bit_or, bit_and, or_zero_r, or_add_and}
use Rattle.std.proofs.lemmas.Nat.{or_shr, or_mod, and_shr, and_mod, and_mask}
use Rattle.std.proofs.Math.Dec.{eqb_refl, not_T}
use Rattle.std.proofs.lemmas.List.{get_or-replicate}
use Rattle.std.proofs.Math.ListN.{get_or-append, get_or-eq_default}
use Rattle.std.proofs.Math.Seq.{set_out, length-sets, paste, paste-suc, take-length, drop-append-add}
use Rattle.std.proofs.lemmas.List.Edits.{sets-eq}
use Rattle.files.specs.Basics.Tests.{one, one_true, one_false, all, all_e, upto, upto_i}
use Rattle.files.specs.Cells.{little, put_little, cell, put_cell, has_bit, put_bit, put_at}
use Rattle.files.specs.Places.{three_bytes_end, two_bytes_end, byte_end}

-- ---- numbers of n bytes

length_little : (l : List ℕ) (p n v : ℕ) → length (put_little l p n v) ≡ length l
unfolding put_little
length_little l p zero v = refl
length_little l p (suc n) v = length_little (set l p (v % byte_end)) (suc p) n (v / byte_end) ∙ length-set l p (v % byte_end)

outside_little : (l : List ℕ) (p n v q : ℕ) → (q < p) ⊎ (p + n ≤ q) → get_or (put_little l p n v) q 0 ≡ get_or l q 0
unfolding put_little
outside_little l p zero v q d = refl
outside_little l p (suc n) v q (inl h) =
    outside_little (set l p (v % byte_end)) (suc p) n (v / byte_end) q (inl (omega arith)) ∙ get_or-set_other l p q (v % byte_end) 0 (λ e. omega arith)
outside_little l p (suc n) v q (inr h) =
    outside_little (set l p (v % byte_end)) (suc p) n (v / byte_end) q (inr (omega arith)) ∙ get_or-set_other l p q (v % byte_end) 0 (λ e. omega arith)

agree_little : (l m : List ℕ) (p n : ℕ) → ((q : ℕ) → p ≤ q → q < p + n → get_or l q 0 ≡ get_or m q 0) → little l p n ≡ little m p n
unfolding little
agree_little l m p zero f = refl
agree_little l m p (suc n) f =
    ap₂ (λ (a b : ℕ). a + byte_end * b) (f p (omega arith) (omega arith)) (agree_little l m (suc p) n (λ q a b. f q (omega arith) (omega arith)))

same_little : (l : List ℕ) (p n v : ℕ) → p + n ≤ length l → v < byte_end ^ n → little (put_little l p n v) p n ≡ v
unfolding little put_little
same_little l p zero v h k = omega arith
same_little l p (suc n) v h k =
    let m : List ℕ = set l p (v % byte_end) in
    let low : get_or (put_little m (suc p) n (v / byte_end)) p 0 ≡ v % byte_end =
    outside_little m (suc p) n (v / byte_end) p (inl (omega arith)) ∙ get_or-set_same l p (v % byte_end) 0 (omega arith) in
    let high : little (put_little m (suc p) n (v / byte_end)) (suc p) n ≡ v / byte_end =
    same_little m (suc p) n (v / byte_end) (omega (arith, length-set l p (v % byte_end))) (omega (arith, pow-suc 256 n)) in
    ap₂ (λ (a b : ℕ). a + byte_end * b) low high ∙ omega arith

-- ---- cells

pub length_put_cell : (l : List ℕ) (base w i v : ℕ) → length (put_cell l base w i v) ≡ length l
unfolding put_cell
length_put_cell l base w i v = length_little l (base + w * i) w v

-- a byte outside the cell
pub byte_outside : (l : List ℕ) (base w i v q : ℕ) → (q < base + w * i) ⊎ (base + w * i + w ≤ q) → get_or (put_cell l base w i v) q 0 ≡ get_or l q 0
unfolding put_cell
byte_outside l base w i v q d = outside_little l (base + w * i) w v q d

-- two lists that agree on the bytes of a cell hold the same there
pub cell_agree : (l m : List ℕ) (base w i : ℕ) → ((q : ℕ) → base + w * i ≤ q → q < base + w * i + w → get_or l q 0 ≡ get_or m q 0) → cell l base w i ≡ cell m base w i
unfolding cell
cell_agree l m base w i f = agree_little l m (base + w * i) w f

-- the same cell
pub cell_same : (l : List ℕ) (base w i v : ℕ) → base + w * i + w ≤ length l → v < byte_end ^ w → cell (put_cell l base w i v) base w i ≡ v
unfolding cell put_cell
cell_same l base w i v h k = same_little l (base + w * i) w v h k

-- a cell that is apart, of this region or of another, of this width or of another
pub cell_apart : (l : List ℕ) (base w i v base' w' j : ℕ) → (base' + w' * j + w' ≤ base + w * i) ⊎ (base + w * i + w ≤ base' + w' * j)
    → cell (put_cell l base w i v) base' w' j ≡ cell l base' w' j
cell_apart l base w i v base' w' j (inl h) =
    cell_agree (put_cell l base w i v) l base' w' j (λ q a b. byte_outside l base w i v q (inl (omega arith)))
cell_apart l base w i v base' w' j (inr h) =
    cell_agree (put_cell l base w i v) l base' w' j (λ q a b. byte_outside l base w i v q (inr (omega arith)))

-- another cell of the region
pub cell_other : (l : List ℕ) (base w i j v : ℕ) → (i ≡ j → ⊥) → cell (put_cell l base w i v) base w j ≡ cell l base w j
cell_other l base w i j v f = cell_apart l base w i v base w j (go (dec_lt i j))
  where
    go : Dec (i < j) → (base + w * j + w ≤ base + w * i) ⊎ (base + w * i + w ≤ base + w * j)
    go (yes h) = inr (omega (arith, mul-suc w i, mul-le-mul_left w h))
    go (no h) = let k : suc j ≤ i = omega arith in inl (omega (arith, mul-suc w j, mul-le-mul_left w k))

-- one cell more of a region whose cells below i hold f
pub cells_on : (f : ℕ → ℕ) (l l' : List ℕ) (base w i v : ℕ) → l' ≡ put_cell l base w i v → base + w * i + w ≤ length l → v < byte_end ^ w → v ≡ f i
    → ((j : ℕ) → j < i → cell l base w j ≡ f j) → (j : ℕ) → j < i + 1 → cell l' base w j ≡ f j
cells_on f l l' base w i v put fits small e held j h = ap (λ (m : List ℕ). cell m base w j) put ∙ go (eq-or-lt_of_le (omega arith))
  where
    go : (j ≡ i) ⊎ (j < i) → cell (put_cell l base w i v) base w j ≡ f j
    go (inl q) = ap (cell (put_cell l base w i v) base w) q ∙ cell_same l base w i v fits small ∙ e ∙ ap f (sym q)
    go (inr k) = cell_other l base w i j v (λ q. omega arith) ∙ held j k

-- ---- bits

-- digit j of the number x
abbrev pub digit : ℕ → ℕ → ℕ
digit x j = x / 2 ^ j % 2

-- the digits of a mask, computed
weights : (k j : ℕ) → k < 8 → j < 8 → digit (2 ^ k) j ≡ one (eqb k j)
weights k j h m = eqb→eq (digit (2 ^ k) j) (one (eqb k j)) (all_e (right k) (upto 8) (all_e (λ (a : ℕ). all (right a) (upto 8)) (upto 8) tt k (upto_i 8 k h)) j (upto_i 8 j m))
  where
    right : ℕ → ℕ → Bool
    right k j = eqb (digit (2 ^ k) j) (one (eqb k j))

-- a store that changes a byte by g reads back as the byte, changed
at_same : (l : List ℕ) (base h : ℕ) (g : ℕ → ℕ) → base + h / 8 < length l
    → has_bit (set l (base + h / 8) (g (get_or l (base + h / 8) 0))) base h ≡ eqb (digit (g (get_or l (base + h / 8) 0)) (h % 8)) 1
unfolding has_bit
at_same l base h g r = ap (λ (x : ℕ). eqb (digit x (h % 8)) 1) (get_or-set_same l (base + h / 8) (g (get_or l (base + h / 8) 0)) 0 r)

-- where g keeps the other digits, the store keeps the other bits
at_other : (l : List ℕ) (base h k : ℕ) (g : ℕ → ℕ) → ((h % 8 ≡ k % 8 → ⊥) → (x : ℕ) → digit (g x) (k % 8) ≡ digit x (k % 8)) → (h ≡ k → ⊥)
    → has_bit (set l (base + h / 8) (g (get_or l (base + h / 8) 0))) base k ≡ has_bit l base k
unfolding has_bit
at_other l base h k g keeps f = ap (λ (x : ℕ). eqb x 1) (go (ℕ_discrete (h / 8) (k / 8)) (dec_lt (base + h / 8) (length l)))
  where
    a : ℕ
    a = base + h / 8

    x : ℕ
    x = get_or l a 0

    go : Dec (h / 8 ≡ k / 8) → Dec (a < length l) → digit (get_or (set l a (g x)) (base + k / 8) 0) (k % 8) ≡ digit (get_or l (base + k / 8) 0) (k % 8)
    go (no e) d = ap (λ (y : ℕ). digit y (k % 8)) (get_or-set_other l a (base + k / 8) (g x) 0 (λ c. omega arith))
    go (yes e) (no d) = ap (λ (m : List ℕ). digit (get_or m (base + k / 8) 0) (k % 8)) (set_out l a (g x) (omega arith))
    go (yes e) (yes d) =
        ap (λ (q : ℕ). digit (get_or (set l a (g x)) (base + q) 0) (k % 8)) (sym e)
        ∙ ap (λ (y : ℕ). digit y (k % 8)) (get_or-set_same l a (g x) 0 d)
        ∙ keeps (λ c. f (omega arith)) x
        ∙ ap (λ (q : ℕ). digit (get_or l (base + q) 0) (k % 8)) e

pub digit_or : (x y j : ℕ) → digit (bit_or x y) j ≡ bit_or (digit x j) (digit y j)
digit_or x y j = ap (λ (n : ℕ). n % 2) (or_shr x y j) ∙ or_mod (x / 2 ^ j) (y / 2 ^ j) 1

pub digit_and : (x y j : ℕ) → digit (bit_and x y) j ≡ bit_and (digit x j) (digit y j)
digit_and x y j = ap (λ (n : ℕ). n % 2) (and_shr x y j) ∙ and_mod (x / 2 ^ j) (y / 2 ^ j) 1

or_one : (a : ℕ) → a < 2 → bit_or a 1 ≡ 1
or_one a h = omega (arith, or_add_and a 1, and_mask a 1)

-- digit k itself, and digit j beside it
module _ (x k : ℕ) (h : k < 8) where
  or_here : digit (bit_or x (2 ^ k)) k ≡ 1
  or_here = digit_or x (2 ^ k) k ∙ ap (bit_or (digit x k)) (weights k k h h ∙ one_true (eqb k k) (eqb_refl k)) ∙ or_one (digit x k) (omega arith)

  module _ (j : ℕ) (m : j < 8) (f : k ≡ j → ⊥) where
    apart : one (eqb k j) ≡ 0
    apart = one_false (eqb k j) (not_T (eqb k j) (λ t. f (eqb→eq k j t)))

    or_beside : digit (bit_or x (2 ^ k)) j ≡ digit x j
    or_beside = digit_or x (2 ^ k) j ∙ ap (bit_or (digit x j)) (weights k j h m ∙ apart) ∙ or_zero_r (digit x j)

pub length_put_bit : (l : List ℕ) (base h : ℕ) → length (put_bit l base h) ≡ length l
unfolding put_bit
length_put_bit l base h = simp length-set

pub bit_same : (l : List ℕ) (base h : ℕ) → base + h / 8 < length l → has_bit (put_bit l base h) base h ≡ true
unfolding put_bit
bit_same l base h r =
    at_same l base h (λ x. bit_or x (2 ^ (h % 8))) r ∙ ap (λ (x : ℕ). eqb x 1) (or_here (get_or l (base + h / 8) 0) (h % 8) (omega arith))

pub bit_other : (l : List ℕ) (base h k : ℕ) → (h ≡ k → ⊥) → has_bit (put_bit l base h) base k ≡ has_bit l base k
unfolding put_bit
bit_other l base h k f = at_other l base h k (λ x. bit_or x (2 ^ (h % 8))) (λ d x. or_beside x (h % 8) (omega arith) (k % 8) (omega arith) d) f

-- a byte other than that of the bit
pub bit_outside : (l : List ℕ) (base h q : ℕ) → (q ≡ base + h / 8 → ⊥) → get_or (put_bit l base h) q 0 ≡ get_or l q 0
unfolding put_bit
bit_outside l base h q f = get_or-set_other l (base + h / 8) q (bit_or (get_or l (base + h / 8) 0) (2 ^ (h % 8))) 0 f

-- ---- runs

pub length_put_at : (l : List ℕ) (p : ℕ) (xs : List ℕ) → p + length xs ≤ length l → length (put_at l p xs) ≡ length l
unfolding put_at
length_put_at l p xs h = ap length (sym (sets-eq xs l p h)) ∙ length-sets l p xs

pub at_inside : (l : List ℕ) (p : ℕ) (xs : List ℕ) (j : ℕ) → j < length xs → p + length xs ≤ length l → get_or (put_at l p xs) (p + j) 0 ≡ get_or xs j 0
unfolding put_at
at_inside l p xs j h k =
    let rest : List ℕ = drop (p + length xs) l in
    ap₂ (λ (m : List ℕ) (n : ℕ). get_or m (n + j) 0) (append_assoc (take p l) xs rest) (sym (length-take-le p l (omega arith)))
    ∙ get_or-append-add (take p l) (xs ++ rest) j 0
    ∙ get_or-append xs rest 0 j h

pub at_outside : (l : List ℕ) (p : ℕ) (xs : List ℕ) (q : ℕ) → (q < p) ⊎ (p + length xs ≤ q) → p + length xs ≤ length l → get_or (put_at l p xs) q 0 ≡ get_or l q 0
unfolding put_at
at_outside l p xs q (inl h) k =
    ap (λ (m : List ℕ). get_or m q 0) (append_assoc (take p l) xs (drop (p + length xs) l))
    ∙ get_or-append (take p l) (xs ++ drop (p + length xs) l) 0 q (omega (arith, length-take-le p l (omega arith)))
    ∙ get_or-take p l q 0 h
at_outside l p xs q (inr h) k =
    let rest : List ℕ = drop (p + length xs) l in
    let r : ℕ = q - (p + length xs) in
    let e : q ≡ length (take p l) + (length xs + r) = omega (arith, length-take-le p l (omega arith)) in
    ap₂ (λ (m : List ℕ) (n : ℕ). get_or m n 0) (append_assoc (take p l) xs rest) e
    ∙ get_or-append-add (take p l) (xs ++ rest) (length xs + r) 0
    ∙ get_or-append-add xs rest r 0
    ∙ get_or-drop (p + length xs) l r 0
    ∙ ap (λ (n : ℕ). get_or l n 0) (omega arith)

-- ---- the definitions as the code writes them

-- a cell is the number of its bytes, from where it stands on
pub cell_little : (l : List ℕ) (base w i : ℕ) → cell l base w i ≡ little l (base + w * i) w
unfolding cell
cell_little l base w i = refl

pub put_cell_little : (l : List ℕ) (base w i v : ℕ) → put_cell l base w i v ≡ put_little l (base + w * i) w v
unfolding put_cell
put_cell_little l base w i v = refl

pub little_one : (l : List ℕ) (p : ℕ) → little l p 1 ≡ get_or l p 0
unfolding little
little_one l p = omega arith

pub little_two : (l : List ℕ) (p : ℕ) → little l p 2 ≡ get_or l p 0 + byte_end * get_or l (p + 1) 0
unfolding little
little_two l p = omega (arith, ap (λ (n : ℕ). get_or l n 0) (add-one p))

pub little_four : (l : List ℕ) (p : ℕ)
    → little l p 4 ≡ get_or l p 0 + byte_end * get_or l (p + 1) 0 + two_bytes_end * get_or l (p + 2) 0 + three_bytes_end * get_or l (p + 3) 0
unfolding little
little_four l p =
    let two : p + 2 ≡ suc (suc p) = omega arith in
    let three : p + 3 ≡ suc (suc (suc p)) = omega arith in
    let at : ℕ → ℕ = λ n. get_or l n 0 in
    omega (arith, ap at (add-one p), ap at two, ap at three)

pub put_little_one : (l : List ℕ) (p v : ℕ) → v < 256 → put_little l p 1 v ≡ set l p v
unfolding put_little
put_little_one l p v h = ap (set l p) (mod-eq_of_lt h)

pub put_little_two : (l : List ℕ) (p v : ℕ) → put_little l p 2 v ≡ set (set l p (v % byte_end)) (p + 1) (v / byte_end % byte_end)
unfolding put_little
put_little_two l p v = rw add-one

pub put_little_four : (l : List ℕ) (p v : ℕ)
    → put_little l p 4 v ≡ set (set (set (set l p (v % byte_end)) (p + 1) (v / byte_end % byte_end)) (p + 2) (v / two_bytes_end % byte_end)) (p + 3) (v / three_bytes_end % byte_end)
unfolding put_little
put_little_four l p v =
    let two : p + 2 ≡ suc (suc p) = omega arith in
    let three : p + 3 ≡ suc (suc (suc p)) = omega arith in
    let a : v / two_bytes_end ≡ v / byte_end / byte_end = omega arith in
    let b : v / three_bytes_end ≡ v / byte_end / byte_end / byte_end = omega arith in
    rw (add-one, two, three, a, b)

pub cell_one : (l : List ℕ) (base i : ℕ) → cell l base 1 i ≡ get_or l (base + i) 0
unfolding cell
cell_one l base i = little_one l (base + 1 * i) ∙ ap (λ (n : ℕ). get_or l (base + n) 0) (one-mul i)

pub cell_two : (l : List ℕ) (base i : ℕ) → cell l base 2 i ≡ get_or l (base + 2 * i) 0 + byte_end * get_or l (base + 2 * i + 1) 0
unfolding cell
cell_two l base i = little_two l (base + 2 * i)

pub cell_four : (l : List ℕ) (base i : ℕ)
    → cell l base 4 i
    ≡ get_or l (base + 4 * i) 0 + byte_end * get_or l (base + 4 * i + 1) 0 + two_bytes_end * get_or l (base + 4 * i + 2) 0 + three_bytes_end * get_or l (base + 4 * i + 3) 0
unfolding cell
cell_four l base i = little_four l (base + 4 * i)

pub put_cell_one : (l : List ℕ) (base i v : ℕ) → v < 256 → put_cell l base 1 i v ≡ set l (base + i) v
unfolding put_cell
put_cell_one l base i v h = put_little_one l (base + 1 * i) v h ∙ ap (λ (n : ℕ). set l (base + n) v) (one-mul i)

pub put_cell_two : (l : List ℕ) (base i v : ℕ) → put_cell l base 2 i v ≡ set (set l (base + 2 * i) (v % byte_end)) (base + 2 * i + 1) (v / byte_end % byte_end)
unfolding put_cell
put_cell_two l base i v = put_little_two l (base + 2 * i) v

pub put_cell_four : (l : List ℕ) (base i v : ℕ)
    → put_cell l base 4 i v
    ≡ set (set (set (set l (base + 4 * i) (v % byte_end)) (base + 4 * i + 1) (v / byte_end % byte_end)) (base + 4 * i + 2) (v / two_bytes_end % byte_end)) (base + 4 * i + 3) (v / three_bytes_end % byte_end)
unfolding put_cell
put_cell_four l base i v = put_little_four l (base + 4 * i) v

pub has_bit_is : (l : List ℕ) (base h : ℕ) → has_bit l base h ≡ eqb (get_or l (base + h / 8) 0 / 2 ^ (h % 8) % 2) 1
unfolding has_bit
has_bit_is l base h = refl

-- every byte of a list of zeros is zero, and so is what is read past its end
pub zero_byte : (w : List ℕ) → w ≡ replicate (length w) 0 → (q : ℕ) → get_or w q 0 ≡ 0
zero_byte w e q = go (dec_lt q (length w))
  where
    go : Dec (q < length w) → get_or w q 0 ≡ 0
    go (yes h) = ap (λ (l : List ℕ). get_or l q 0) e ∙ get_or-replicate {A = ℕ} (length w) q 0 0 h
    go (no h) = get_or-eq_default w 0 (omega arith)

-- a bit of a byte that is zero
pub zero_bit : (w : List ℕ) (base h : ℕ) → get_or w (base + h / 8) 0 ≡ 0 → has_bit w base h ≡ false
zero_bit w base h e = has_bit_is w base h ∙ ap (λ (x : ℕ). eqb (x / 2 ^ (h % 8) % 2) 1) e ∙ ap (λ (x : ℕ). eqb (x % 2) 1) (zero-div (2 ^ (h % 8)))

-- the mask of bit k, as the code shifts it
pub weight : (k : ℕ) → k < 8 → 1 * 2 ^ k % byte_end ≡ 2 ^ k
weight k h = shl_exact {a = 1} 1 k 8 (omega arith) (omega arith) ∙ one-mul (2 ^ k)

-- a bit is its byte's
pub bit_byte : (v w : List ℕ) (a b h : ℕ) → get_or v (a + h / 8) 0 ≡ get_or w (b + h / 8) 0 → has_bit v a h ≡ has_bit w b h
bit_byte v w a b h e = has_bit_is v a h ∙ ap (λ (x : ℕ). eqb (x / 2 ^ (h % 8) % 2) 1) e ∙ sym (has_bit_is w b h)

pub put_bit_is : (l : List ℕ) (base h : ℕ) → put_bit l base h ≡ set l (base + h / 8) (bit_or (get_or l (base + h / 8) 0) (2 ^ (h % 8)))
unfolding put_bit
put_bit_is l base h = refl

pub put_at_is : (l : List ℕ) (p : ℕ) (xs : List ℕ) → put_at l p xs ≡ take p l ++ xs ++ drop (p + length xs) l
unfolding put_at
put_at_is l p xs = refl

-- a run stored at the start
pub put_front : (l xs : List ℕ) → put_at l 0 xs ≡ xs ++ drop (length xs) l
put_front l xs = put_at_is l 0 xs ∙ ap (λ (k : ℕ). xs ++ drop k l) (zero-add (length xs))

-- a run stored after a run is one run
pub put_after : (l : List ℕ) (p : ℕ) (xs ys : List ℕ) → p ≤ length l → put_at (put_at l p xs) (p + length xs) ys ≡ put_at l p (xs ++ ys)
put_after l p xs ys h =
    let rest : List ℕ = drop (p + length xs) l in
    let m : List ℕ = take p l ++ xs ++ rest in
    let q : length (take p l ++ xs) ≡ p + length xs = omega (arith, length-append (take p l) xs, length-take-le p l h) in
    let sum : p + length (xs ++ ys) ≡ p + length xs + length ys = omega (arith, length-append xs ys) in
    ap (λ (a : List ℕ). put_at a (p + length xs) ys) (put_at_is l p xs)
    ∙ put_at_is m (p + length xs) ys
    ∙ ap₂ (λ (a b : List ℕ). a ++ ys ++ b) (take_at (take p l ++ xs) rest (p + length xs) q)
    (ap (λ (n : ℕ). drop (n + length ys) m) (sym q) ∙ drop-append-add (take p l ++ xs) rest (length ys) ∙ drop-drop (length ys) (p + length xs) l)
    ∙ sym (put_at_is l p (xs ++ ys) ∙ ap₂ (λ (a : List ℕ) (k : ℕ). a ++ drop k l) (sym (append_assoc (take p l) xs ys)) sum)

-- one more byte of a copy
pub copy_on : (out₀ src out : List ℕ) (at i x : ℕ) → at + i < length out₀ → i < length src → get_or src i 0 ≡ x → out ≡ paste out₀ at src i
    → set out (at + i) x ≡ paste out₀ at src (i + 1)
copy_on out₀ src out at i x h k e f = rw (f, ← e, add-one) (paste-suc out₀ at src i 0 h k)

-- a copy of the whole
pub copy_all : (out₀ src out : List ℕ) (at i : ℕ) → i ≡ length src → out ≡ paste out₀ at src i → out ≡ put_at out₀ at src
copy_all out₀ src out at i e f = f ∙ rw (e, take-length, put_at_is)
