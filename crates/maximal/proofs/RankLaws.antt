-- For the code that counts and writes edges by the states' numbers: a row has as many bits by the states' numbers as by their places, and a row whose bits are
-- moved to the states' places.
use mathlib.Core.Path.{◌≡◌, sym, ap, subst, ◌∙◌}
use mathlib.Core.Bool.{Bool, true, false, ◌&&◌}
use mathlib.Core.List.Memᴰ
use mathlib.Core.List.{List, map, Memᴰ}
use Prim.Native.Nat.{ℕ, zero, suc, ◌+◌, ◌*◌, ◌/◌, ◌%◌, ◌^◌, ◌≤◌, ◌<◌}
use native.Mathlib.Decide.{dec_lt, ℕ_discrete}
use native.Mathlib.Nat.{zero-div}
use native.Mathlib.Omega.{arith}
use borrow.Author.Tests.{lt-ltb, le-ltb}
use lib.Dec.{T, eqb, ltb}
use lib.ListN.{length, get_or, replicate, get_or-replicate, length-map}
use Rattle.files.specs.Basics.Lists.{put, keep, keep_e, keep_i, span, span_e, span_i}
use Rattle.files.specs.Basics.Queue.{Once, room}
use Rattle.files.specs.Basics.Tables.{tally, tally_same}
use Rattle.files.specs.Cells.{has_bit, put_bit}
use Rattle.files.specs.Cells.Laws.{has_bit_is, bit_same, bit_other}
use Rattle.files.specs.Places.{line_bytes}
use Rattle.maximal.specs.Charting.{order_at, rank_at, Ordered, Ranked}
use Rattle.maximal.specs.Listing.{leads, tally_under}
use Rattle.maximal.specs.Listing.Laws.{keep_tally}
use Rattle.maximal.proofs.SlotLaws.{in_row}
use Rattle.maximal.specs.Places.{targets_base, max_states}

-- ---- tallies along a function

-- f takes different numbers that pass p to different numbers
module _ (f : ℕ → ℕ) (p : ℕ → Bool) where
  abbrev along : ℕ → ℕ → List ℕ
  along a n = map f (keep p (span a n))

  once_along : (a n : ℕ) → ((i j : ℕ) → i < a + n → j < a + n → f i ≡ f j → i ≡ j) → Once (along a n)
  once_along a zero apart = tt
  once_along a (suc n) apart = go (p a) (once_along (suc a) n (λ i j h l. apart i j (omega arith) (omega arith)))
    where
      go : (b : Bool) → Once (along (suc a) n) → Once (map f (put b a (keep p (span (suc a) n))))
      go false x = x
      go true x = (
        λ m. let r = Memᴰ.of_map f (keep p (span (suc a) n)) m in
            let s = span_e n (suc a) r.0 (keep_e p (span (suc a) n) r.0 r.1).0 in
            omega (arith, s.0, apart r.0 a (omega (arith, s.1)) (omega arith) r.2),
        x,
      )

  -- as many pass p below n as pass q below m, at most, where f takes what passes p to what passes q
  tally_along : (q : ℕ → Bool) (n m : ℕ) → ((i j : ℕ) → i < n → j < n → f i ≡ f j → i ≡ j) → ((i : ℕ) → i < n → T (p i) → (f i < m) × T (q (f i))) → tally p n ≤ tally q m
  tally_along q n m apart into = omega (arith, room (along 0 n) (keep q (span 0 m)) (once_along 0 n (λ i j h l. apart i j (omega arith) (omega arith))) inside, length-map (keep p (span 0 n)) f, keep_tally p n, keep_tally q m)
    where
      inside : (y : ℕ) → Memᴰ y (along 0 n) → Memᴰ y (keep q (span 0 m))
      inside y i =
          let r = Memᴰ.of_map f (keep p (span 0 n)) i in
          let k = keep_e p (span 0 n) r.0 r.1 in
          let s = span_e n 0 r.0 k.0 in
          let z = into r.0 (omega (arith, s.1)) k.1 in
          subst (λ (x : ℕ). Memᴰ x (keep q (span 0 m))) r.2 (keep_i q (span 0 m) (f r.0) (span_i m 0 (f r.0) (omega arith) (omega (arith, z.0))) z.1)

-- ---- numbers and places

-- of the states that have a bit from `base` on, those below t are marked at their places in a row
abbrev pub Marked : ℕ → List ℕ → ℕ → ℕ → List ℕ → Type 0
Marked c w base t row = (j : ℕ) → j < c → has_bit row 0 j ≡ (ltb (order_at w j) t && has_bit w base (order_at w j))

module _ (c : ℕ) (w : List ℕ) (ord : Ordered c w) (ranked : Ranked c w) where
  -- the state with number t stands at its place
  at_rank : (t : ℕ) → t < c → (rank_at w t < c) × (order_at w (rank_at w t) ≡ t)
  at_rank t h =
      let i = ord.all_in t h in
      let e : rank_at w t ≡ i.0 = ap (rank_at w) (sym i.2) ∙ ranked i.0 i.1 in
      (omega (arith, e, i.1), ap (order_at w) e ∙ i.2)

  -- a test passes for as many places as numbers
  tally_in_order : (p : ℕ → Bool) → tally (λ j. p (order_at w j)) c ≡ tally p c
  tally_in_order p = omega (arith, forth, back)
    where
      forth : tally (λ j. p (order_at w j)) c ≤ tally p c
      forth = tally_along (order_at w) (λ j. p (order_at w j)) p c c (λ i j h l e. sym (ranked i h) ∙ ap (rank_at w) e ∙ ranked j l) (λ i h t. (ord.below i h, t))

      back : tally p c ≤ tally (λ j. p (order_at w j)) c
      back = tally_along (rank_at w) p (λ j. p (order_at w j)) c c (λ i j h l e. sym (at_rank i h).1 ∙ ap (order_at w) e ∙ (at_rank j l).1)
          (λ t h z. ((at_rank t h).0, subst (λ (m : ℕ). T (p m)) (sym (at_rank t h).1) z))

  -- the bits of the row of the i-th state under label l are the edges
  pub tally_row : (i l r : ℕ) → r ≡ targets_base + line_bytes * (9 * order_at w i + l) → tally (has_bit w r) c ≡ tally_under w c i l
  tally_row i l r e =
      ap (λ (b : ℕ). tally (has_bit w b) c) e
      ∙ tally_same (has_bit w (targets_base + line_bytes * (9 * order_at w i + l))) (λ t. has_bit w targets_base (max_states * (9 * order_at w i + l) + t)) c (λ t h. sym (in_row w (9 * order_at w i + l) t))
      ∙ sym (tally_in_order (λ t. has_bit w targets_base (max_states * (9 * order_at w i + l) + t)))

  -- ---- a row whose bits are moved

  module _ (base : ℕ) where
    pub marked_none : (row : List ℕ) → row ≡ replicate 32 0 → c ≤ max_states → Marked c w base 0 row
    marked_none row e few j h =
        has_bit_is row 0 j
        ∙ ap (λ (x : ℕ). eqb (x / 2 ^ (j % 8) % 2) 1) (ap (λ (l : List ℕ). get_or l (0 + j / 8) 0) e ∙ get_or-replicate {A = ℕ} 32 (0 + j / 8) 0 0 (omega arith))
        ∙ ap (λ (x : ℕ). eqb (x % 2) 1) (zero-div (2 ^ (j % 8)))
        ∙ sym (ap (λ (b : Bool). b && has_bit w base (order_at w j)) (le-ltb (order_at w j) 0 (omega arith)))

    -- another state than t
    other : (x t : ℕ) (b : Bool) → (x ≡ t → b ≡ false) → (ltb x t && b) ≡ (ltb x (suc t) && b)
    other x t b f = go (dec_lt x t) (ℕ_discrete x t)
      where
        go : Dec (x < t) → Dec (x ≡ t) → (ltb x t && b) ≡ (ltb x (suc t) && b)
        go (yes h) d = ap (λ (z : Bool). z && b) (lt-ltb x t h ∙ sym (lt-ltb x (suc t) (omega arith)))
        go (no h) (yes d) = ap (λ (z : Bool). z && b) (le-ltb x t (omega arith)) ∙ sym (ap (λ (z : Bool). z && b) (lt-ltb x (suc t) (omega arith)) ∙ f d)
        go (no h) (no d) = ap (λ (z : Bool). z && b) (le-ltb x t (omega arith) ∙ sym (le-ltb x (suc t) (omega arith)))

    -- a state that has no bit
    pub marked_pass : (row : List ℕ) (t : ℕ) → t < c → has_bit w base t ≡ false → Marked c w base t row → Marked c w base (suc t) row
    marked_pass row t h e x j l = x j l ∙ other (order_at w j) t (has_bit w base (order_at w j)) (λ d. ap (has_bit w base) d ∙ e)

    -- one that has
    pub marked_on : (row row' : List ℕ) (t s : ℕ) → t < c → has_bit w base t ≡ true → s ≡ rank_at w t → row' ≡ put_bit row 0 s → s / 8 < length row → Marked c w base t row → Marked c w base (suc t) row'
    marked_on row row' t s h b is e long x j l = go (ℕ_discrete (order_at w j) t)
      where
        go : Dec (order_at w j ≡ t) → has_bit row' 0 j ≡ (ltb (order_at w j) (suc t) && has_bit w base (order_at w j))
        go (yes d) =
            let z : j ≡ s = sym (ranked j l) ∙ ap (rank_at w) d ∙ sym is in
            ap (λ (v : List ℕ). has_bit v 0 j) e ∙ ap (has_bit (put_bit row 0 s) 0) z ∙ bit_same row 0 s (omega arith)
            ∙ sym (ap (λ (y : Bool). y && has_bit w base (order_at w j)) (lt-ltb (order_at w j) (suc t) (omega (arith, d))) ∙ ap (has_bit w base) d ∙ b)
        go (no d) =
            ap (λ (v : List ℕ). has_bit v 0 j) e
            ∙ bit_other row 0 s j (λ z. d (ap (order_at w) (sym z ∙ is) ∙ (at_rank t h).1))
            ∙ x j l
            ∙ other (order_at w j) t (has_bit w base (order_at w j)) (λ z. absurd (d z))

    pub marked_all : (row : List ℕ) → Marked c w base c row → (j : ℕ) → j < c → has_bit row 0 j ≡ has_bit w base (order_at w j)
    marked_all row x j h = x j h ∙ ap (λ (z : Bool). z && has_bit w base (order_at w j)) (lt-ltb (order_at w j) c (ord.below j h))

    -- in a row that is so marked, the edges of the i-th state under label l
    pub leads_row : (row : List ℕ) → ((j : ℕ) → j < c → has_bit row 0 j ≡ has_bit w base (order_at w j)) → (i l : ℕ) → base ≡ targets_base + line_bytes * (9 * order_at w i + l) → (j : ℕ) → j < c → has_bit row 0 j ≡ leads w i l j
    leads_row row x i l e j h = x j h ∙ ap (λ (b : ℕ). has_bit w b (order_at w j)) e ∙ sym (in_row w (9 * order_at w i + l) (order_at w j))
