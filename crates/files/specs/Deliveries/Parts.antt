-- How a file is cut: the records behind an opening up to the next one are one delivery, and each of them has that delivery for its own.
use Rattle.std.specs.Prelude.{◌≡◌, refl, ◌⊎◌, Bool, true, false, cond, List, ℕ, zero, suc, ◌+◌, ◌-◌, ◌*◌, ◌≤◌, ◌<◌, T, length}
use Rattle.std.proofs.Common.{ap, subst, inl, inr, arith, T_not, eqb→eq}
use Rattle.std.proofs.Math.Decide.{dec_lt}
use Rattle.files.specs.Basics.First.{last_passes, last_above, last_is}
use Rattle.files.specs.Basics.Least.{least_hit, least_before, least_le}
use Rattle.files.specs.Basics.Tests.{eq_eqb}
use Rattle.files.specs.Deliveries.{opens, own_start, own_end, opened, own_part, own_number, own_method, Unopened}
use Rattle.files.specs.Places.{record_len}
use Rattle.files.specs.Record.{record_at, kind_at, count}
use Rattle.files.specs.Record.Laws.{part_record, part_length}

module _ (l : List ℕ) where
  -- an opening, as a test and as a kind
  pub open_i : (i : ℕ) → kind_at l i ≡ 6 → T (opens l i)
  open_i i e = eq_eqb (kind_at l i) 6 e

  pub open_e : (i : ℕ) → T (opens l i) → kind_at l i ≡ 6
  open_e i t = eqb→eq (kind_at l i) 6 t

  -- ---- where a delivery ends

  pub end_from : (a : ℕ) → a ≤ own_end l a
  end_from a = omega arith

  pub end_to : (a : ℕ) → a ≤ count l → own_end l a ≤ count l
  end_to a h = omega (arith, least_le (λ k. opens l (a + k)) (count l - a))

  -- no record before its end opens another
  pub inside_closed : (a i : ℕ) → a ≤ i → i < own_end l a → kind_at l i ≡ 6 → ⊥
  inside_closed a i h k e =
      let j : i ≡ a + (i - a) = omega arith in
      T_not (opens l (a + (i - a))) (least_before (λ k. opens l (a + k)) (count l - a) (i - a) (omega arith)) (subst (λ (n : ℕ). T (opens l n)) j (open_i i e))

  -- and its end opens one, or is the file's
  pub end_opens : (a : ℕ) → own_end l a < count l → kind_at l (own_end l a) ≡ 6
  end_opens a h = open_e (own_end l a) (least_hit (λ k. opens l (a + k)) (count l - a) (omega arith))

  -- records that open nothing stand before the end
  pub before_end : (a i : ℕ) → a ≤ i → i < count l → ((j : ℕ) → a ≤ j → j ≤ i → kind_at l j ≡ 6 → ⊥) → i < own_end l a
  before_end a i h k f = go (dec_lt i (own_end l a))
    where
      go : Dec (i < own_end l a) → i < own_end l a
      go (yes x) = x
      go (no x) = absurd (f (own_end l a) (end_from a) (omega arith) (end_opens a (omega arith)))

  -- ---- the part behind an opening

  pub opened_length : (a : ℕ) → a ≤ count l → length (opened l a) ≡ record_len * (own_end l a - a)
  opened_length a h = part_length l a (own_end l a - a) (omega (arith, end_from a, end_to a h))

  pub opened_count : (a : ℕ) → a ≤ count l → count (opened l a) ≡ own_end l a - a
  opened_count a h = omega (arith, opened_length a h)

  pub opened_record : (a i : ℕ) → a ≤ count l → i < own_end l a - a → record_at (opened l a) i ≡ record_at l (a + i)
  opened_record a i h k = part_record l a (own_end l a - a) i k (omega (arith, end_from a, end_to a h))

  -- ---- the delivery of a record

  module _ (o : ℕ) (six_o : kind_at l o ≡ 6) where
    -- behind an opening, up to the next one, records have it for their own
    pub start_is : (i : ℕ) → i < own_end l (suc o) - suc o → own_start l (suc o + i) ≡ suc o
    start_is i h = last_is (opens l) o i (open_i o six_o) (λ j a b t. inside_closed (suc o) j a (omega arith) (open_e j t))

    pub part_is : (i : ℕ) → i < own_end l (suc o) - suc o → own_part l (suc o + i) ≡ opened l (suc o)
    part_is i h = ap (opened l) (start_is i h)

    pub number_is : (i : ℕ) → i < own_end l (suc o) - suc o → own_number l (suc o + i) ≡ i
    number_is i h = omega (arith, start_is i h)

    pub method_is : (i : ℕ) → i < own_end l (suc o) - suc o → own_method l (suc o + i) ≡ (record_at l o).first
    method_is i h = let e : own_start l (suc o + i) - 1 ≡ o = omega (arith, start_is i h) in ap (λ (n : ℕ). (record_at l n).first) e

    pub closed_is : (i : ℕ) → i < own_end l (suc o) - suc o → kind_at l (suc o + i) ≡ 6 → ⊥
    closed_is i h e = inside_closed (suc o) (suc o + i) (omega arith) (omega arith) e

  -- a record that opens nothing has an opening before it, and stands in its part; or it has none before it
  pub record Owned (i : ℕ) : Type 0 where
    pub opening : ℕ
    pub is_open : kind_at l opening ≡ 6
    pub opening_before : opening < i
    pub place : ℕ
    pub place_is : i ≡ suc opening + place
    pub place_in : place < own_end l (suc opening) - suc opening

  pub owned : (i : ℕ) → i < count l → (kind_at l i ≡ 6 → ⊥) → Owned i ⊎ ((own_start l i ≡ 0) × Unopened l i)
  owned i h c = go (own_start l i) refl
    where
      go : (s : ℕ) → own_start l i ≡ s → Owned i ⊎ ((own_start l i ≡ 0) × Unopened l i)
      go zero e = inr (e, λ o k q. last_above (opens l) i o (omega arith) k (open_i o q))
      go (suc o) e =
          let p = last_passes (opens l) i o e in
          let b = before_end (suc o) i p.1 h (λ j a k. closed j a k) in
          inl (record { opening = o; is_open = open_e o p.0; opening_before = p.1; place = i - suc o; place_is = omega (arith, p.1); place_in = omega (arith, p.1) })
        where
          closed : (j : ℕ) → suc o ≤ j → j ≤ i → kind_at l j ≡ 6 → ⊥
          closed j a k q = on (dec_lt j i)
            where
              on : Dec (j < i) → ⊥
              on (yes x) = last_above (opens l) i j (omega arith) x (open_i j q)
              on (no x) = let z : j ≡ i = omega arith in c (subst (λ (n : ℕ). kind_at l n ≡ 6) z q)

  -- from record to record: behind an opening a delivery starts, behind any other record it goes on
  pub start_opens : (i : ℕ) → kind_at l i ≡ 6 → own_start l (suc i) ≡ suc i
  start_opens i e = go (opens l i) (open_i i e)
    where
      go : (b : Bool) → T b → cond b (suc i) (own_start l i) ≡ suc i
      go true t = refl
      go false t = absurd t

  pub start_stays : (i : ℕ) → (kind_at l i ≡ 6 → ⊥) → own_start l (suc i) ≡ own_start l i
  start_stays i f = go (opens l i) (λ t. f (open_e i t))
    where
      go : (b : Bool) → (T b → ⊥) → cond b (suc i) (own_start l i) ≡ own_start l i
      go true g = absurd (g tt)
      go false g = refl

  -- no opening before record i is start 0
  pub unopened_start : (i : ℕ) → Unopened l i → own_start l i ≡ 0
  unopened_start i f = go (own_start l i) refl
    where
      go : (s : ℕ) → own_start l i ≡ s → own_start l i ≡ 0
      go zero e = e
      go (suc o) e = let p = last_passes (opens l) i o e in absurd (f o p.1 (open_e o p.0))

  pub start_unopened : (i : ℕ) → own_start l i ≡ 0 → Unopened l i
  start_unopened i e o h q = last_above (opens l) i o (omega arith) h (open_i o q)
