-- The tests say what the table says of a file of deliveries: it is accepted exactly when no number applies, and refused by the lowest number that applies, at its first record.
use Rattle.std.specs.Prelude.{◌≡◌, ◌⊎◌, ◌↔◌, not, ◌&&◌, List, [], ◌∷◌, ℕ, zero, suc, ◌+◌, ◌-◌, ◌%◌, ◌≤◌, ◌<◌, T, eqb, length}
use Rattle.std.proofs.Math.Path.{refl}
use Rattle.std.proofs.Common.{sym, subst, subst₂, inl, inr, arith}
use Rattle.std.proofs.Math.Option.{none, some}
use Rattle.files.specs.Basics.First.{first_where, whole, pick, Finds, finds_as, scan_finds, whole_finds, First, Found, picks_none_iff, picks_some_iff}
use Rattle.files.specs.Basics.Says.{Says, says_eq, says_not, says_and, says_or}
use Rattle.files.specs.Basics.Tests.{any_i, any_e, upto, upto_i, upto_e}
use Rattle.files.specs.Deliveries.{opens, own_start, own_end, opened, own_part, own_number, own_method, delivery_misplaced, opening_wrong, delivery_wrong, delivery_disordered, delivery_passed}
use Rattle.files.specs.Deliveries.{delivery_past, delivery_crossing, delivery_findings, delivery_refusal, Within, Unopened, OpeningWrong, DeliveryPassed, Delivers}
use Rattle.files.specs.Deliveries.Parts.{Owned, owned, part_is, number_is, closed_is, start_unopened, unopened_start}
use Rattle.files.specs.Record.{record_at, kind_at, count}
use Rattle.files.specs.Refusal.{graph, passed}
use Rattle.files.specs.Refusal.Laws.{says_kind, says_out, says_used, says_wrong, says_disordered, says_passed, says_past, says_crossing, says_ragged, Near, says_near, near_misplaced, misplaced_near}
use Rattle.files.specs.Table.{Ragged, Misplaced, Disordered, Passed, Past}
use Rattle.files.specs.declared.record.Limits.{Limits}
use Rattle.files.specs.declared.record.Record.{Record}

says_opening_wrong : (r : Record) → Says (opening_wrong r) (OpeningWrong r)
says_opening_wrong r =
    says_or (says_out 1 8 r.first) (says_or (says_out 1 255 r.second) (says_or (says_used r.third) (says_or (says_used r.fourth) (says_used r.fifth))))

module _ (l : List ℕ) where
  says_closed : (i : ℕ) → Says (not (opens l i)) (kind_at l i ≡ 6 → ⊥)
  says_closed i = says_not (says_kind l 6 i)

  says_delivery_passed : (L : Limits) → Says (delivery_passed L l) (DeliveryPassed L l)
  says_delivery_passed L = record { say = there; hear = back }
    where
      each_one : (o : ℕ) → Says (opens l o && passed L graph (opened l (suc o))) ((kind_at l o ≡ 6) × Passed L graph (opened l (suc o)))
      each_one o = says_and (says_kind l 6 o) (says_passed L graph (opened l (suc o)))

      there : T (delivery_passed L l) → DeliveryPassed L l
      there t =
          let x = any_e (λ o. opens l o && passed L graph (opened l (suc o))) (upto (count l)) t in
          let y = (each_one x.0).say x.2 in
          (x.0, upto_e (count l) x.0 x.1, y.0, y.1)

      back : DeliveryPassed L l → T (delivery_passed L l)
      back x = any_i (λ o. opens l o && passed L graph (opened l (suc o))) (upto (count l)) x.0 (upto_i (count l) x.0 x.1) ((each_one x.0).hear (x.2, x.3))

  -- what the test of 2 sees between neighbours is what the table says of the whole delivery
  abbrev Beside : ℕ → Type 0
  Beside i = (kind_at l i ≡ 6 → ⊥) × ((own_start l i ≡ 0) ⊎ Near (own_part l i) (own_number l i))

  abbrev Amiss : ℕ → Type 0
  Amiss i = (kind_at l i ≡ 6 → ⊥) × (Unopened l i ⊎ Misplaced graph (own_part l i) (own_number l i))

  beside_amiss : (i : ℕ) → Beside i → Amiss i
  beside_amiss i (c, inl e) = (c, inl (start_unopened l i e))
  beside_amiss i (c, inr n) = (c, inr (near_misplaced (own_part l i) (own_number l i) n))

  amiss_beside : (i : ℕ) → i < count l → Amiss i → (j : ℕ) × (j ≤ i) × Beside j
  amiss_beside i h (c, inl u) = (i, omega arith, (c, inl (unopened_start l i u)))
  amiss_beside i h (c, inr m) = go (owned l i h c)
    where
      go : Owned l i ⊎ ((own_start l i ≡ 0) × Unopened l i) → (j : ℕ) × (j ≤ i) × Beside j
      go (inr u) = (i, omega arith, (c, inl u.0))
      go (inl s) = (suc o + r.0, omega (arith, s.place_is, r.1), (closed_is l o s.is_open r.0 k, inr near))
        where
          o : ℕ
          o = s.opening

          there : Misplaced graph (opened l (suc o)) s.place
          there =
              subst₂ (λ (p : List ℕ) (n : ℕ). Misplaced graph p n) (part_is l o s.is_open s.place s.place_in) (number_is l o s.is_open s.place s.place_in)
              (subst (λ (n : ℕ). Misplaced graph (own_part l n) (own_number l n)) s.place_is m)

          r : (j : ℕ) × (j ≤ s.place) × Near (opened l (suc o)) j
          r = misplaced_near (opened l (suc o)) s.place there

          k : r.0 < own_end l (suc o) - suc o
          k = omega (arith, r.1, s.place_in)

          near : Near (own_part l (suc o + r.0)) (own_number l (suc o + r.0))
          near = subst₂ (λ (p : List ℕ) (n : ℕ). Near p n) (sym (part_is l o s.is_open r.0 k)) (sym (number_is l o s.is_open r.0 k)) r.2

  misplaced_found : Finds (first_where (delivery_misplaced l) (count l)) (λ i. (i < count l) × Amiss i)
  misplaced_found =
      finds_as (λ i. (i < count l) × Beside i) (λ i. (i < count l) × Amiss i) (first_where (delivery_misplaced l) (count l))
      (λ i a. (a.0, beside_amiss i a.1)) (λ i b. let r = amiss_beside i b.0 b.1 in (r.0, r.1, (omega (arith, r.1, b.0), r.2)))
      (scan_finds (delivery_misplaced l) Beside (count l) (λ i. says_and (says_closed i) (says_or (says_eq (own_start l i) 0) (says_near (own_part l i) (own_number l i)))))

-- ---- the theorem

module _ (L : Limits) (l : List ℕ) where
  -- each number's finding is the first record at which it applies
  pub delivery_found : Found (Delivers L l) 1 (delivery_findings L l)
  unfolding delivery_findings
  delivery_found = (
    whole_finds _ (Ragged l) (says_ragged l),
    (
      misplaced_found l,
      (
        scan_finds (λ i. delivery_wrong (record_at l i)) _ (count l) (λ i. says_or (says_wrong (record_at l i)) (says_and (says_kind l 6 i) (says_opening_wrong (record_at l i)))),
        (
          scan_finds (delivery_disordered l) (Within l (Disordered graph)) (count l) (λ i. says_and (says_closed l i) (says_disordered graph (own_part l i) (own_number l i))),
          (
            whole_finds (delivery_passed L l) (DeliveryPassed L l) (says_delivery_passed l L),
            (
              λ i a. a,
              (
                scan_finds (delivery_past l) (Within l (Past graph)) (count l) (λ i. says_and (says_closed l i) (says_past graph (own_part l i) (own_number l i))),
                (
                  scan_finds (delivery_crossing l) _ (count l)
                      (λ i. says_and (says_closed l i) (says_or (says_crossing graph (own_part l i) (own_number l i)) (says_and (says_kind l 1 i) (says_not (says_eq (record_at l i).first (own_method l i)))))),
                  tt,
                ),
              ),
            ),
          ),
        ),
      ),
    ),
  )

  -- no number but 1 to 8 is in the table
  pub delivery_numbers : (n i : ℕ) → Delivers L l n i → (1 ≤ n) × (n < 9)
  delivery_numbers zero i a = absurd a
  delivery_numbers (suc zero) i a = omega arith
  delivery_numbers (suc (suc zero)) i a = omega arith
  delivery_numbers (suc (suc (suc zero))) i a = omega arith
  delivery_numbers (suc (suc (suc (suc zero)))) i a = omega arith
  delivery_numbers (suc (suc (suc (suc (suc zero))))) i a = omega arith
  delivery_numbers (suc (suc (suc (suc (suc (suc zero)))))) i a = omega arith
  delivery_numbers (suc (suc (suc (suc (suc (suc (suc zero))))))) i a = omega arith
  delivery_numbers (suc (suc (suc (suc (suc (suc (suc (suc zero)))))))) i a = omega arith
  delivery_numbers (suc (suc (suc (suc (suc (suc (suc (suc (suc n))))))))) i a = absurd a

  -- a file of deliveries is accepted exactly when no number applies
  pub delivery_accepted_iff : (delivery_refusal L l ≡ none) ↔ ((n i : ℕ) → Delivers L l n i → ⊥)
  unfolding delivery_refusal delivery_findings
  delivery_accepted_iff = picks_none_iff (Delivers L l) 1 (delivery_findings L l) delivery_found delivery_numbers

  -- and refused by number n at record i exactly when n is the least number that applies and i the first record at which it does
  pub delivery_refused_iff : (n i : ℕ) → (delivery_refusal L l ≡ some (n, i)) ↔ First (Delivers L l) 1 n i
  unfolding delivery_refusal delivery_findings
  delivery_refused_iff = picks_some_iff (Delivers L l) 1 (delivery_findings L l) delivery_found delivery_numbers

  -- the findings are eight, and the refusal is the first of them
  pub delivery_eight : length (delivery_findings L l) ≡ 8
  unfolding delivery_findings
  delivery_eight = refl

  pub delivery_findings_are : delivery_findings L l
      ≡ whole (not (eqb (length l % 6) 0)) ∷ first_where (delivery_misplaced l) (count l) ∷ first_where (λ i. delivery_wrong (record_at l i)) (count l)
      ∷ first_where (delivery_disordered l) (count l) ∷ whole (delivery_passed L l) ∷ none ∷ first_where (delivery_past l) (count l)
      ∷ first_where (delivery_crossing l) (count l) ∷ []
  unfolding delivery_findings
  delivery_findings_are = refl

  pub delivery_refusal_is : delivery_refusal L l ≡ pick 1 (delivery_findings L l)
  unfolding delivery_refusal
  delivery_refusal_is = refl
