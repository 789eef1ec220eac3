-- 14 in one pass over a file: what is met so far, a bit for each method and revision.
use Rattle.std.specs.Prelude.{◌≡◌, refl, Bool, true, false, not, cond, ◌&&◌, List, ℕ, ◌+◌, ◌*◌, ◌/◌, ◌≤◌, ◌<◌, T, eqb, length, replicate}
use Rattle.std.proofs.Common.{sym, ap, subst, ◌∙◌, not-suc-le-zero, arith, eq-eqb, ne_eqb, eqb-true}
use Rattle.std.proofs.Math.Option.{none}
use Rattle.std.proofs.Math.Decide.{ℕ_discrete}
use Rattle.std.proofs.lemmas.Bool.{not-false}
use Rattle.files.specs.Basics.Tests.{and_e, T_eq, same_test}
use Rattle.files.specs.Cells.{has_bit, put_bit}
use Rattle.files.specs.Cells.Laws.{zero_byte, zero_bit, length_put_bit, bit_same, bit_other}
use Rattle.files.specs.Deliveries.{opens, delivery_refusal, delivery_at, decode_deliveries, repeated, RepeatedOpenings}
use Rattle.files.specs.Deliveries.Decoded.{decoded_in, decoded_supplied}
use Rattle.files.specs.Deliveries.Parts.{open_i, open_e}
use Rattle.files.specs.Deliveries.Repeats.{repeated_openings}
use Rattle.files.specs.Places.{byte_end}
use Rattle.files.specs.Record.{record_at, kind_at, count}
use Rattle.files.specs.declared.record.Limits.{Limits}
use Rattle.files.specs.declared.record.Record.{Record}

-- its method and revision, in one number
abbrev pub issue_at : List ℕ → ℕ → ℕ
issue_at l i = byte_end * (record_at l i).first + (record_at l i).second

-- every opening has a method up to 8 and a revision up to 255
abbrev pub IssuesIn : List ℕ → Type 0
IssuesIn l = (o : ℕ) → o < count l → kind_at l o ≡ 6 → ((record_at l o).first ≤ 8) × ((record_at l o).second ≤ 255)

-- so it is in a file that 1 to 8 accept
pub accepted_issues : (L : Limits) (l : List ℕ) → delivery_refusal L l ≡ none → IssuesIn l
accepted_issues L l e o h s = let d = decoded_supplied L l e (delivery_at l o) (decoded_in l o h s) in (d.method_in.1, d.revision_in.1)

-- record i, found to be an opening and read as r
pub record OpeningRead (l : List ℕ) (i : ℕ) (r : Record) : Type 0 where
  pub opens_it : kind_at l i ≡ 6
  pub method_is : (record_at l i).first ≡ r.first
  pub revision_is : (record_at l i).second ≡ r.second
  pub method_small : r.first ≤ 8

pub opening_read : (l : List ℕ) (i : ℕ) → IssuesIn l → i < count l → (k : ℕ) → k ≡ kind_at l i → not (eqb k 6) ≡ false → (r : Record) → r ≡ record_at l i → OpeningRead l i r
opening_read l i issues h k e b r d =
    let six = sym e ∙ eqb-true k 6 (not-false (eqb k 6) b) in
    let first : r.first ≡ (record_at l i).first = ap (λ (x : Record). x.first) d in
    record { opens_it = six; method_is = sym first; revision_is = ap (λ (x : Record). x.second) (sym d); method_small = omega (arith, first, (issues i h six).0) }

-- record i opens a delivery whose bit stands
abbrev pub meets : List ℕ → List ℕ → ℕ → Bool
meets l met i = opens l i && has_bit met 0 (issue_at l i)

-- the bits after record i
abbrev pub met_next : List ℕ → List ℕ → ℕ → List ℕ
met_next l met i = cond (opens l i) (put_bit met 0 (issue_at l i)) met

module _ (l met : List ℕ) (i : ℕ) where
  pub shut_meets : (kind_at l i ≡ 6 → ⊥) → (false ≡ meets l met i) × (met ≡ met_next l met i)
  shut_meets f =
      let o = sym (ne_eqb (kind_at l i) 6 f) in
      (ap (λ (b : Bool). b && has_bit met 0 (issue_at l i)) o, ap (λ (b : Bool). cond b (put_bit met 0 (issue_at l i)) met) o)

  pub open_meets : kind_at l i ≡ 6 → (has_bit met 0 (issue_at l i) ≡ meets l met i) × (put_bit met 0 (issue_at l i) ≡ met_next l met i)
  open_meets e =
      let o = sym (eq-eqb (kind_at l i) 6 e) in
      (ap (λ (b : Bool). b && has_bit met 0 (issue_at l i)) o, ap (λ (b : Bool). cond b (put_bit met 0 (issue_at l i)) met) o)

  pub issue_room : IssuesIn l → i < count l → kind_at l i ≡ 6 → length met ≡ 288 → 0 + issue_at l i / 8 < length met
  issue_room issues within e room = let x = issues i within e in omega (arith, room, x.0, x.1)

-- n records are done: the bits are of their openings, no two of which are alike
pub record Met (l met : List ℕ) (n : ℕ) : Type 0 where
  pub room : length met ≡ 288
  pub has : (o : ℕ) → o < n → kind_at l o ≡ 6 → has_bit met 0 (issue_at l o) ≡ true
  pub from : (h : ℕ) → has_bit met 0 h ≡ true → (o : ℕ) × (o < n) × (kind_at l o ≡ 6) × (issue_at l o ≡ h)
  pub once : (i j : ℕ) → i < j → j < n → kind_at l i ≡ 6 → kind_at l j ≡ 6 → issue_at l i ≡ issue_at l j → ⊥

false_true : {A : Type 0} → false ≡ true → A
false_true e = absurd (subst T (sym e) tt)

pub met_none : (l : List ℕ) → Met l (replicate 288 0) 0
met_none l = record {
  room = refl;
  has = λ o h e. absurd (not-suc-le-zero h);
  from = λ h e. false_true (sym (zero_bit (replicate 288 0) 0 h (zero_byte (replicate 288 0) refl (0 + h / 8))) ∙ e);
  once = λ i j h k. absurd (not-suc-le-zero k);
}

module _ (l met : List ℕ) (n : ℕ) (m : Met l met n) where
  -- a record that opens nothing
  met_shut : (kind_at l n ≡ 6 → ⊥) → Met l met (n + 1)
  met_shut f = record { room = m.room; has = λ o h e. m.has o (before o h e) e; from = further; once = λ i j h k d e. m.once i j h (before j k e) d e }
    where
      before : (o : ℕ) → o < n + 1 → kind_at l o ≡ 6 → o < n
      before o h e = go (ℕ_discrete o n)
        where
          go : Dec (o ≡ n) → o < n
          go (yes q) = absurd (f (subst (λ (i : ℕ). kind_at l i ≡ 6) q e))
          go (no q) = omega arith

      further : (h : ℕ) → has_bit met 0 h ≡ true → (o : ℕ) × (o < n + 1) × (kind_at l o ≡ 6) × (issue_at l o ≡ h)
      further h e = let x = m.from h e in (x.0, omega (arith, x.1), x.2, x.3)

  module _ (issues : IssuesIn l) (within : n < count l) (six_n : kind_at l n ≡ 6) where
    -- an opening that was not met
    met_new : has_bit met 0 (issue_at l n) ≡ false → Met l (put_bit met 0 (issue_at l n)) (n + 1)
    met_new new = record {
      room = length_put_bit met 0 (issue_at l n) ∙ m.room;
      has = λ o h e. has_by o h e (ℕ_discrete (issue_at l n) (issue_at l o));
      from = λ h e. from_by h e (ℕ_discrete (issue_at l n) h);
      once = λ i j h k d e q. once_by i j h d e q (ℕ_discrete j n) k;
    }
      where
        has_by : (o : ℕ) → o < n + 1 → kind_at l o ≡ 6 → Dec (issue_at l n ≡ issue_at l o) → has_bit (put_bit met 0 (issue_at l n)) 0 (issue_at l o) ≡ true
        has_by o h e (yes q) = ap (has_bit (put_bit met 0 (issue_at l n)) 0) (sym q) ∙ bit_same met 0 (issue_at l n) (issue_room l met n issues within six_n m.room)
        has_by o h e (no q) =
            let other : o ≡ n → ⊥ = λ x. q (ap (issue_at l) (sym x)) in
            bit_other met 0 (issue_at l n) (issue_at l o) q ∙ m.has o (omega (arith, other)) e

        from_by : (h : ℕ) → has_bit (put_bit met 0 (issue_at l n)) 0 h ≡ true → Dec (issue_at l n ≡ h) → (o : ℕ) × (o < n + 1) × (kind_at l o ≡ 6) × (issue_at l o ≡ h)
        from_by h e (yes q) = (n, omega arith, six_n, q)
        from_by h e (no q) = let x = m.from h (sym (bit_other met 0 (issue_at l n) h q) ∙ e) in (x.0, omega (arith, x.1), x.2, x.3)

        once_by : (i j : ℕ) → i < j → kind_at l i ≡ 6 → kind_at l j ≡ 6 → issue_at l i ≡ issue_at l j → Dec (j ≡ n) → j < n + 1 → ⊥
        once_by i j h d e q (yes x) k = false_true (sym new ∙ ap (has_bit met 0) (ap (issue_at l) (sym x) ∙ sym q) ∙ m.has i (omega arith) d)
        once_by i j h d e q (no x) k = m.once i j h (omega arith) d e q

    -- one that was met before
    met_again : has_bit met 0 (issue_at l n) ≡ true → true ≡ repeated (decode_deliveries l)
    met_again old =
        let x = m.from (issue_at l n) old in
        let a = issues x.0 (omega (arith, x.1)) x.2 in
        let b = issues n within six_n in
        sym (T_eq _ ((repeated_openings l).hear (x.0, n, x.1, within, x.2, six_n, omega (arith, x.3, a.1, b.1), omega (arith, x.3, a.1, b.1))))

  -- by what the code tells of record n
  module _ (issues : IssuesIn l) (within : n < count l) where
    pub met_on : meets l met n ≡ false → Met l (met_next l met n) (n + 1)
    met_on e = go (opens l n) refl e
      where
        go : (b : Bool) → opens l n ≡ b → (b && has_bit met 0 (issue_at l n)) ≡ false → Met l (cond b (put_bit met 0 (issue_at l n)) met) (n + 1)
        go true o f = met_new issues within (open_e l n (subst T (sym o) tt)) f
        go false o f = met_shut (λ k. subst T o (open_i l n k))

    pub met_stop : meets l met n ≡ true → true ≡ repeated (decode_deliveries l)
    met_stop e = let u = and_e (opens l n) _ (subst T (sym e) tt) in met_again issues within (open_e l n u.0) (T_eq _ u.1)

-- no two openings of the whole file are alike
pub met_all : (l met : List ℕ) → Met l met (count l) → false ≡ repeated (decode_deliveries l)
met_all l met m = same_test false (repeated (decode_deliveries l)) (λ t. absurd t) (λ t. alike ((repeated_openings l).say t))
  where
    alike : RepeatedOpenings l → T false
    alike (i, j, h, k, d, e, p, q) = m.once i j h k d e (omega (arith, p, q))
