-- The trail read off the items, from its last one back: how many records it has, and its bytes, written record by record from the end.
use Rattle.std.specs.Prelude.{◌≡◌, refl, not, List, [], ◌∷◌, ◌++◌, ℕ, zero, suc, ◌+◌, ◌-◌, ◌*◌, ◌≤◌, ◌<◌, T, length, get_or, take, drop}
use Rattle.std.proofs.Common.{sym, ap, ap₂, subst, ◌∙◌, inl, inr, append_assoc, append-nil, add-zero, arith, length-append, take-append-drop, take-take, drop_at, length-take-le, drop-cons}
use Rattle.std.proofs.Math.Decide.{dec_lt}
use Rattle.std.proofs.lemmas.List.{take-append-le}
use Rattle.files.specs.Basics.Lists.{each}
use Rattle.files.specs.Cells.{put_at}
use Rattle.files.specs.Cells.Laws.{put_at_is, put_front}
use Rattle.files.specs.Graph.{Graph}
use Rattle.files.specs.Places.{record_len}
use Rattle.files.specs.Rules.{Monitor}
use Rattle.runs.specs.Forward.{turned, turned_length}
use Rattle.runs.specs.Regions.{points}
use Rattle.runs.specs.Summary.Trails.{Rec, trail_rec_bytes, end, leaving, trail, trail_bytes}
use Rattle.runs.specs.Summary.Trails.Laws.{trail_bytes_is}
use Rattle.runs.specs.Summary.{clean}
use Rattle.runs.specs.Searching.{item, parent, Traced, Says}

-- a run stored before a run is one run
put_before : (l : List ℕ) (p : ℕ) (xs ys : List ℕ) → p + length xs ≤ length l → put_at (put_at l (p + length xs) ys) p xs ≡ put_at l p (xs ++ ys)
put_before l p xs ys h =
    let q : ℕ = p + length xs in
    let rest : List ℕ = drop (q + length ys) l in
    let n : length (take q l) ≡ q = length-take-le q l h in
    let whole : put_at l q ys ≡ take q l ++ (ys ++ rest) = put_at_is l q ys ∙ append_assoc (take q l) ys rest in
    let front : take p (take q l ++ (ys ++ rest)) ≡ take p l = take-append-le p (take q l) (ys ++ rest) (omega arith) ∙ take-take p q l (omega arith) in
    let back : drop q (take q l ++ (ys ++ rest)) ≡ ys ++ rest = drop_at (take q l) (ys ++ rest) q n in
    let sum : q + length ys ≡ p + length (xs ++ ys) = omega (arith, length-append xs ys) in
    ap (λ (a : List ℕ). put_at a p xs) whole ∙ put_at_is (take q l ++ (ys ++ rest)) p xs ∙ ap₂ (λ (a b : List ℕ). a ++ xs ++ b) front back
    ∙ sym (append_assoc (take p l ++ xs) ys rest) ∙ ap (λ (a : List ℕ). a ++ rest) (append_assoc (take p l) xs ys)
    ∙ ap (λ (k : ℕ). take p l ++ (xs ++ ys) ++ drop k l) sum ∙ sym (put_at_is l p (xs ++ ys))

module _ (G : Graph) (mon : Monitor) (m i : ℕ) (w : List ℕ) (t : Traced G mon m i w) where
  abbrev way : ℕ → List Rec
  way = t.way

  abbrev back_from : List Rec → List Rec → List Rec
  back_from rs us = turned (leaving G mon m) end trail_rec_bytes rs us

  pub trail_length : length (way i) ≡ length (trail G mon m)
  trail_length = omega (arith, turned_length (leaving G mon m) end trail_rec_bytes (way i) [], ap length t.is_trail)

  -- one item back
  pub one_back : (k : ℕ) → 0 < k → k ≤ i → (parent w k < k) × (length (way k) ≡ suc (length (way (parent w k))))
  one_back k z h = let a = t.linked k z h in (a.0, ap length a.1)

  pub none_back : length (way 0) ≡ 0
  none_back = ap length t.first_way

  -- what is written so far: the records after item k, from record `length (way k)` of the output on
  pub record Written (out₀ out : List ℕ) (k : ℕ) : Type 0 where
    pub written : List Rec
    pub rest_is : back_from (way k) written ≡ trail G mon m
    pub stands : out ≡ put_at out₀ (record_len * length (way k)) (each trail_rec_bytes written)

  pub written_none : (out : List ℕ) → record_len * length (way i) ≤ length out → Written out out i
  written_none out h = record { written = []; rest_is = t.is_trail; stands = sym (put_at_is out (record_len * length (way i)) [] ∙ both) }
    where
      both : take (record_len * length (way i)) out ++ [] ++ drop (record_len * length (way i) + 0) out ≡ out
      both =
          ap₂ (λ (a b : List ℕ). a ++ b) (append-nil (take (record_len * length (way i)) out)) (ap (λ (k : ℕ). drop k out) (add-zero (record_len * length (way i))))
          ∙ take-append-drop (record_len * length (way i)) out

  -- one record more, at the place before
  pub written_more : (out₀ out out' : List ℕ) (k j : ℕ) → 0 < k → k ≤ i → suc j ≡ length (way k) → record_len * length (way k) ≤ length out₀ → Written out₀ out k
      → out' ≡ put_at out (record_len * j) (trail_rec_bytes (item w k)) → Written out₀ out' (parent w k)
  written_more out₀ out out' k j z h e fits x d =
      let a = t.linked k z h in
      let n : length (way k) ≡ suc (length (way (parent w k))) = ap length a.1 in
      let j_is : j ≡ length (way (parent w k)) = omega (arith, e, n) in
      let at : record_len * length (way k) ≡ record_len * j + length (trail_rec_bytes (item w k)) = omega (arith, e) in
      record {
        written = item w k ∷ x.written;
        rest_is = sym (ap (λ (rs : List Rec). back_from rs x.written) a.1) ∙ x.rest_is;
        stands = d ∙ ap (λ (o : List ℕ). put_at o (record_len * j) (trail_rec_bytes (item w k))) (x.stands ∙ ap (λ (p : ℕ). put_at out₀ p (each trail_rec_bytes x.written)) at)
            ∙ put_before out₀ (record_len * j) (trail_rec_bytes (item w k)) (each trail_rec_bytes x.written) (omega (arith, at, fits))
            ∙ ap (λ (p : ℕ). put_at out₀ (record_len * p) (each trail_rec_bytes (item w k ∷ x.written))) j_is;
      }

  -- all of it
  pub written_all : (out₀ out : List ℕ) → Written out₀ out 0 → out ≡ trail_bytes G mon m ++ drop (length (trail_bytes G mon m)) out₀
  written_all out₀ out x =
      let all : x.written ≡ trail G mon m = sym (ap (λ (rs : List Rec). back_from rs x.written) t.first_way) ∙ x.rest_is in
      let start : record_len * length (way 0) ≡ 0 = omega (arith, none_back) in
      x.stands ∙ ap₂ (λ (p : ℕ) (rs : List Rec). put_at out₀ p (each trail_rec_bytes rs)) start all ∙ put_front out₀ (each trail_rec_bytes (trail G mon m))
      ∙ ap (λ (bs : List ℕ). bs ++ drop (length bs) out₀) (sym (trail_bytes_is G mon m))

-- ---- the two loops

-- n records stand after item `at`
pub record Counting (G : Graph) (mon : Monitor) (m i : ℕ) (w : List ℕ) (at n : ℕ) : Type 0 where
  pub traced : Traced G mon m i w
  pub short : n + at ≤ i
  pub sum : n + length (traced.way at) ≡ length (traced.way i)

pub counting_first : (G : Graph) (mon : Monitor) (m i : ℕ) (w : List ℕ) → Traced G mon m i w → Counting G mon m i w i 0
counting_first G mon m i w t = record { traced = t; short = omega arith; sum = omega arith }

pub counting_next : (G : Graph) (mon : Monitor) (m i : ℕ) (w : List ℕ) (at n at' : ℕ) → Counting G mon m i w at n → 0 < at → at' ≡ parent w at → Counting G mon m i w at' (n + 1)
counting_next G mon m i w at n at' c z e =
    let a = one_back G mon m i w c.traced at z (omega (arith, c.short)) in
    let d : length (c.traced.way at') ≡ length (c.traced.way (parent w at)) = ap (λ (k : ℕ). length (c.traced.way k)) e in
    record { traced = c.traced; short = omega (arith, c.short, a.0, e); sum = omega (arith, c.sum, a.1, d) }

pub counting_done : (G : Graph) (mon : Monitor) (m i : ℕ) (w : List ℕ) (at n : ℕ) → Counting G mon m i w at n → at ≡ 0 → n ≡ length (trail G mon m)
counting_done G mon m i w at n c e =
    let d : length (c.traced.way at) ≡ length (c.traced.way 0) = ap (λ (k : ℕ). length (c.traced.way k)) e in
    omega (arith, c.sum, d, none_back G mon m i w c.traced, trail_length G mon m i w c.traced)

-- all records after item `at` are written, from record k on
pub record Writing (G : Graph) (mon : Monitor) (m i : ℕ) (w out₀ out : List ℕ) (at k : ℕ) : Type 0 where
  pub traced : Traced G mon m i w
  pub below : at ≤ i
  pub place : k ≡ length (traced.way at)
  pub fits : record_len * k ≤ length out₀
  pub same_length : length out ≡ length out₀
  pub done : Written G mon m i w traced out₀ out at

pub writing_first : (G : Graph) (mon : Monitor) (m i : ℕ) (w out : List ℕ) (n : ℕ) → Traced G mon m i w → n ≡ length (trail G mon m) → record_len * n ≤ length out → Writing G mon m i w out out i n
writing_first G mon m i w out n t e h =
    let d = trail_length G mon m i w t in
    record { traced = t; below = omega arith; place = e ∙ sym d; fits = h; same_length = refl; done = written_none G mon m i w t out (omega (arith, e, d, h)) }

-- there is a record before
pub writing_more : (G : Graph) (mon : Monitor) (m i : ℕ) (w out₀ out : List ℕ) (at k : ℕ) → Writing G mon m i w out₀ out at k → 0 < at → 0 < k
writing_more G mon m i w out₀ out at k x z = let a = one_back G mon m i w x.traced at z x.below in omega (arith, x.place, a.1)

pub writing_next : (G : Graph) (mon : Monitor) (m i : ℕ) (w out₀ out out' : List ℕ) (at k at' j : ℕ) → Writing G mon m i w out₀ out at k → 0 < at → at' ≡ parent w at → suc j ≡ k
    → out' ≡ put_at out (record_len * j) (trail_rec_bytes (item w at)) → length out' ≡ length out → Writing G mon m i w out₀ out' at' j
writing_next G mon m i w out₀ out out' at k at' j x z e f d l =
    let a = one_back G mon m i w x.traced at z x.below in
    let same : length (x.traced.way at') ≡ length (x.traced.way (parent w at)) = ap (λ (q : ℕ). length (x.traced.way q)) e in
    record {
      traced = x.traced;
      below = omega (arith, x.below, a.0, e);
      place = omega (arith, x.place, a.1, same, f);
      fits = omega (arith, x.fits, f);
      same_length = l ∙ x.same_length;
      done = subst (λ (q : ℕ). Written G mon m i w x.traced out₀ out' q) (sym e)
          (written_more G mon m i w x.traced out₀ out out' at j z x.below (f ∙ x.place) (omega (arith, x.fits, x.place)) x.done d);
    }

pub writing_done : (G : Graph) (mon : Monitor) (m i : ℕ) (w out₀ out : List ℕ) (at k : ℕ) → Writing G mon m i w out₀ out at k → at ≡ 0
    → out ≡ trail_bytes G mon m ++ drop (length (trail_bytes G mon m)) out₀
writing_done G mon m i w out₀ out at k x e =
    written_all G mon m i w x.traced out₀ out (subst (λ (q : ℕ). Written G mon m i w x.traced out₀ out q) e x.done)

-- six bytes of an item, as a part of the buffer
pub item_part : (w : List ℕ) (at : ℕ) → record_len * at + record_len ≤ length w → take (record_len * at + record_len - record_len * at) (drop (record_len * at) w) ≡ trail_rec_bytes (item w at)
item_part w at h = let six_is : record_len * at + record_len - record_len * at ≡ 6 = omega arith in ap (λ (n : ℕ). take n (drop (record_len * at) w)) six_is ∙ ap (take 6) all
  where
    next : (k : ℕ) → k < 6 → drop (record_len * at + k) w ≡ get_or w (record_len * at + k) 0 ∷ drop (record_len * at + (k + 1)) w
    next k b =
        let e : suc (record_len * at + k) ≡ record_len * at + (k + 1) = omega arith in
        drop-cons w (record_len * at + k) 0 (omega arith) ∙ ap (λ (n : ℕ). get_or w (record_len * at + k) 0 ∷ drop n w) e

    first : drop (record_len * at) w ≡ get_or w (record_len * at) 0 ∷ drop (record_len * at + 1) w
    first = let e : suc (record_len * at) ≡ record_len * at + 1 = omega arith in drop-cons w (record_len * at) 0 (omega arith) ∙ ap (λ (n : ℕ). get_or w (record_len * at) 0 ∷ drop n w) e

    all : drop (record_len * at) w ≡ get_or w (record_len * at) 0 ∷ get_or w (record_len * at + 1) 0 ∷ get_or w (record_len * at + 2) 0 ∷ get_or w (record_len * at + 3) 0 ∷ get_or w (record_len * at + 4) 0 ∷ get_or w (record_len * at + 5) 0 ∷ drop (record_len * at + record_len) w
    all = rw (first, next 1 (omega arith), next 2 (omega arith), next 3 (omega arith), next 4 (omega arith), next 5 (omega arith))

pub counting_back : (G : Graph) (mon : Monitor) (m i : ℕ) (w : List ℕ) (at n : ℕ) → Counting G mon m i w at n → 0 < at → parent w at < at
counting_back G mon m i w at n c z = (one_back G mon m i w c.traced at z (omega (arith, c.short))).0

pub writing_back : (G : Graph) (mon : Monitor) (m i : ℕ) (w out₀ out : List ℕ) (at k : ℕ) → Writing G mon m i w out₀ out at k → 0 < at → parent w at < at
writing_back G mon m i w out₀ out at k x z = (one_back G mon m i w x.traced at z x.below).0

-- a way is no longer than its item's number
way_short : (G : Graph) (mon : Monitor) (m i : ℕ) (w : List ℕ) (t : Traced G mon m i w) (f k : ℕ) → k ≤ f → k ≤ i → length (t.way k) ≤ k
way_short G mon m i w t zero k h l =
    let z : k ≡ 0 = omega arith in let e : length (t.way k) ≡ length (t.way 0) = ap (λ (j : ℕ). length (t.way j)) z in omega (arith, e, none_back G mon m i w t)
way_short G mon m i w t (suc f) k h l = go (dec_lt 0 k) (λ p a b. way_short G mon m i w t f p a b)
  where
    go : Dec (0 < k) → ((p : ℕ) → p ≤ f → p ≤ i → length (t.way p) ≤ p) → length (t.way k) ≤ k
    go (yes z) ih = let a = one_back G mon m i w t k z l in let r = ih (parent w k) (omega (arith, a.0)) (omega (arith, a.0)) in omega (arith, a.0, a.1, r)
    go (no z) ih = let e : length (t.way k) ≡ length (t.way 0) = ap (λ (j : ℕ). length (t.way j)) (zero_is z) in omega (arith, e, none_back G mon m i w t)
      where
        zero_is : (0 < k → ⊥) → k ≡ 0
        zero_is n = omega arith

pub writing_small : (G : Graph) (mon : Monitor) (m i : ℕ) (w out₀ out : List ℕ) (at k : ℕ) → Writing G mon m i w out₀ out at k → k ≤ points
writing_small G mon m i w out₀ out at k x =
    let a = way_short G mon m i w x.traced at at (omega arith) x.below in omega (arith, a, x.place, x.below, x.traced.few)

pub trail_small : (G : Graph) (mon : Monitor) (m i : ℕ) (w : List ℕ) → Traced G mon m i w → length (trail G mon m) ≤ points
trail_small G mon m i w t =
    let a = way_short G mon m i w t i i (omega arith) (omega arith) in omega (arith, a, trail_length G mon m i w t, t.few)

-- ---- the search's answer

pub says_zero : (G : Graph) (mon : Monitor) (m i : ℕ) (w : List ℕ) → Says G mon m i w → i ≡ 0 → T (clean G mon m)
says_zero G mon m i w (inl a) e = a.1
says_zero G mon m i w (inr a) e = absurd (omega (arith, a.0))

pub says_item : (G : Graph) (mon : Monitor) (m i : ℕ) (w : List ℕ) → Says G mon m i w → (i ≡ 0 → ⊥) → T (not (clean G mon m)) × Traced G mon m i w
says_item G mon m i w (inl a) n = absurd (n a.0)
says_item G mon m i w (inr a) n = (a.1, a.2)
