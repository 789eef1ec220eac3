-- A search forward from one point: items are points with the way by which each was found, in the order in which they were found, and those before the head have
-- been searched from. Ways are compared by length, then by the key of the first record that differs. States: each item's way is the first of all ways to its point;
-- the first bad point found ends the best path to a bad point; and a search that runs out has met every point. Assumes nothing.
use Rattle.std.specs.Prelude.{◌≡◌, refl, ◌⊎◌, Bool, ℕ, zero, suc, ◌+◌, ◌≤◌, ◌<◌, T, length}
use Rattle.std.proofs.Common.{sym, ap, ap₂, subst, ◌∙◌, inl, inr, eq-or-lt_of_le, le_of_suc-le-suc, arith}
use mathlib.Core.List.{List, [], ◌∷◌, ◌++◌, Memᴰ, append-nil}
use Rattle.std.proofs.Math.Nat.{suc_inj}
use Rattle.std.proofs.Math.Decide.{dec_lt}
use Rattle.files.specs.Basics.Lexical.{Before, before_trans, before_total}
use Rattle.files.specs.Basics.Lists.{each}
use Rattle.files.specs.Basics.Shortest.{To, there, by}

-- ---- strings with parts of one length

pub before_left : (xs ys us vs : List ℕ) → length xs ≡ length ys → Before xs ys → Before (xs ++ us) (ys ++ vs)
before_left [] ys us vs e b = absurd b
before_left (x ∷ xs) [] us vs e b = absurd b
before_left (x ∷ xs) (y ∷ ys) us vs e (inl h) = inl h
before_left (x ∷ xs) (y ∷ ys) us vs e (inr h) = inr (h.0, before_left xs ys us vs (suc_inj e) h.1)

pub before_right : (xs us vs : List ℕ) → Before us vs → Before (xs ++ us) (xs ++ vs)
before_right [] us vs b = b
before_right (x ∷ xs) us vs b = inr (refl, before_right xs us vs b)

-- x is the point of one of so many items
abbrev pub Met : {X : Type 0} → ℕ → (ℕ → X) → X → Type 0
Met tail point x = (k : ℕ) × (k < tail) × (point k ≡ x)

module _ {X R : Type 0} (leaving : X → List R) (end : R → X) (key : R → List ℕ) where
  -- the records from s to x, the last one first
  pub data Back (s : X) : X → List R → Type 0 where
    at_start : Back s s []
    onward : (x y : X) (rs : List R) (r : R) → Back s x rs → Memᴰ r (leaving x) → end r ≡ y → Back s y (r ∷ rs)

  -- the records of rs, the last one first, before those of ts
  abbrev pub turned : List R → List R → List R
  turned [] ts = ts
  turned (r ∷ rs) ts = turned rs (r ∷ ts)

  -- ---- the order of ways

  -- of two ways of one length, last records first: at the first record that differs the first one's key is before
  abbrev pub Earlier : List R → List R → Type 0
  Earlier [] ss = ⊥
  Earlier (r ∷ rs) [] = ⊥
  Earlier (r ∷ rs) (s ∷ ss) = Earlier rs ss ⊎ ((rs ≡ ss) × Before (key r) (key s))

  -- with fewer records, or as many and earlier
  abbrev pub Ahead : List R → List R → Type 0
  Ahead rs ss = (length rs < length ss) ⊎ ((length rs ≡ length ss) × Earlier rs ss)

  abbrev pub UpTo : List R → List R → Type 0
  UpTo rs ss = Ahead rs ss ⊎ (rs ≡ ss)

  earlier_trans : (rs ss ts : List R) → Earlier rs ss → Earlier ss ts → Earlier rs ts
  earlier_trans [] ss ts a b = absurd a
  earlier_trans (r ∷ rs) [] ts a b = absurd a
  earlier_trans (r ∷ rs) (s ∷ ss) [] a b = absurd b
  earlier_trans (r ∷ rs) (s ∷ ss) (t ∷ ts) (inl a) (inl b) = inl (earlier_trans rs ss ts a b)
  earlier_trans (r ∷ rs) (s ∷ ss) (t ∷ ts) (inl a) (inr b) = inl (subst (Earlier rs) b.0 a)
  earlier_trans (r ∷ rs) (s ∷ ss) (t ∷ ts) (inr a) (inl b) = inl (subst (λ (us : List R). Earlier us ts) (sym a.0) b)
  earlier_trans (r ∷ rs) (s ∷ ss) (t ∷ ts) (inr a) (inr b) = inr (a.0 ∙ b.0, before_trans (key r) (key s) (key t) a.1 b.1)

  ahead_trans : (rs ss ts : List R) → Ahead rs ss → Ahead ss ts → Ahead rs ts
  ahead_trans rs ss ts (inl a) (inl b) = inl (omega arith)
  ahead_trans rs ss ts (inl a) (inr b) = inl (omega (arith, b.0))
  ahead_trans rs ss ts (inr a) (inl b) = inl (omega (arith, a.0))
  ahead_trans rs ss ts (inr a) (inr b) = inr (a.0 ∙ b.0, earlier_trans rs ss ts a.1 b.1)

  ahead_up : (rs ss ts : List R) → Ahead rs ss → UpTo ss ts → Ahead rs ts
  ahead_up rs ss ts a (inl b) = ahead_trans rs ss ts a b
  ahead_up rs ss ts a (inr e) = subst (Ahead rs) e a

  up_trans : (rs ss ts : List R) → UpTo rs ss → UpTo ss ts → UpTo rs ts
  up_trans rs ss ts (inl a) u = inl (ahead_up rs ss ts a u)
  up_trans rs ss ts (inr e) u = subst (λ (us : List R). UpTo us ts) (sym e) u

  -- whatever follows
  ahead_cons : (r s : R) (rs ss : List R) → Ahead rs ss → Ahead (r ∷ rs) (s ∷ ss)
  ahead_cons r s rs ss (inl h) = inl (omega arith)
  ahead_cons r s rs ss (inr h) = inr (ap suc h.0, inl h.1)

  up_longer : (rs ss : List R) (s : R) → UpTo rs ss → Ahead rs (s ∷ ss)
  up_longer rs ss s (inl (inl h)) = inl (omega arith)
  up_longer rs ss s (inl (inr h)) = inl (omega (arith, h.0))
  up_longer rs ss s (inr e) = let n : length rs ≡ length ss = ap length e in inl (omega arith)

  module _ (one_size : (r s : R) → length (key r) ≡ length (key s)) where
    same_turned : (rs us vs : List R) → Before (each key us) (each key vs) → Before (each key (turned rs us)) (each key (turned rs vs))
    same_turned [] us vs b = b
    same_turned (r ∷ rs) us vs b = same_turned rs (r ∷ us) (r ∷ vs) (before_right (key r) (each key us) (each key vs) b)

    -- what is earlier has the smaller string
    earlier_turned : (rs ss us vs : List R) → Earlier rs ss → Before (each key (turned rs us)) (each key (turned ss vs))
    earlier_turned [] ss us vs a = absurd a
    earlier_turned (r ∷ rs) [] us vs a = absurd a
    earlier_turned (r ∷ rs) (s ∷ ss) us vs (inl a) = earlier_turned rs ss (r ∷ us) (s ∷ vs) a
    earlier_turned (r ∷ rs) (s ∷ ss) us vs (inr a) =
        subst (λ (ts : List R). Before (each key (turned rs (r ∷ us))) (each key (turned ts (s ∷ vs)))) a.0
        (same_turned rs (r ∷ us) (s ∷ vs) (before_left (key r) (key s) (each key us) (each key vs) (one_size r s) a.1))

  -- ---- ways and paths

  module _ (bad : X → Bool) where
    abbrev Path : X → List R → Type 0
    Path x rs = To leaving end key bad x rs

    pub turned_path : (s x : X) (rs ts : List R) → Back s x rs → Path x ts → Path s (turned rs ts)
    turned_path s x rs ts at_start p = p
    turned_path s x rs ts (onward x' y rs' r b m e) p = turned_path s x' rs' (r ∷ ts) b (by x' r ts m (subst (λ (z : X). Path z ts) (sym e) p))

    pub path_turned : (s x : X) (rs ts : List R) → Back s x rs → Path x ts → (z : X) × T (bad z) × Back s z (turned ts rs)
    path_turned s x rs ts b (there x' t) = (x', t, b)
    path_turned s x rs ts b (by x' r ts' m p) = path_turned s (end r) (r ∷ rs) ts' (onward x' (end r) rs r b m refl) p

  turned_twice : (rs us vs : List R) → turned (turned rs us) vs ≡ turned us (rs ++ vs)
  turned_twice [] us vs = refl
  turned_twice (r ∷ rs) us vs = turned_twice rs (r ∷ us) vs

  pub turned_length : (rs us : List R) → length (turned rs us) ≡ length rs + length us
  turned_length [] us = omega arith
  turned_length (t ∷ rs) us = let n = turned_length rs (t ∷ us) in omega (arith, n)

  -- ---- the search

  -- So many items, the first `head` of them searched from; `Due` holds of the records from item `head` that are still to be looked at.
  pub record Searched (s : X) (head tail : ℕ) (point : ℕ → X) (way : ℕ → List R) (Due : R → Type 0) : Type 0 where
    pub first_point : point 0 ≡ s
    pub first_way : way 0 ≡ []
    pub some_item : 0 < tail
    pub behind : (i : ℕ) → i < tail → Back s (point i) (way i)
    pub sorted : (i j : ℕ) → i < j → j < tail → Ahead (way i) (way j)
    pub smallest : (i : ℕ) → i < tail → (rs : List R) → Back s (point i) rs → UpTo (way i) rs
    pub closed : (i : ℕ) → i < head → (r : R) → Memᴰ r (leaving (point i)) → Met tail point (end r)
    pub pending : (r : R) → head < tail → Memᴰ r (leaving (point head)) → Due r ⊎ Met tail point (end r)
    pub found_by : (j : ℕ) → 0 < j → j < tail → (r : R) × (k : ℕ) × (k ≤ head) × (way j ≡ r ∷ way k) × (k ≡ head → (t : R) → Due t → Before (key t) (key r) → ⊥)

  module _ (one_size : (r s : R) → length (key r) ≡ length (key s)) (one_record : (r s : R) → key r ≡ key s → r ≡ s)
      (s : X) (head tail : ℕ) (point : ℕ → X) (way : ℕ → List R) (Due : R → Type 0) (f : Searched s head tail point way Due) where
    -- fewer records are due where the others lead to what is met
    pub fewer_due : (Left : R → Type 0) → ((t : R) → Left t → Due t) → ((t : R) → Memᴰ t (leaving (point head)) → Due t → Left t ⊎ Met tail point (end t))
        → Searched s head tail point way Left
    fewer_due Left sub on = record {
      first_point = f.first_point;
      first_way = f.first_way;
      some_item = f.some_item;
      behind = f.behind;
      sorted = f.sorted;
      smallest = f.smallest;
      closed = f.closed;
      pending = λ r h m. go r m (f.pending r h m);
      found_by = λ j z h. let a = f.found_by j z h in (a.0, a.1, a.2, a.3, λ e t l. a.4 e t (sub t l));
    }
      where
        go : (r : R) → Memᴰ r (leaving (point head)) → Due r ⊎ Met tail point (end r) → Left r ⊎ Met tail point (end r)
        go r m (inl d) = on r m d
        go r m (inr k) = inr k

    -- the items' points by another name
    pub searched_same : head ≤ tail → (point' : ℕ → X) → ((i : ℕ) → i < tail → point' i ≡ point i) → Searched s head tail point' way Due
    searched_same h point' same = record {
      first_point = same 0 f.some_item ∙ f.first_point;
      first_way = f.first_way;
      some_item = f.some_item;
      behind = λ i l. subst (λ (x : X). Back s x (way i)) (sym (same i l)) (f.behind i l);
      sorted = f.sorted;
      smallest = λ i l rs b. f.smallest i l rs (subst (λ (x : X). Back s x rs) (same i l) b);
      closed = λ i l r m. met (end r) (f.closed i l r (subst (λ (x : X). Memᴰ r (leaving x)) (same i (omega arith)) m));
      pending = λ r l m. on r (f.pending r l (subst (λ (x : X). Memᴰ r (leaving x)) (same head l) m));
      found_by = f.found_by;
    }
      where
        met : (x : X) → Met tail point x → Met tail point' x
        met x a = (a.0, a.1, same a.0 a.1 ∙ a.2)

        on : (r : R) → Due r ⊎ Met tail point (end r) → Due r ⊎ Met tail point' (end r)
        on r (inl d) = inl d
        on r (inr a) = inr (met (end r) a)

    -- where none is due, the next item comes
    pub next_item : head < tail → ((t : R) → Memᴰ t (leaving (point head)) → Due t → ⊥) → (Next : R → Type 0)
        → ((t : R) → Memᴰ t (leaving (point (suc head))) → Next t) → Searched s (suc head) tail point way Next
    next_item h no_more Next all = record {
      first_point = f.first_point;
      first_way = f.first_way;
      some_item = f.some_item;
      behind = f.behind;
      sorted = f.sorted;
      smallest = f.smallest;
      closed = λ i l r m. up i (eq-or-lt_of_le (le_of_suc-le-suc l)) r m;
      pending = λ r l m. inl (all r m);
      found_by = λ j z l. let a = f.found_by j z l in (a.0, a.1, omega (arith, a.2), a.3, λ e. absurd (omega (arith, a.2)));
    }
      where
        last : (r : R) → Memᴰ r (leaving (point head)) → Due r ⊎ Met tail point (end r) → Met tail point (end r)
        last r m (inl d) = absurd (no_more r m d)
        last r m (inr k) = k

        up : (i : ℕ) → (i ≡ head) ⊎ (i < head) → (r : R) → Memᴰ r (leaving (point i)) → Met tail point (end r)
        up i (inl e) r m = let n = subst (λ (k : ℕ). Memᴰ r (leaving (point k))) e m in last r n (f.pending r h n)
        up i (inr l) r m = f.closed i l r m

    -- a search that has run out has met all
    pub all_met : tail ≤ head → (x : X) (rs : List R) → Back s x rs → Met tail point x
    all_met h x rs at_start = (0, f.some_item, f.first_point)
    all_met h x rs (onward x' y rs' r b m e) =
        let a = all_met h x' rs' b in
        let c = f.closed a.0 (omega (arith, a.1)) r (subst (λ (z : X). Memᴰ r (leaving z)) (sym a.2) m) in
        (c.0, c.1, c.2 ∙ e)

    -- ---- the first bad point

    module _ (h : head < tail) where
      -- no later item comes before item `head`
      up_to_later : (k : ℕ) → head ≤ k → k < tail → UpTo (way head) (way k)
      up_to_later k d l = go (eq-or-lt_of_le d)
        where
          go : (head ≡ k) ⊎ (head < k) → UpTo (way head) (way k)
          go (inl e) = inr (ap way e)
          go (inr m) = inl (f.sorted head k m l)

      -- a way leads to what is met, or comes after that of item `head`
      beyond_head : (x : X) (rs : List R) → Back s x rs → Met tail point x ⊎ Ahead (way head) rs
      beyond_head x rs at_start = inl (0, f.some_item, f.first_point)
      beyond_head x rs (onward x' y rs' t b m e) = go (beyond_head x' rs' b)
        where
          met : (k : ℕ) → k < tail → point k ≡ x' → Dec (k < head) → Met tail point y ⊎ Ahead (way head) (t ∷ rs')
          met k l q (yes z) = let c = f.closed k z t (subst (λ (z : X). Memᴰ t (leaving z)) (sym q) m) in inl (c.0, c.1, c.2 ∙ e)
          met k l q (no z) =
              inr (up_longer (way head) rs' t (up_trans (way head) (way k) rs' (up_to_later k (omega arith) l) (f.smallest k l rs' (subst (λ (z : X). Back s z rs') (sym q) b))))

          go : Met tail point x' ⊎ Ahead (way head) rs' → Met tail point y ⊎ Ahead (way head) (t ∷ rs')
          go (inl a) = met a.0 a.1 a.2 (dec_lt a.0 head)
          go (inr a) = inr (up_longer (way head) rs' t (inl a))

      -- where item `head` is the first bad point, its way is the best path to a bad point: the path that has no more records than any, and whose string comes before any
      -- other of its length
      pub best_found : (bad : X → Bool) → ((i : ℕ) → i < head → T (bad (point i)) → ⊥) → T (bad (point head)) → (bs : List R) → To leaving end key bad s bs
          → ((rs : List R) → To leaving end key bad s rs → length bs ≤ length rs)
          → ((rs : List R) → To leaving end key bad s rs → length rs ≡ length bs → Before (each key rs) (each key bs) → ⊥) → turned (way head) [] ≡ bs
      best_found bad good is_bad bs path fewest first = go (path_turned bad s s [] bs at_start path)
        where
          mine : To leaving end key bad s (turned (way head) [])
          mine = turned_path bad s (point head) (way head) [] (f.behind head h) (there (point head) is_bad)

          back : turned (turned bs []) [] ≡ bs
          back = turned_twice bs [] [] ∙ append-nil bs

          settle : UpTo (way head) (turned bs []) → turned (way head) [] ≡ bs
          settle (inr e) = ap (λ (us : List R). turned us []) e ∙ back
          settle (inl (inl l)) = absurd (omega (arith, fewest (turned (way head) []) mine, turned_length (way head) [], turned_length bs []))
          settle (inl (inr l)) =
              absurd (first (turned (way head) []) mine (omega (arith, turned_length (way head) [], turned_length bs [], l.0))
              (subst (λ (us : List R). Before (each key (turned (way head) [])) (each key us)) back (earlier_turned one_size (way head) (turned bs []) [] [] l.1)))

          at_item : (z : X) → T (bad z) → Back s z (turned bs []) → (k : ℕ) → k < tail → point k ≡ z → Dec (k < head) → turned (way head) [] ≡ bs
          at_item z t b k l q (yes d) = absurd (good k d (subst (λ (x : X). T (bad x)) (sym q) t))
          at_item z t b k l q (no d) =
              settle (up_trans (way head) (way k) (turned bs []) (up_to_later k (omega arith) l) (f.smallest k l (turned bs []) (subst (λ (x : X). Back s x (turned bs [])) (sym q) b)))

          on : (z : X) → T (bad z) → Back s z (turned bs []) → Met tail point z ⊎ Ahead (way head) (turned bs []) → turned (way head) [] ≡ bs
          on z t b (inl a) = at_item z t b a.0 a.1 a.2 (dec_lt a.0 head)
          on z t b (inr a) = settle (inl a)

          go : (z : X) × T (bad z) × Back s z (turned bs []) → turned (way head) [] ≡ bs
          go a = on a.0 a.1 a.2 (beyond_head a.0 (turned bs []) a.2)

    -- ---- a record from item `head` than which none that is due is lower

    module _ (h : head < tail) (r : R) (leaves : Memᴰ r (leaving (point head))) (low : (t : R) → Due t → Before (key t) (key r) → ⊥) where
      abbrev new : List R
      new = r ∷ way head

      due_after : (t : R) (rs : List R) → Due t → UpTo (way head) rs → UpTo new (t ∷ rs)
      due_after t rs d (inl a) = inl (ahead_cons r t (way head) rs a)
      due_after t rs d (inr e) = go (before_total (key t) (key r) (one_size t r) (low t d))
        where
          go : Before (key r) (key t) ⊎ (key t ≡ key r) → UpTo new (t ∷ rs)
          go (inl b) = inl (inr (ap (λ (us : List R). suc (length us)) e, inr (e, b)))
          go (inr k) = inr (ap₂ ◌∷◌ (one_record r t (sym k)) e)

      -- a way leads to what is met, or does not come before the way by r
      pub beyond : (x : X) (rs : List R) → Back s x rs → Met tail point x ⊎ UpTo new rs
      beyond x rs at_start = inl (0, f.some_item, f.first_point)
      beyond x rs (onward x' y rs' t b m e) = go (beyond x' rs' b)
        where
          here : Met tail point (end t) → Met tail point y ⊎ UpTo new (t ∷ rs')
          here a = inl (a.0, a.1, a.2 ∙ e)

          at_head : Due t ⊎ Met tail point (end t) → UpTo (way head) rs' → Met tail point y ⊎ UpTo new (t ∷ rs')
          at_head (inl d) u = inr (due_after t rs' d u)
          at_head (inr k) u = here k

          met : (k : ℕ) → k < tail → Memᴰ t (leaving (point k)) → UpTo (way k) rs' → Dec (k < head) → Dec (head < k) → Met tail point y ⊎ UpTo new (t ∷ rs')
          met k l n u (yes z) d = here (f.closed k z t n)
          met k l n u (no z) (yes d) = inr (inl (ahead_cons r t (way head) rs' (ahead_up (way head) (way k) rs' (f.sorted head k d l) u)))
          met k l n u (no z) (no d) =
              let q : k ≡ head = omega arith in
              at_head (f.pending t h (subst (λ (i : ℕ). Memᴰ t (leaving (point i))) q n)) (subst (λ (i : ℕ). UpTo (way i) rs') q u)

          go : Met tail point x' ⊎ UpTo new rs' → Met tail point y ⊎ UpTo new (t ∷ rs')
          go (inl a) =
              met a.0 a.1 (subst (λ (z : X). Memᴰ t (leaving z)) (sym a.2) m)
              (f.smallest a.0 a.1 rs' (subst (λ (z : X). Back s z rs') (sym a.2) b)) (dec_lt a.0 head) (dec_lt head a.0)
          go (inr u) = inr (inl (up_longer new rs' t u))

      -- every item was found sooner
      module _ (due : Due r) (fresh : Met tail point (end r) → ⊥) where
        last_end : (t : R) (rs us : List R) (y : X) → Back s y us → us ≡ t ∷ rs → end t ≡ y
        last_end t rs us y at_start q = let n : ◌≡◌ {A = ℕ} 0 (suc (length rs)) = ap length q in absurd (omega arith)
        last_end t rs us y (onward x y' rs' t' b m e) q = ap end (first_same t t' rs rs' (sym q)) ∙ e
          where
            first_same : (a b : R) (vs ws : List R) → a ∷ vs ≡ b ∷ ws → a ≡ b
            first_same a b vs ws z = cc

        sooner : (j : ℕ) → j < tail → Ahead (way j) new
        sooner zero l = let n : length (way 0) ≡ 0 = ap length f.first_way in inl (omega arith)
        sooner (suc j) l = go (f.found_by (suc j) (omega arith) l)
          where
            level : (t : R) → way (suc j) ≡ t ∷ way head → Before (key t) (key r) ⊎ (key r ≡ key t) → Ahead (way (suc j)) new
            level t e (inl b) = subst (λ (us : List R). Ahead us new) (sym e) (inr (refl, inr (refl, b)))
            level t e (inr k) =
                absurd (fresh (suc j, l, sym (last_end t (way head) (way (suc j)) (point (suc j)) (f.behind (suc j) l) e) ∙ ap end (sym (one_record r t k))))

            go : (t : R) × (k : ℕ) × (k ≤ head) × (way (suc j) ≡ t ∷ way k) × (k ≡ head → (u : R) → Due u → Before (key u) (key t) → ⊥) → Ahead (way (suc j)) new
            go a = pick (dec_lt a.1 head)
              where
                pick : Dec (a.1 < head) → Ahead (way (suc j)) new
                pick (yes d) = subst (λ (us : List R). Ahead us new) (sym a.3) (ahead_cons a.0 r (way a.1) (way head) (f.sorted a.1 head d h))
                pick (no d) =
                    let q : a.1 ≡ head = omega (arith, a.2) in
                    level a.0 (a.3 ∙ ap (λ (i : ℕ). a.0 ∷ way i) q) (before_total (key r) (key a.0) (one_size r a.0) (a.4 q r due))

        -- one item more: its point, its way, and all others as they were
        pub found_more : (point' : ℕ → X) (way' : ℕ → List R) → ((i : ℕ) → i < tail → (point' i ≡ point i) × (way' i ≡ way i)) → point' tail ≡ end r → way' tail ≡ new
            → Searched s head (suc tail) point' way' Due
        found_more point' way' same p w = record {
          first_point = (same 0 f.some_item).0 ∙ f.first_point;
          first_way = (same 0 f.some_item).1 ∙ f.first_way;
          some_item = omega arith;
          behind = λ i l. behind_on i (eq-or-lt_of_le (le_of_suc-le-suc l));
          sorted = λ i j l k. sorted_on i j l (eq-or-lt_of_le (le_of_suc-le-suc k));
          smallest = λ i l. smallest_on i (eq-or-lt_of_le (le_of_suc-le-suc l));
          closed = λ i l t m. met_on (end t) (f.closed i l t (subst (λ (x : X). Memᴰ t (leaving x)) (same i (omega arith)).0 m));
          pending = λ t l m. pending_on t (f.pending t h (subst (λ (x : X). Memᴰ t (leaving x)) (same head h).0 m));
          found_by = λ j z l. found_on j z (eq-or-lt_of_le (le_of_suc-le-suc l));
        }
          where
            met_on : (x : X) → Met tail point x → Met (suc tail) point' x
            met_on x a = (a.0, omega (arith, a.1), (same a.0 a.1).0 ∙ a.2)

            pending_on : (t : R) → Due t ⊎ Met tail point (end t) → Due t ⊎ Met (suc tail) point' (end t)
            pending_on t (inl d) = inl d
            pending_on t (inr k) = inr (met_on (end t) k)

            behind_on : (i : ℕ) → (i ≡ tail) ⊎ (i < tail) → Back s (point' i) (way' i)
            behind_on i (inl e) =
                subst (λ (k : ℕ). Back s (point' k) (way' k)) (sym e)
                (subst (Back s (point' tail)) (sym w) (onward (point head) (point' tail) (way head) r (f.behind head h) leaves (sym p)))
            behind_on i (inr l) = subst (Back s (point' i)) (sym (same i l).1) (subst (λ (x : X). Back s x (way i)) (sym (same i l).0) (f.behind i l))

            sorted_on : (i j : ℕ) → i < j → (j ≡ tail) ⊎ (j < tail) → Ahead (way' i) (way' j)
            sorted_on i j l (inl e) =
                let n : i < tail = omega arith in
                subst (Ahead (way' i)) (sym (ap way' e ∙ w)) (subst (λ (us : List R). Ahead us new) (sym (same i n).1) (sooner i n))
            sorted_on i j l (inr k) =
                subst (Ahead (way' i)) (sym (same j k).1) (subst (λ (us : List R). Ahead us (way j)) (sym (same i (omega arith)).1) (f.sorted i j l k))

            only_new : (x : X) (rs : List R) → x ≡ end r → Met tail point x ⊎ UpTo new rs → UpTo new rs
            only_new x rs e (inl a) = absurd (fresh (a.0, a.1, a.2 ∙ e))
            only_new x rs e (inr u) = u

            smallest_on : (i : ℕ) → (i ≡ tail) ⊎ (i < tail) → (rs : List R) → Back s (point' i) rs → UpTo (way' i) rs
            smallest_on i (inl e) rs b = subst (λ (us : List R). UpTo us rs) (sym (ap way' e ∙ w)) (only_new (point' i) rs (ap point' e ∙ p) (beyond (point' i) rs b))
            smallest_on i (inr l) rs b =
                subst (λ (us : List R). UpTo us rs) (sym (same i l).1) (f.smallest i l rs (subst (λ (x : X). Back s x rs) (same i l).0 b))

            found_on : (j : ℕ) → 0 < j → (j ≡ tail) ⊎ (j < tail) → (t : R) × (k : ℕ) × (k ≤ head) × (way' j ≡ t ∷ way' k) × (k ≡ head → (u : R) → Due u → Before (key u) (key t) → ⊥)
            found_on j z (inl e) = (r, head, omega arith, ap way' e ∙ w ∙ ap (λ (us : List R). r ∷ us) (sym (same head h).1), λ q u d. low u d)
            found_on j z (inr l) =
                let a = f.found_by j z l in
                (a.0, a.1, a.2, (same j l).1 ∙ a.3 ∙ ap (λ (us : List R). a.0 ∷ us) (sym (same a.1 (omega (arith, a.2))).1), a.4)
