-- Of all paths from x to a bad point: one with the fewest records and, of those, the smallest by key, a list of numbers. States: the best path is one, none is shorter, and none as short comes before it.
use Rattle.std.specs.Prelude.{◌≡◌, refl, ◌⊎◌, Bool, true, false, not, cond, ◌||◌, leb, length}
use Rattle.std.proofs.Common.{sym, ap, subst, ◌∙◌, inl, inr, suc-ne-zero, leb→le, T_not}
use mathlib.Core.List.Memᴰ
use mathlib.Core.List.{List, [], ◌∷◌, Memᴰ}
use Prim.Native.Nat.{ℕ, zero, suc, ◌≤◌, ◌<◌}
use Rattle.std.proofs.Math.Nat.{suc_inj}
use native.Mathlib.Omega.{arith}
use Rattle.std.proofs.Math.Dec.{T, nleb→lt}
use Rattle.files.specs.Basics.Tests.{any, any_i, any_e, any_map, or_e, or_l, or_r, or_map, decide}
use Rattle.files.specs.Basics.Settle.{Below, grown}
use Rattle.files.specs.Basics.Lists.{keep, keep_i, keep_e, each}
use Rattle.files.specs.Basics.Least.{least, least_passes, least_before}
use Rattle.files.specs.Basics.Lexical.{before, Before, says_before, before_irrefl, before_trans, before_total, not_before_trans, before_parts}

module _ {X R : Type 0} (leaving : X → List R) (end : R → X) (key : R → List ℕ) (bad : X → Bool) where
  -- the records of a path from x that ends at a bad point
  pub data To : X → List R → Type 0 where
    there : (x : X) → T (bad x) → To x []
    by : (x : X) (r : R) (rs : List R) → Memᴰ r (leaving x) → To (end r) rs → To x (r ∷ rs)

  -- no later by key, record by record
  pub data UpTo : List R → List R → Type 0 where
    same_end : UpTo [] []
    lower : (r s : R) (rs ss : List R) → Before (key r) (key s) → UpTo (r ∷ rs) (s ∷ ss)
    equal : (r s : R) (rs ss : List R) → key r ≡ key s → UpTo rs ss → UpTo (r ∷ rs) (s ∷ ss)

  -- a path of k records leads from x to a bad point
  abbrev pub ways : ℕ → X → Bool
  ways zero x = bad x
  ways (suc k) x = any (λ r. ways k (end r)) (leaving x)

  -- the record of least key of r ∷ rs, ties to the earliest
  abbrev pub lowest : R → List R → R
  lowest r [] = r
  lowest r (s ∷ ss) = lowest (cond (before (key s) (key r)) s r) ss

  abbrev pub taking : (R → List R) → List R → List R
  taking f [] = []
  taking f (r ∷ rs) = let b = lowest r rs in b ∷ f b

  -- the path of k records: at each point the record of least key from whose end the rest can be done
  abbrev pub walk : ℕ → X → List R
  walk zero x = []
  walk (suc k) x = taking (λ r. walk k (end r)) (keep (λ r. ways k (end r)) (leaving x))

  -- ---- the lowest

  lowest_in : (r : R) (rs : List R) → Memᴰ (lowest r rs) (r ∷ rs)
  lowest_in r [] = Memᴰ.head refl
  lowest_in r (s ∷ ss) = go (before (key s) (key r)) (λ q. lowest_in q ss)
    where
      up : (q : R) → (q ≡ r) ⊎ (q ≡ s) → (x : R) → (x ≡ q) ⊎ Memᴰ x ss → Memᴰ x (r ∷ s ∷ ss)
      up q (inl e) x (inl d) = Memᴰ.head (d ∙ e)
      up q (inr e) x (inl d) = Memᴰ.tail (Memᴰ.head (d ∙ e))
      up q e x (inr m) = Memᴰ.tail (Memᴰ.tail m)

      go : (b : Bool) → ((q : R) → Memᴰ (lowest q ss) (q ∷ ss)) → Memᴰ (lowest (cond b s r) ss) (r ∷ s ∷ ss)
      go true f = up s (inr refl) (lowest s ss) (Memᴰ.cases_cons (f s))
      go false f = up r (inl refl) (lowest r ss) (Memᴰ.cases_cons (f r))

  -- x's key is not before r's
  abbrev Low : R → R → Type 0
  Low r x = Before (key x) (key r) → ⊥

  module _ (one_size : (r s : R) → length (key r) ≡ length (key s)) where
    low_trans : (q r x : R) → Low q r → Low r x → Low q x
    low_trans q r x f g = not_before_trans (key q) (key r) (key x) (one_size r q) f g

    lowest_low : (r : R) (rs : List R) (x : R) → Memᴰ x (r ∷ rs) → Low (lowest r rs) x
    lowest_low r [] x m = go (Memᴰ.cases_cons m)
      where
        go : (x ≡ r) ⊎ Memᴰ x [] → Low r x
        go (inl e) = subst (λ (y : R). Low r y) (sym e) (before_irrefl (key r))
        go (inr k) = absurd (Memᴰ.not-nil k)
    lowest_low r (s ∷ ss) x m = pick (before (key s) (key r)) refl (λ q y k. lowest_low q ss y k)
      where
        at : (q : R) → Low q r → Low q s → ((y : R) → Memᴰ y (q ∷ ss) → Low (lowest q ss) y) → (x ≡ r) ⊎ Memᴰ x (s ∷ ss) → Low (lowest q ss) x
        at q h k f (inl e) = subst (λ (y : R). Low (lowest q ss) y) (sym e) (low_trans (lowest q ss) q r (f q (Memᴰ.head refl)) h)
        at q h k f (inr n) = on (Memᴰ.cases_cons n)
          where
            on : (x ≡ s) ⊎ Memᴰ x ss → Low (lowest q ss) x
            on (inl e) = subst (λ (y : R). Low (lowest q ss) y) (sym e) (low_trans (lowest q ss) q s (f q (Memᴰ.head refl)) k)
            on (inr j) = f x (Memᴰ.tail j)

        pick : (b : Bool) → before (key s) (key r) ≡ b → ((q y : R) → Memᴰ y (q ∷ ss) → Low (lowest q ss) y) → Low (lowest (cond b s r) ss) x
        pick true e f =
            let h : Before (key s) (key r) = (says_before (key s) (key r)).say (subst T (sym e) tt) in
            at s (λ b. before_irrefl (key s) (before_trans (key s) (key r) (key s) h b)) (before_irrefl (key s)) (f s) (Memᴰ.cases_cons m)
        pick false e f =
            at r (before_irrefl (key r)) (λ b. subst T e ((says_before (key s) (key r)).hear b)) (f r) (Memᴰ.cases_cons m)

  -- what is no later record by record is no later as one string
  up_to_string : ((r s : R) → length (key r) ≡ length (key s)) → (rs ss : List R) → UpTo rs ss → Before (each key ss) (each key rs) → ⊥
  up_to_string one_size rs ss same_end b = b
  up_to_string one_size rs ss (lower r s rs' ss' l) b = go (before_parts (key s) (key r) _ _ (one_size s r) b)
    where
      go : Before (key s) (key r) ⊎ ((key s ≡ key r) × Before (each key ss') (each key rs')) → ⊥
      go (inl c) = before_irrefl (key s) (before_trans (key s) (key r) (key s) c l)
      go (inr c) = before_irrefl (key r) (subst (Before (key r)) c.0 l)
  up_to_string one_size rs ss (equal r s rs' ss' q u) b = go (before_parts (key s) (key r) _ _ (one_size s r) b) (up_to_string one_size rs' ss' u)
    where
      go : Before (key s) (key r) ⊎ ((key s ≡ key r) × Before (each key ss') (each key rs')) → (Before (each key ss') (each key rs') → ⊥) → ⊥
      go (inl c) f = before_irrefl (key s) (subst (Before (key s)) q c)
      go (inr c) f = f c.1

  -- ---- paths and ways

  pub to_ways : (x : X) (rs : List R) → To x rs → T (ways (length rs) x)
  to_ways x rs (there x' t) = t
  to_ways x rs (by x' r ss m p) = any_i (λ r. ways (length ss) (end r)) (leaving x') r m (to_ways (end r) ss p)

  pub walk_to : (k : ℕ) (x : X) → T (ways k x) → To x (walk k x) × (length (walk k x) ≡ k)
  walk_to zero x t = (there x t, refl)
  walk_to (suc k) x t =
      let a = any_e (λ r. ways k (end r)) (leaving x) t in
      go (keep (λ r. ways k (end r)) (leaving x)) (λ y m. keep_e (λ r. ways k (end r)) (leaving x) y m)
      (a.0, keep_i (λ r. ways k (end r)) (leaving x) a.0 a.1 a.2) (λ r s. walk_to k (end r) s)
    where
      go : (cs : List R) → ((y : R) → Memᴰ y cs → Memᴰ y (leaving x) × T (ways k (end y))) → (r : R) × Memᴰ r cs
          → ((r : R) → T (ways k (end r)) → To (end r) (walk k (end r)) × (length (walk k (end r)) ≡ k))
          → To x (taking (λ r. walk k (end r)) cs) × (length (taking (λ r. walk k (end r)) cs) ≡ suc k)
      go [] f c ih = absurd (Memᴰ.not-nil c.1)
      go (r ∷ rs) f c ih =
          let b = lowest r rs in
          let g = f b (lowest_in r rs) in
          let i = ih b g.1 in
          (by x b (walk k (end b)) g.0 i.0, ap suc i.1)

  -- at the points that are met, equal keys of records from one point mean one end
  module _ (one_size : (r s : R) → length (key r) ≡ length (key s)) (met : X → Type 0) (met_on : (x : X) → met x → (r : R) → Memᴰ r (leaving x) → met (end r))
      (one_end : (x : X) → met x → (r s : R) → Memᴰ r (leaving x) → Memᴰ s (leaving x) → key r ≡ key s → end r ≡ end s) where
    -- of the paths of its length the walk is the first
    pub walk_first : (k : ℕ) (x : X) → met x → (rs : List R) → To x rs → length rs ≡ k → UpTo (walk k x) rs
    walk_first zero x a rs (there x' t) e = same_end
    walk_first zero x a rs (by x' r ss m p) e = absurd (suc-ne-zero (length ss) e)
    walk_first (suc k) x a rs (there x' t) e = absurd (suc-ne-zero k (sym e))
    walk_first (suc k) x a rs (by x' r ss m p) e =
        let w = subst (λ (n : ℕ). T (ways n (end r))) (suc_inj e) (to_ways (end r) ss p) in
        go (keep (λ r. ways k (end r)) (leaving x)) (λ y n. (keep_e (λ r. ways k (end r)) (leaving x) y n).0)
        (keep_i (λ r. ways k (end r)) (leaving x) r m w) (walk_first k (end r) (met_on x a r m) ss p (suc_inj e))
      where
        go : (cs : List R) → ((y : R) → Memᴰ y cs → Memᴰ y (leaving x)) → Memᴰ r cs → UpTo (walk k (end r)) ss
            → UpTo (taking (λ r. walk k (end r)) cs) (r ∷ ss)
        go [] f c ih = absurd (Memᴰ.not-nil c)
        go (q ∷ qs) f c ih = on (before_total (key r) (key (lowest q qs)) (one_size r (lowest q qs)) (lowest_low one_size q qs r c))
          where
            on : Before (key (lowest q qs)) (key r) ⊎ (key r ≡ key (lowest q qs)) → UpTo (lowest q qs ∷ walk k (end (lowest q qs))) (r ∷ ss)
            on (inl l) = lower (lowest q qs) r _ ss l
            on (inr d) =
                equal (lowest q qs) r _ ss (sym d)
                (subst (λ (y : X). UpTo (walk k y) ss) (sym (one_end x a (lowest q qs) r (f (lowest q qs) (lowest_in q qs)) m (sym d))) ih)

  -- ---- among the points xs, which no record leaves, a path need have no more records than there are points

  soon : ℕ → X → Bool
  soon zero x = false
  soon (suc k) x = bad x || any (λ r. soon k (end r)) (leaving x)

  soon_ways : (k : ℕ) (x : X) → T (soon k x) → (j : ℕ) × (j < k) × T (ways j x)
  unfolding soon
  soon_ways zero x t = absurd t
  soon_ways (suc k) x t = go (or_e (bad x) _ t) (λ r s. soon_ways k (end r) s)
    where
      go : T (bad x) ⊎ T (any (λ r. soon k (end r)) (leaving x)) → ((r : R) → T (soon k (end r)) → (j : ℕ) × (j < k) × T (ways j (end r)))
          → (j : ℕ) × (j < suc k) × T (ways j x)
      go (inl b) ih = (zero, omega arith, b)
      go (inr b) ih =
          let a = any_e (λ r. soon k (end r)) (leaving x) b in
          let i = ih a.0 a.2 in
          (suc i.0, omega arith, any_i (λ r. ways i.0 (end r)) (leaving x) a.0 a.1 i.2)

  ways_soon : (k : ℕ) (x : X) → T (ways k x) → T (soon (suc k) x)
  unfolding soon
  ways_soon zero x t = or_l (bad x) _ t
  ways_soon (suc k) x t =
      let a = any_e (λ r. ways k (end r)) (leaving x) t in
      or_r (bad x) _ (any_i (λ r. soon (suc k) (end r)) (leaving x) a.0 a.1 (ways_soon k (end a.0) a.2))

  module _ (xs : List X) (stays_in : (x : X) → Memᴰ x xs → (r : R) → Memᴰ r (leaving x) → Memᴰ (end r) xs) where
    soon_start : (x : X) → Memᴰ x xs → T (not (soon zero x))
    unfolding soon
    soon_start x m = tt

    soon_mono : (j k : ℕ) → Below xs (soon j) (soon k) → Below xs (soon (suc j)) (soon (suc k))
    unfolding soon
    soon_mono j k b x m =
        or_map (bad x) (any (λ r. soon j (end r)) (leaving x)) (bad x) (any (λ r. soon k (end r)) (leaving x)) (λ t. t)
        (any_map (λ r. soon j (end r)) (λ r. soon k (end r)) (leaving x) (leaving x) (λ r n t. (n, b (end r) (stays_in x m r n) t)))

    pub short_way : (x : X) → Memᴰ x xs → (k : ℕ) → T (ways k x) → (j : ℕ) × (j < length xs) × T (ways j x)
    short_way x m k t = soon_ways (length xs) x (grown xs soon soon_start soon_mono (suc k) x m (ways_soon k x t))

  -- ---- the best path, where there is one of at most n records

  abbrev pub best : ℕ → X → List R
  best n x = walk (least (λ k. ways k x) (suc n)) x

  module _ (n : ℕ) (x : X) (k : ℕ) (short : k ≤ n) (way : T (ways k x)) where
    pub best_to : To x (best n x)
    best_to = (walk_to (least (λ k. ways k x) (suc n)) x (least_passes (λ k. ways k x) (suc n) k (omega arith) way)).0

    best_length : length (best n x) ≡ least (λ k. ways k x) (suc n)
    best_length = (walk_to (least (λ k. ways k x) (suc n)) x (least_passes (λ k. ways k x) (suc n) k (omega arith) way)).1

    -- no path to a bad point has fewer records
    pub best_fewest : (rs : List R) → To x rs → length (best n x) ≤ length rs
    best_fewest rs p = go (decide (leb (length (best n x)) (length rs)))
      where
        go : T (leb (length (best n x)) (length rs)) ⊎ T (not (leb (length (best n x)) (length rs))) → length (best n x) ≤ length rs
        go (inl t) = leb→le (length (best n x)) (length rs) t
        go (inr t) =
            absurd (T_not (ways (length rs) x) (least_before (λ k. ways k x) (suc n) (length rs) (omega (arith, best_length, nleb→lt (length (best n x)) (length rs) t))) (to_ways x rs p))

    -- and of those with as few, none comes before it, the keys of a path read as one string
    pub best_first : ((r s : R) → length (key r) ≡ length (key s)) → (met : X → Type 0) → ((x : X) → met x → (r : R) → Memᴰ r (leaving x) → met (end r))
        → ((x : X) → met x → (r s : R) → Memᴰ r (leaving x) → Memᴰ s (leaving x) → key r ≡ key s → end r ≡ end s)
        → met x → (rs : List R) → To x rs → length rs ≡ length (best n x) → Before (each key rs) (each key (best n x)) → ⊥
    best_first one_size met met_on one_end a rs p e =
        up_to_string one_size (best n x) rs (walk_first one_size met met_on one_end (least (λ k. ways k x) (suc n)) x a rs p (e ∙ best_length))
