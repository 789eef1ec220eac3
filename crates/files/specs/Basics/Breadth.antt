-- The breadth first list is in order of distance from its start. Assumes nothing.
use Rattle.std.specs.Prelude.{◌≡◌, refl, ◌⊎◌, Bool, ℕ, zero, suc, ◌≤◌, T, length}
use Rattle.std.proofs.Common.{sym, subst, inl, inr, arith}
use mathlib.Core.List.Memᴰ
use mathlib.Core.List.{List, [], ◌∷◌, ◌++◌, Memᴰ}
use Rattle.std.proofs.Math.Decide.{dec_le}
use Rattle.files.specs.Basics.Queue.{fresh, fresh_e, walk, breadth_first, From, Sound, one_on, at_first}
use Rattle.files.specs.Basics.Order.{Ascends, ascends_append}

module _ {X : Type 0} (next : X → List X) (s : X) where
  -- x is reached from s in k steps
  pub data Way : ℕ → X → Type 0 where
    now : Way 0 s
    later : (k : ℕ) (x y : X) → Way k x → Memᴰ y (next x) → Way (suc k) y

  -- x is no farther from s than y
  abbrev pub Nearer : X → X → Type 0
  Nearer x y = (k : ℕ) → Way k y → (j : ℕ) × (j ≤ k) × Way j x

  -- x is d steps from s, and no fewer
  abbrev pub Exact : ℕ → X → Type 0
  Exact d x = Way d x × ((k : ℕ) → Way k x → d ≤ k)

  level_ascends : (d : ℕ) (ys : List X) → ((y : X) → Memᴰ y ys → Exact d y) → Ascends Nearer ys
  level_ascends d [] f = tt
  level_ascends d (y ∷ ys) f =
      (λ z m k w. (d, (f z (Memᴰ.tail m)).1 k w, (f y (Memᴰ.head refl)).0), level_ascends d ys (λ z m. f z (Memᴰ.tail m)))

module _ {X : Type 0} (same : X → X → Bool) (same_e : (x y : X) → T (same x y) → x ≡ y) (same_refl : (x : X) → T (same x x))
    (next : X → List X) (s : X) (ps : List X) (met_in : (x : X) → From same next s x → Memᴰ x ps) where
  record Ordered (seen queue : List X) (k : ℕ) : Type 0 where
    sound : Sound same same_e same_refl next s ps met_in seen queue k
    has_start : Memᴰ s seen
    seen_order : Ascends (Nearer next s) seen
    queue_order : Ascends (Nearer next s) queue
    exact : (x : X) → Memᴰ x queue → (d : ℕ) × Way next s d x × ((k : ℕ) → Way next s k x → d ≤ k)
    close : (x z : X) → Memᴰ x queue → Memᴰ z seen → (d : ℕ) → Way next s d x → (j : ℕ) × (j ≤ suc d) × Way next s j z

  -- what is as near as all that waits is seen
  complete : (seen queue : List X) (n : ℕ) → Ordered seen queue n → (d : ℕ) → ((x : X) → Memᴰ x queue → (k : ℕ) → Way next s k x → d ≤ k)
      → (j : ℕ) (z : X) → Way next s j z → j ≤ d → Memᴰ z seen
  complete seen queue n o d f j z now h = o.has_start
  complete seen queue n o d f j z (later k x y w m) h =
      go (o.sound.named x (complete seen queue n o d f k x w (omega arith)))
    where
      go : Memᴰ x queue ⊎ ((y : X) → Memᴰ y (next x) → Memᴰ y seen) → Memᴰ y seen
      go (inl q) = let i = f x q k w in absurd (omega arith)
      go (inr g) = g y m

  one_ordered : (seen : List X) (x : X) (queue : List X) (n : ℕ) → Ordered seen (x ∷ queue) (suc n)
      → Ordered (seen ++ fresh same seen (next x)) (queue ++ fresh same seen (next x)) n
  one_ordered seen x queue n o = record {
    sound = one_on same same_e same_refl next s ps met_in seen x queue n o.sound;
    has_start = Memᴰ.append_left ys o.has_start;
    seen_order = ascends_append (Nearer next s) seen ys o.seen_order (level_ascends next s (suc d) ys new) (λ z y m i. before z y m i);
    queue_order = ascends_append (Nearer next s) queue ys o.queue_order.1 (level_ascends next s (suc d) ys new)
        (λ z y m i. before z y (o.sound.waiting z (Memᴰ.tail m)) i);
    exact = λ y m. exact_on y (Memᴰ.append_cases queue m);
    close = λ y z m i. close_on y z (Memᴰ.append_cases queue m) (Memᴰ.append_cases seen i);
  }
    where
      ys : List X
      ys = fresh same seen (next x)

      head_exact : (d : ℕ) × Way next s d x × ((k : ℕ) → Way next s k x → d ≤ k)
      head_exact = o.exact x (Memᴰ.head refl)

      d : ℕ
      d = head_exact.0

      -- nothing that waits is nearer than x
      far : (y : X) → Memᴰ y (x ∷ queue) → (k : ℕ) → Way next s k y → d ≤ k
      far y m k w = go (Memᴰ.cases_cons m)
        where
          go : (y ≡ x) ⊎ Memᴰ y queue → d ≤ k
          go (inl e) = head_exact.2 k (subst (Way next s k) e w)
          go (inr i) = let a = o.queue_order.0 y i k w in let b = head_exact.2 a.0 a.2 in omega (arith, a.1)

      new : (y : X) → Memᴰ y ys → Way next s (suc d) y × ((k : ℕ) → Way next s k y → suc d ≤ k)
      new y m =
          let a = fresh_e same same_e same_refl seen (next x) y m in
          (later d x y head_exact.1 a.0, λ k w. go a.1 k w (dec_le (suc d) k))
        where
          go : (¬ Memᴰ y seen) → (k : ℕ) → Way next s k y → Dec (suc d ≤ k) → suc d ≤ k
          go g k w (yes h) = h
          go g k w (no h) = absurd (g (complete seen (x ∷ queue) (suc n) o d far k y w (omega arith)))

      before : (z y : X) → Memᴰ z seen → Memᴰ y ys → Nearer next s z y
      before z y m i k w =
          let a = o.close x z (Memᴰ.head refl) m d head_exact.1 in let b = (new y i).1 k w in (a.0, omega (arith, a.1), a.2)

      exact_on : (y : X) → Memᴰ y queue ⊎ Memᴰ y ys → (e : ℕ) × Way next s e y × ((k : ℕ) → Way next s k y → e ≤ k)
      exact_on y (inl m) = o.exact y (Memᴰ.tail m)
      exact_on y (inr m) = let a = new y m in (suc d, a.0, a.1)

      close_on : (y z : X) → Memᴰ y queue ⊎ Memᴰ y ys → Memᴰ z seen ⊎ Memᴰ z ys → (e : ℕ) → Way next s e y → (j : ℕ) × (j ≤ suc e) × Way next s j z
      close_on y z (inl m) (inl i) e w = o.close y z (Memᴰ.tail m) i e w
      close_on y z (inl m) (inr i) e w = let a = far y (Memᴰ.tail m) e w in (suc d, omega arith, (new z i).0)
      close_on y z (inr m) (inl i) e w =
          let a = o.close x z (Memᴰ.head refl) i d head_exact.1 in let b = (new y m).1 e w in (a.0, omega (arith, a.1), a.2)
      close_on y z (inr m) (inr i) e w = let b = (new y m).1 e w in (suc d, omega arith, (new z i).0)

  walk_ordered : (k : ℕ) (seen queue : List X) → Ordered seen queue k → Ascends (Nearer next s) (walk same next k seen queue)
  walk_ordered zero seen queue o = o.seen_order
  walk_ordered (suc k) seen [] o = o.seen_order
  walk_ordered (suc k) seen (x ∷ queue) o = walk_ordered k (seen ++ fresh same seen (next x)) (queue ++ fresh same seen (next x)) (one_ordered seen x queue k o)

  -- No element is farther from the start than one that stands after it.
  pub in_order : Ascends (Nearer next s) (breadth_first same next (length ps) s)
  in_order = walk_ordered (length ps) (s ∷ []) (s ∷ []) (record {
    sound = at_first same same_e same_refl next s ps met_in;
    has_start = Memᴰ.head refl;
    seen_order = (λ y m. absurd (Memᴰ.not-nil m), tt);
    queue_order = (λ y m. absurd (Memᴰ.not-nil m), tt);
    exact = λ x m. only x (Memᴰ.cases_cons m);
    close = λ x z m i d w. near z (Memᴰ.cases_cons i) d;
  })
    where
      only : (x : X) → (x ≡ s) ⊎ Memᴰ x [] → (d : ℕ) × Way next s d x × ((k : ℕ) → Way next s k x → d ≤ k)
      only x (inl e) = (0, subst (Way next s 0) (sym e) now, λ k w. omega arith)
      only x (inr m) = absurd (Memᴰ.not-nil m)

      near : (z : X) → (z ≡ s) ⊎ Memᴰ z [] → (d : ℕ) → (j : ℕ) × (j ≤ suc d) × Way next s j z
      near z (inl e) d = (0, omega arith, subst (Way next s 0) (sym e) now)
      near z (inr m) d = absurd (Memᴰ.not-nil m)
