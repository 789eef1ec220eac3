-- A model that stands in the buffer is the definition's: its nodes and edges by the states' order, their bytes, and how many edges there are.
-- Its theorems that rest on a definition which a must-fail edit turns stand in proofs/Theorems/Listing/Laws.
use Rattle.std.specs.Prelude.{◌≡◌, ◌⊎◌, Bool, List, [], ◌∷◌, ◌++◌, length}
use Rattle.std.proofs.Math.Path.{refl, ap}
use Rattle.std.proofs.Common.{sym, ap₂, subst, ◌∙◌, arith, ltb→lt, lt→ltb, length-append}
use Rattle.std.proofs.Math.Logic.{inl, inr}
use Rattle.std.proofs.Math.Bool.{true, false, cond}
use Prim.Native.Nat.{ℕ, zero, suc, ◌+◌, ◌*◌, ◌/◌, ◌≤◌, ◌<◌}
use Rattle.std.proofs.Math.Decide.{ℕ_discrete}
use Rattle.std.proofs.Math.Dec.{T, ltb}
use Rattle.files.specs.Basics.Lists.{put, keep, each, each_append, span, span_more, each_more, length_each}
use Rattle.files.specs.Basics.Tables.{tally, tally_le, length_span}
use Rattle.files.specs.Basics.Tests.{one, T_eq}
use Rattle.files.specs.Decode.{node_rec}
use Rattle.files.specs.Interface.{Interface}
use Rattle.files.specs.Places.{record_len}
use Rattle.files.specs.Property.{Row, Property}
use Rattle.files.specs.Record.{six}
use Rattle.maximal.specs.Charting.{kind_at, order_at, Arranged, in_order}
use Rattle.maximal.specs.Charting.States.{one_flag}
use Rattle.maximal.specs.Listing.{leads, tally_under, tally_from, tally_upto, node_bytes, under_bytes, from_bytes}
use Rattle.maximal.specs.Model.Listed.{made_node}
use Rattle.maximal.specs.Places.{max_states}

-- ---- lists over a span

pub each_same : {B : Type 0} (f g : ℕ → List B) (a n : ℕ) → ((i : ℕ) → a ≤ i → i < a + n → f i ≡ g i) → each f (span a n) ≡ each g (span a n)
each_same f g a zero h = refl
each_same f g a (suc n) h = ap₂ ◌++◌ (h a (omega arith) (omega arith)) (each_same f g (suc a) n (λ i x y. h i (omega arith) (omega arith)))

module _ {A B : Type 0} where
  pub each_each : (f : A → List B) (g : ℕ → List A) (xs : List ℕ) → each f (each g xs) ≡ each (λ (x : ℕ). each f (g x)) xs
  each_each f g [] = refl
  each_each f g (x ∷ xs) = each_append f (g x) (each g xs) ∙ ap (λ (ys : List B). each f (g x) ++ ys) (each_each f g xs)

pub keep_same : (p q : ℕ → Bool) (a n : ℕ) → ((i : ℕ) → a ≤ i → i < a + n → p i ≡ q i) → keep p (span a n) ≡ keep q (span a n)
keep_same p q a zero h = refl
keep_same p q a (suc n) h = ap₂ (λ (b : Bool) (ys : List ℕ). put b a ys) (h a (omega arith) (omega arith)) (keep_same p q (suc a) n (λ i x y. h i (omega arith) (omega arith)))

keep_append : (p : ℕ → Bool) (xs ys : List ℕ) → keep p (xs ++ ys) ≡ keep p xs ++ keep p ys
keep_append p [] ys = refl
keep_append p (x ∷ xs) ys = ap (put (p x) x) (keep_append p xs ys) ∙ go (p x)
  where
    go : (b : Bool) → put b x (keep p xs ++ keep p ys) ≡ put b x (keep p xs) ++ keep p ys
    go true = refl
    go false = refl

-- one number more
pub keep_more : (p : ℕ → Bool) (n : ℕ) → keep p (span 0 (suc n)) ≡ keep p (span 0 n) ++ put (p n) n []
keep_more p n = let e : 0 + n ≡ n = omega arith in ap (keep p) (span_more 0 n ∙ ap (λ (i : ℕ). span 0 n ++ i ∷ []) e) ∙ keep_append p (span 0 n) (n ∷ [])

-- as many as the test tallies
pub keep_tally : (p : ℕ → Bool) (n : ℕ) → length (keep p (span 0 n)) ≡ tally p n
keep_tally p zero = refl
keep_tally p (suc n) = ap length (keep_more p n) ∙ length-append (keep p (span 0 n)) (put (p n) n []) ∙ omega (arith, keep_tally p n, go (p n))
  where
    go : (b : Bool) → length (put b n []) ≡ one b
    go true = refl
    go false = refl

-- ---- in the buffer

-- the bytes of the first n nodes
module _ (w : List ℕ) where
  abbrev pub nodes_bytes : ℕ → List ℕ
  nodes_bytes n = each (node_bytes w) (span 0 n)

  pub nodes_more : (n : ℕ) → nodes_bytes (suc n) ≡ nodes_bytes n ++ node_bytes w n
  nodes_more n = each_more (node_bytes w) n

  pub nodes_length : (n : ℕ) → length (nodes_bytes n) ≡ record_len * n
  nodes_length n = omega (arith, length_each 6 (node_bytes w) (λ i. refl) (span 0 n), length_span 0 n)

module _ (w : List ℕ) (c : ℕ) where
  pub from_more : (i n : ℕ) → from_bytes w c i (suc n) ≡ from_bytes w c i n ++ under_bytes w c i n
  from_more i n = each_more (under_bytes w c i) n

  pub tally_from_more : (i n : ℕ) → tally_from w c i (suc n) ≡ tally_from w c i n + tally_under w c i n
  unfolding tally_from
  tally_from_more i n = refl

  pub tally_from_none : (i : ℕ) → tally_from w c i 0 ≡ 0
  unfolding tally_from
  tally_from_none i = refl

  -- at most 256 states follow under a label
  pub tally_from_le : (i n : ℕ) → c ≤ max_states → tally_from w c i n ≤ max_states * n
  tally_from_le i zero h = omega (arith, tally_from_none i)
  tally_from_le i (suc n) h = omega (arith, tally_from_more i n, tally_le (leads w i n) c, tally_from_le i n h)

  -- the bytes of all edges of the first n states, and how many these are
  abbrev pub edges_bytes : ℕ → List ℕ
  edges_bytes n = each (λ (i : ℕ). from_bytes w c i 9) (span 0 n)

  pub edges_more : (n : ℕ) → edges_bytes (suc n) ≡ edges_bytes n ++ from_bytes w c n 9
  edges_more n = each_more (λ (i : ℕ). from_bytes w c i 9) n

  pub under_length : (i l : ℕ) → length (under_bytes w c i l) ≡ record_len * tally_under w c i l
  under_length i l = length_each 6 (λ (j : ℕ). 2 ∷ i ∷ l ∷ j ∷ 0 ∷ 0 ∷ []) (λ j. refl) (keep (leads w i l) (span 0 c)) ∙ ap (λ (n : ℕ). record_len * n) (keep_tally (leads w i l) c)

  pub from_length : (i n : ℕ) → length (from_bytes w c i n) ≡ record_len * tally_from w c i n
  from_length i zero = omega (arith, tally_from_none i)
  from_length i (suc n) = ap length (from_more i n) ∙ length-append (from_bytes w c i n) (under_bytes w c i n) ∙ omega (arith, from_length i n, under_length i n, tally_from_more i n)

  abbrev pub total : ℕ → ℕ
  total zero = 0
  total (suc n) = total n + tally_from w c n 9

  pub edges_length : (n : ℕ) → length (edges_bytes n) ≡ record_len * total n
  edges_length zero = refl
  edges_length (suc n) = ap length (edges_more n) ∙ length-append (edges_bytes n) (from_bytes w c n 9) ∙ omega (arith, edges_length n, from_length n 9)

  -- counting stops with more than the limit, or with all
  pub upto_is : (limit n : ℕ) → (tally_upto w c limit n ≡ total n) ⊎ ((limit < tally_upto w c limit n) × (tally_upto w c limit n ≤ total n))
  unfolding tally_upto
  upto_is limit zero = inl refl
  upto_is limit (suc n) = go (ltb limit (tally_upto w c limit n)) refl (upto_is limit n)
    where
      go : (b : Bool) → ltb limit (tally_upto w c limit n) ≡ b → (tally_upto w c limit n ≡ total n) ⊎ ((limit < tally_upto w c limit n) × (tally_upto w c limit n ≤ total n))
          → (cond b (tally_upto w c limit n) (tally_upto w c limit n + tally_from w c n 9) ≡ total (suc n))
          ⊎ ((limit < cond b (tally_upto w c limit n) (tally_upto w c limit n + tally_from w c n 9)) × (cond b (tally_upto w c limit n) (tally_upto w c limit n + tally_from w c n 9) ≤ total (suc n)))
      go true e (inl d) = inr (ltb→lt limit (tally_upto w c limit n) (subst T (sym e) tt), omega (arith, d))
      go true e (inr d) = inr (d.0, omega (arith, d.1))
      go false e (inl d) = inl (ap (λ (m : ℕ). m + tally_from w c n 9) d)
      go false e (inr d) = absurd (subst T e (lt→ltb limit (tally_upto w c limit n) d.0))

  pub upto_none : (limit : ℕ) → tally_upto w c limit 0 ≡ 0
  unfolding tally_upto
  upto_none limit = refl

  pub upto_over : (limit n : ℕ) → limit < tally_upto w c limit n → tally_upto w c limit (suc n) ≡ tally_upto w c limit n
  unfolding tally_upto
  upto_over limit n h = ap (λ (b : Bool). cond b (tally_upto w c limit n) (tally_upto w c limit n + tally_from w c n 9)) (T_eq (ltb limit (tally_upto w c limit n)) (lt→ltb limit (tally_upto w c limit n) h))

  pub upto_stays : (limit n m : ℕ) → n ≤ m → limit < tally_upto w c limit n → tally_upto w c limit m ≡ tally_upto w c limit n
  upto_stays limit n zero h l = let e : 0 ≡ n = omega arith in ap (tally_upto w c limit) e
  upto_stays limit n (suc m) h l = go (λ k. upto_stays limit n m k l) (ℕ_discrete (suc m) n)
    where
      go : (n ≤ m → tally_upto w c limit m ≡ tally_upto w c limit n) → Dec (suc m ≡ n) → tally_upto w c limit (suc m) ≡ tally_upto w c limit n
      go f (yes e) = ap (tally_upto w c limit) e
      go f (no d) = let e = f (omega arith) in upto_over limit m (omega (arith, l, e)) ∙ e

  pub upto_more : (limit n : ℕ) → ltb limit (tally_upto w c limit n) ≡ false → tally_upto w c limit (suc n) ≡ tally_upto w c limit n + tally_from w c n 9
  unfolding tally_upto
  upto_more limit n e = ap (λ (b : Bool). cond b (tally_upto w c limit n) (tally_upto w c limit n + tally_from w c n 9)) e

-- ---- the definition's graph

module _ (I : Interface) (P : List Row) (wf : Property P) (c : ℕ) (w : List ℕ) (x : Arranged I P c w) where
  pub node_is : (i : ℕ) → i < c → six (node_rec (made_node I P (in_order I P w i))) ≡ node_bytes w i
  node_is i h =
      ap₂ (λ (f e : ℕ). 1 ∷ kind_at w (order_at w i) / 2 ∷ f ∷ e ∷ 0 ∷ 0 ∷ []) (one_flag (kind_at w (order_at w i))) (ap one (sym (x.charted.entries_are (order_at w i) (x.ordered.below i h))))
