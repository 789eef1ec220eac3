-- For the code that counts and writes a model: one node, edge, label or state more, in the count and in the bytes written, and that there is room for it.
use mathlib.Core.Path.{◌≡◌, refl, sym, ap, ap₂, ◌∙◌}
use mathlib.Core.Bool.{Bool, true, false}
use mathlib.Core.List.{List, [], ◌∷◌, ◌++◌, append-nil}
use Prim.Native.Nat.{ℕ, zero, suc, ◌+◌, ◌*◌, ◌/◌, ◌%◌, ◌≤◌, ◌<◌}
use native.Mathlib.Decide.{ℕ_discrete}
use native.Mathlib.Numerals.{add-one}
use native.Mathlib.Omega.{arith}
use lib.Dec.{eqb}
use lib.ListN.{length, drop}
use borrow.Author.Tests.{eq-eqb, ne_eqb}
use Rattle.files.specs.Basics.Lists.{put, keep, each, each_append, span}
use Rattle.files.specs.Basics.Tables.{tally}
use Rattle.files.specs.Basics.Tests.{one}
use Rattle.files.specs.Cells.{put_at}
use Rattle.files.specs.Cells.Laws.{put_front, put_after}
use Rattle.files.specs.Cells.Wrote.{Wrote, wrote_more}
use Rattle.files.specs.Decode.{graph_bytes}
use Rattle.files.specs.Interface.{Interface}
use Rattle.files.specs.Places.{record_len}
use Rattle.files.specs.Property.{Row, Property}
use Rattle.files.specs.Record.{node_record, six}
use Rattle.maximal.specs.Charting.{kind_at, target, order_at, Arranged}
use Rattle.maximal.specs.Listing.{leads, tally_under, tally_from, node_bytes, under_bytes, from_bytes}
use Rattle.maximal.specs.Listing.Laws.{keep_more, nodes_bytes, nodes_more, nodes_length, tally_from_more, from_more, from_length, under_length, edges_bytes, edges_more, edges_length, total}
use Rattle.maximal.proofs.Theorems.Listing.Laws.{model_bytes}
use Rattle.maximal.specs.Model.{model}
use Rattle.maximal.specs.Places.{entries_slot}

-- ---- counts

-- one number more
pub tally_more : (p : ℕ → Bool) (j n n' : ℕ) (b : Bool) → b ≡ p j → n ≡ tally p j → n' ≡ n + one b → n' ≡ tally p (j + 1)
tally_more p j n n' b e i d = let s : n' ≡ tally p (suc j) = omega (arith, ap one e, i, d) in s ∙ ap (tally p) (sym (add-one j))

-- .. that does not pass, and one that does
pub tally_pass : (p : ℕ → Bool) (n j : ℕ) → p j ≡ false → n ≡ tally p j → n ≡ tally p (suc j)
tally_pass p n j e i = omega (arith, ap one e, i)

pub tally_on : (p : ℕ → Bool) (n j : ℕ) → p j ≡ true → n ≡ tally p j → n + 1 ≡ tally p (j + 1)
tally_on p n j e i = tally_more p j n (n + 1) true (sym e) i refl

-- a count that never falls
climbs : (f : ℕ → ℕ) → ((n : ℕ) → f n ≤ f (suc n)) → (n m : ℕ) → n ≤ m → f n ≤ f m
climbs f up n zero h = let e : n ≡ 0 = omega arith in omega (arith, ap f e)
climbs f up n (suc m) h = go (climbs f up n m) (ℕ_discrete n (suc m))
  where
    go : (n ≤ m → f n ≤ f m) → Dec (n ≡ suc m) → f n ≤ f (suc m)
    go g (yes e) = omega (arith, ap f e)
    go g (no d) = omega (arith, up m, g (omega arith))

module _ (w : List ℕ) where
  -- ---- nodes

  pub node_of : (i s k : ℕ) (t : Bool) → s ≡ order_at w i → k ≡ kind_at w s → t ≡ target w entries_slot s → six (node_record (k / 2) (eqb (k % 2) 1) t) ≡ node_bytes w i
  node_of i s k t a b d =
      ap (λ (f : ℕ). 1 ∷ k / 2 ∷ f ∷ one t ∷ 0 ∷ 0 ∷ []) (parity k)
      ∙ ap₂ (λ (m o : ℕ). 1 ∷ m / 2 ∷ m % 2 ∷ o ∷ 0 ∷ 0 ∷ []) (b ∙ ap (kind_at w) a) (ap one (d ∙ ap (target w entries_slot) a))
    where
      parity : (n : ℕ) → one (eqb (n % 2) 1) ≡ n % 2
      parity n = go (ℕ_discrete (n % 2) 1)
        where
          go : Dec (n % 2 ≡ 1) → one (eqb (n % 2) 1) ≡ n % 2
          go (yes e) = ap one (eq-eqb (n % 2) 1 e) ∙ sym e
          go (no h) = ap one (ne_eqb (n % 2) 1 h) ∙ (omega arith)

  pub node_on : (out₀ out out' : List ℕ) (n : ℕ) → Wrote out₀ out 0 n (nodes_bytes w n) → out' ≡ put_at out (record_len * n) (node_bytes w n) → length out' ≡ length out → Wrote out₀ out' 0 (n + 1) (nodes_bytes w (n + 1))
  node_on out₀ out out' n x e l = wrote_more out₀ out out' 0 n (n + 1) (nodes_bytes w n) (node_bytes w n) (nodes_bytes w (n + 1)) (omega arith) (ap (nodes_bytes w) (add-one n) ∙ nodes_more w n) x e l (omega arith)

  -- ---- edges with one label

  under_more : (i l j : ℕ) (b : Bool) → b ≡ leads w i l j → under_bytes w (j + 1) i l ≡ under_bytes w j i l ++ each (λ (t : ℕ). 2 ∷ i ∷ l ∷ t ∷ 0 ∷ 0 ∷ []) (put b j [])
  under_more i l j b e =
      ap (λ (n : ℕ). under_bytes w n i l) (add-one j)
      ∙ ap (each (λ (t : ℕ). 2 ∷ i ∷ l ∷ t ∷ 0 ∷ 0 ∷ [])) (keep_more (leads w i l) j ∙ ap (λ (t : Bool). keep (leads w i l) (span 0 j) ++ put t j []) (sym e))
      ∙ each_append (λ (t : ℕ). 2 ∷ i ∷ l ∷ t ∷ 0 ∷ 0 ∷ []) (keep (leads w i l) (span 0 j)) (put b j [])

  module _ (out₀ out : List ℕ) (i l j at end : ℕ) (x : Wrote out₀ out at end (under_bytes w j i l)) where
    pub edge_on : (out' : List ℕ) (end' : ℕ) → record_len * at ≤ length out₀ → true ≡ leads w i l j → out' ≡ put_at out (record_len * end) (2 ∷ i ∷ l ∷ j ∷ 0 ∷ 0 ∷ []) → length out' ≡ length out
        → end' ≡ end + 1 → Wrote out₀ out' at end' (under_bytes w (j + 1) i l)
    edge_on out' end' h e a b d = wrote_more out₀ out out' at end end' (under_bytes w j i l) (2 ∷ i ∷ l ∷ j ∷ 0 ∷ 0 ∷ []) (under_bytes w (j + 1) i l) h (under_more i l j true e) x a b (omega (arith, d))

    -- a state that no edge leads to
    pub edge_off : false ≡ leads w i l j → Wrote out₀ out at end (under_bytes w (suc j) i l)
    edge_off e =
        let same : under_bytes w j i l ≡ under_bytes w (suc j) i l = sym (ap (λ (n : ℕ). under_bytes w n i l) (sym (add-one j)) ∙ under_more i l j false e ∙ append-nil (under_bytes w j i l)) in
        record {
          as_long = x.as_long;
          bytes = x.bytes ∙ ap (put_at out₀ (record_len * at)) same;
          up_to = omega (arith, x.up_to, ap length same);
        }

    -- the records written are the edges tallied
    pub edges_so_far : end ≡ at + tally_under w j i l
    edges_so_far = omega (arith, x.up_to, under_length w j i l)

    -- there is room for one more
    pub edge_fits : (c : ℕ) → j < c → true ≡ leads w i l j → record_len * (at + tally_under w c i l) ≤ length out₀ → record_len * end + record_len ≤ length out
    edge_fits c h e r =
        omega (arith, edges_so_far, r, x.as_long, ap one e, climbs (λ (n : ℕ). tally_under w n i l) (λ n. omega arith) (suc j) c h)

  -- ---- edges from one state

  module _ (c : ℕ) (out₀ out : List ℕ) (i l at end : ℕ) (x : Wrote out₀ out at end (from_bytes w c i l)) where
    pub label_on : (out' : List ℕ) (end' : ℕ) → record_len * at ≤ length out₀ → out' ≡ put_at out (record_len * end) (under_bytes w c i l) → length out' ≡ length out → end' ≡ end + tally_under w c i l
        → Wrote out₀ out' at end' (from_bytes w c i (l + 1))
    label_on out' end' h a b d =
        wrote_more out₀ out out' at end end' (from_bytes w c i l) (under_bytes w c i l) (from_bytes w c i (l + 1)) h (ap (from_bytes w c i) (add-one l) ∙ from_more w c i l) x a b
        (omega (arith, d, under_length w c i l))

    pub labels_so_far : end ≡ at + tally_from w c i l
    labels_so_far = omega (arith, x.up_to, from_length w c i l)

    pub label_fits : (n : ℕ) → l < n → record_len * (at + tally_from w c i n) ≤ length out₀ → record_len * (end + tally_under w c i l) ≤ length out
    label_fits n h r =
        omega (arith, labels_so_far, r, x.as_long, tally_from_more w c i l, climbs (tally_from w c i) (λ m. omega (arith, tally_from_more w c i m)) (suc l) n h)

  -- ---- edges from all states, after the nodes

  module _ (c : ℕ) (out₁ out : List ℕ) (i end : ℕ) (x : Wrote out₁ out c end (edges_bytes w c i)) where
    pub state_on : (out' : List ℕ) (end' : ℕ) → record_len * c ≤ length out₁ → out' ≡ put_at out (record_len * end) (from_bytes w c i 9) → length out' ≡ length out → end' ≡ end + tally_from w c i 9
        → Wrote out₁ out' c end' (edges_bytes w c (i + 1))
    state_on out' end' h a b d =
        wrote_more out₁ out out' c end end' (edges_bytes w c i) (from_bytes w c i 9) (edges_bytes w c (i + 1)) h (ap (edges_bytes w c) (add-one i) ∙ edges_more w c i) x a b
        (omega (arith, d, from_length w c i 9))

    pub state_fits : i < c → record_len * (c + total w c c) ≤ length out₁ → record_len * (end + tally_from w c i 9) ≤ length out
    state_fits h r = omega (arith, x.up_to, r, x.as_long, edges_length w c i, climbs (total w c) (λ m. omega arith) (suc i) c h)

  -- nodes and edges are the definition's graph
  pub model_end : (I : Interface) (P : List Row) (c end : ℕ) (out₀ out₁ out : List ℕ) → Property P → Arranged I P c w → out₁ ≡ put_at out₀ 0 (nodes_bytes w c) → Wrote out₁ out c end (edges_bytes w c c)
      → out ≡ graph_bytes (model I P) ++ drop (length (graph_bytes (model I P))) out₀
  model_end I P c end out₀ out₁ out wf a e x =
      let G : List ℕ = graph_bytes (model I P) in
      let n : record_len * c ≡ 0 + length (nodes_bytes w c) = omega (arith, nodes_length w c) in
      x.bytes
      ∙ ap₂ (λ (m : List ℕ) (k : ℕ). put_at m k (edges_bytes w c c)) e n
      ∙ put_after out₀ 0 (nodes_bytes w c) (edges_bytes w c c) (omega arith)
      ∙ ap (put_at out₀ 0) (sym (model_bytes I P wf c w a))
      ∙ put_front out₀ G
