-- What the tests of Summary say of an edge, as facts: it takes a state to a state by an internal step or by a call that returns (`Moves`), and it leads from a
-- spot to a spot. A larger list of spots gives no less.
use Rattle.std.specs.Prelude.{◌≡◌, refl, ◌⊎◌, Bool, not, ◌&&◌, ◌||◌, ℕ, ◌<◌, eqb, ltb}
use Rattle.std.proofs.Common.{sym, ap, subst₂, inl, inr, ltb→lt, lt→ltb}
use Rattle.std.proofs.Math.Path.{subst}
use mathlib.Core.List.{List, Memᴰ}
use Rattle.std.proofs.Math.Dec.{T, eqb→eq}
use Rattle.files.specs.Basics.Tests.{and_i, and_e, or_e, or_l, or_r, any, any_i, any_e, eq_eqb, and_map, or_map, any_map}
use Rattle.files.specs.Graph.{Graph, Edge, size, node, EntryOf}
use Rattle.files.specs.Rules.{calls, returns_to, Monitor}
use Rattle.runs.specs.Runs.{meth, Runs}
use Rattle.runs.specs.Summary.{Inside, Spot, is_entry_of, callee, moves, leads_from, along}

pub no_ret : (G : Graph) (g : ℕ) (e : Edge) → Runs G g e → T (not (node G e.from).ret)
no_ret G g e x = subst (λ (i : ℕ). T (not (node G i).ret)) (sym x.leaves) x.no_return

-- every spot of the first list is one of the second
abbrev pub In : List Spot → List Spot → Type 0
In ys zs = (y : Spot) → Memᴰ y ys → Memᴰ y zs

module _ (G : Graph) (mon : Monitor) where
  pub entry_e : (m n : ℕ) → n < size G → T (is_entry_of G mon m n) → EntryOf G m n
  entry_e m n h t = let a = and_e (node G n).entry _ t in record { is_node = h; is_entry = a.0; in_method = eqb→eq _ _ a.1 }

  pub entry_i : (m n : ℕ) → EntryOf G m n → T (is_entry_of G mon m n)
  entry_i m n e = and_i (node G n).entry _ e.is_entry (eq_eqb _ _ e.in_method)

  -- ---- what an edge takes a state to

  -- e takes q to p: an internal step, or a call that returns
  pub data Moves (e : Edge) (q : ℕ) : ℕ → Type 0 where
    by_step : e.label ≡ 0 → Moves e q q
    by_call : (r s : ℕ) → 0 < e.label → Inside G mon e.label (mon q (calls (meth G e.from) e.label)) r s → T (node G r).ret
        → Moves e q (mon s (returns_to (meth G r) (meth G e.to)))

  -- the spot's method, entered in the spot's first state, comes to its node and second state
  abbrev pub Sound : Spot → Type 0
  Sound x = Inside G mon x.of x.was x.at x.now

  -- what the state is when the call over e begins, and after its return from r
  abbrev pub into : Edge → ℕ → ℕ
  into e q = mon q (calls (meth G e.from) e.label)

  abbrev pub out : Edge → ℕ → ℕ → ℕ
  out e r s = mon s (returns_to (meth G r) (meth G e.to))

  pub into_is : (g q : ℕ) (e : Edge) → Runs G g e → mon q (calls (meth G g) e.label) ≡ into e q
  into_is g q e x = ap (λ (i : ℕ). mon q (calls (meth G i) e.label)) (sym x.leaves)

  pub callee_e : (e : Edge) (q p : ℕ) (z : Spot) → T (callee G mon e q p z) → (z.of ≡ e.label) × (z.was ≡ into e q) × T (node G z.at).ret × (out e z.at z.now ≡ p)
  unfolding callee
  callee_e e q p z t =
      let b = and_e (eqb z.of e.label) _ t in
      let c = and_e (eqb z.was (into e q)) _ b.1 in
      let d = and_e (node G z.at).ret _ c.1 in
      (eqb→eq _ _ b.0, eqb→eq _ _ c.0, d.0, eqb→eq _ _ d.1)

  pub callee_i : (e : Edge) (q p : ℕ) (z : Spot) → z.of ≡ e.label → z.was ≡ into e q → T (node G z.at).ret → out e z.at z.now ≡ p → T (callee G mon e q p z)
  unfolding callee
  callee_i e q p z a b c d =
      and_i (eqb z.of e.label) _ (eq_eqb z.of e.label a) (and_i (eqb z.was (into e q)) _ (eq_eqb z.was (into e q) b)
      (and_i (node G z.at).ret _ c (eq_eqb (out e z.at z.now) p d)))

  pub passes_e : (ys : List Spot) → ((y : Spot) → Memᴰ y ys → Sound y) → (e : Edge) (q p : ℕ) → 0 < e.label → T (any (callee G mon e q p) ys) → Moves e q p
  passes_e ys f e q p h t =
      let a = any_e (callee G mon e q p) ys t in
      let z = a.0 in
      let c = callee_e e q p z a.2 in
      subst (Moves e q) c.3 (by_call z.at z.now h (subst₂ (λ (i j : ℕ). Inside G mon i j z.at z.now) c.0 c.1 (f z a.1)) c.2)

  abbrev stays : Edge → ℕ → ℕ → Bool
  stays e q p = eqb e.label 0 && eqb q p

  pub moves_e : (ys : List Spot) → ((y : Spot) → Memᴰ y ys → Sound y) → (e : Edge) (q p : ℕ) → T (moves G mon ys e q p)
      → T (not (node G e.from).ret) × Moves e q p
  unfolding moves
  moves_e ys f e q p t = let a = and_e (not (node G e.from).ret) _ t in (a.0, go (or_e (stays e q p) _ a.1))
    where
      go : T (stays e q p) ⊎ T (ltb 0 e.label && any (callee G mon e q p) ys) → Moves e q p
      go (inl x) = let b = and_e (eqb e.label 0) _ x in subst (Moves e q) (eqb→eq q p b.1) (by_step (eqb→eq _ _ b.0))
      go (inr x) = let b = and_e (ltb 0 e.label) _ x in passes_e ys f e q p (ltb→lt 0 e.label b.0) b.1

  pub step_moves : (ys : List Spot) (e : Edge) (q : ℕ) → T (not (node G e.from).ret) → e.label ≡ 0 → T (moves G mon ys e q q)
  unfolding moves
  step_moves ys e q n z = and_i (not (node G e.from).ret) _ n (or_l (stays e q q) _ (and_i (eqb e.label 0) _ (eq_eqb e.label 0 z) (eq_eqb q q refl)))

  pub call_moves : (ys : List Spot) (e : Edge) (q : ℕ) (z : Spot) → T (not (node G e.from).ret) → 0 < e.label → z.of ≡ e.label → z.was ≡ into e q → T (node G z.at).ret
      → Memᴰ z ys → T (moves G mon ys e q (out e z.at z.now))
  unfolding moves
  call_moves ys e q z n h a b c m =
      and_i (not (node G e.from).ret) _ n (or_r (stays e q (out e z.at z.now)) _ (and_i (ltb 0 e.label) _ (lt→ltb 0 e.label h)
      (any_i (callee G mon e q (out e z.at z.now)) ys z m (callee_i e q (out e z.at z.now) z a b c refl))))

  -- a larger list of spots gives no less
  pub moves_mono : (ys zs : List Spot) → In ys zs → (e : Edge) (q p : ℕ) → T (moves G mon ys e q p) → T (moves G mon zs e q p)
  unfolding moves
  moves_mono ys zs f e q p =
      let last = any_map (callee G mon e q p) (callee G mon e q p) ys zs (λ y m t. (f y m, t)) in
      let call = and_map (ltb 0 e.label) (any (callee G mon e q p) ys) (ltb 0 e.label) (any (callee G mon e q p) zs) (λ t. t) last in
      and_map (not (node G e.from).ret) (stays e q p || (ltb 0 e.label && any (callee G mon e q p) ys)) (not (node G e.from).ret)
      (stays e q p || (ltb 0 e.label && any (callee G mon e q p) zs)) (λ t. t)
      (or_map (stays e q p) (ltb 0 e.label && any (callee G mon e q p) ys) (stays e q p) (ltb 0 e.label && any (callee G mon e q p) zs) (λ t. t) call)

  -- ---- what an edge leads from

  pub before_e : (ys : List Spot) (e : Edge) (x y : Spot) → T (leads_from G mon ys e x y) → (y.of ≡ x.of) × (y.was ≡ x.was) × (y.at ≡ e.from) × T (moves G mon ys e y.now x.now)
  unfolding leads_from
  before_e ys e x y t =
      let p = and_e (eqb y.of x.of) _ t in
      let q = and_e (eqb y.was x.was) _ p.1 in
      let r = and_e (eqb y.at e.from) _ q.1 in
      (eqb→eq _ _ p.0, eqb→eq _ _ q.0, eqb→eq _ _ r.0, r.1)

  pub before_i : (ys : List Spot) (e : Edge) (x y : Spot) → y.of ≡ x.of → y.was ≡ x.was → y.at ≡ e.from → T (moves G mon ys e y.now x.now) → T (leads_from G mon ys e x y)
  unfolding leads_from
  before_i ys e x y a b c t =
      and_i (eqb y.of x.of) _ (eq_eqb y.of x.of a) (and_i (eqb y.was x.was) _ (eq_eqb y.was x.was b)
      (and_i (eqb y.at e.from) _ (eq_eqb y.at e.from c) t))

  pub along_e : (ys : List Spot) (x : Spot) (e : Edge) → T (along G mon ys x e) → (e.to ≡ x.at) × ((y : Spot) × Memᴰ y ys × T (leads_from G mon ys e x y))
  unfolding along
  along_e ys x e t = let a = and_e (eqb e.to x.at) _ t in (eqb→eq _ _ a.0, any_e (leads_from G mon ys e x) ys a.1)

  pub along_i : (ys : List Spot) (x : Spot) (e : Edge) → e.to ≡ x.at → (y : Spot) → Memᴰ y ys → T (leads_from G mon ys e x y) → T (along G mon ys x e)
  unfolding along
  along_i ys x e p y m t = and_i (eqb e.to x.at) _ (eq_eqb e.to x.at p) (any_i (leads_from G mon ys e x) ys y m t)
