-- One operator 10 and its nine boxes hold at the same nodes, for properties and flow graphs of any size whose labels are 0 to 8, however the boxes are joined.
-- From the one to the nine: the rows that hold, and every new row wherever the operator 10 is true, solve the longer equations. Back: what holds of the longer property,
-- cut to the rows of the shorter, solves the shorter equations, since every edge has one of the nine labels.
-- Its theorems that rest on a definition which a must-fail edit turns stand in proofs/Theorems/Levels/Nine/Spelled.
use Rattle.std.specs.Prelude.{◌≡◌, refl, ◌⊎◌, ◌↔◌, Bool, true, false, cond, ◌&&◌, ℕ, suc, ◌≤◌, ◌<◌, T, eqb, ltb, length}
use Rattle.std.proofs.Common.{sym, subst, inl, inr, arith, ltb→lt, lt→ltb, lt-ltb, le-ltb}
use mathlib.Core.List.{List, Memᴰ}
use Rattle.std.proofs.Math.Option.{none, some, some-injective}
use Rattle.std.proofs.Math.Decide.{ℕ_discrete, dec_lt}
use Rattle.files.specs.Basics.Tests.{and_l, and_r, and_i, eq_eqb}
use Rattle.files.specs.Graph.{Graph, Edge, size, node, Flow}
use Rattle.files.specs.Property.{Row, always, never, returns, not_returns, in_method, not_in_method, both, either, box, box_all, row, obliged, names, Property}
use Rattle.judging.specs.Levels.{truth, after, level, Holds, holds}
use Rattle.judging.specs.Levels.Laws.{after_e, after_i, level_next}
use Rattle.judging.specs.Levels.Nine.{NineLabels, JoinsNew, Spells}

-- "row a after each edge, whatever its label"
pub after_all : (G : Graph) (v : ℕ → ℕ → Bool) (g a : ℕ) → T (after G v g (box_all a)) ↔ ((e : Edge) → Memᴰ e G.edges → e.from ≡ g → T (v e.to a))
after_all G v g a = (
  λ t e m p. after_e G v g (box_all a) t e m p a refl,
  λ f. after_i G v g (box_all a) (λ e m p b q. subst (λ (r : ℕ). T (v e.to r)) (some-injective _ _ q) (f e m p)),
)

-- and so level by level
pub any_level : (G : Graph) (P : List Row) (k g r a : ℕ) → row P r ≡ box_all a
    → T (level G P (suc k) g r) ↔ ((e : Edge) → Memᴰ e G.edges → e.from ≡ g → T (level G P k e.to a))
any_level G P k g r a d = (λ t. (after_all G (level G P k) g a).0 (subst T same t), λ f. subst T (sym same) ((after_all G (level G P k) g a).1 f))
  where
    same : level G P (suc k) g r ≡ after G (level G P k) g (box_all a)
    same = subst (λ (x : Row). level G P (suc k) g r ≡ truth x (node G g).method (node G g).ret (level G P k g) (after G (level G P k) g x)) d (level_next G P k g r)

-- a box obliges under its own label
pub box_own : (l a : ℕ) → obliged (box l a) l ≡ some a
box_own l a = go (eqb l l) (eq_eqb l l refl)
  where
    go : (t : Bool) → T t → cond t (some a) none ≡ some a
    go true t = refl
    go false t = absurd t

-- rows named below m are named below what is no less
names_more : (m n : ℕ) (x : Row) → m ≤ n → T (names m x) → T (names n x)
names_more m n x h t = go x t
  where
    one : (c : ℕ) → T (ltb c m) → T (ltb c n)
    one c s = let k = ltb→lt c m s in lt→ltb c n (omega arith)

    two : (a b : ℕ) → T (ltb a m && ltb b m) → T (ltb a n && ltb b n)
    two a b s = and_i (ltb a n) (ltb b n) (one a (and_l (ltb a m) (ltb b m) s)) (one b (and_r (ltb a m) (ltb b m) s))

    go : (x : Row) → T (names m x) → T (names n x)
    go always s = s
    go never s = s
    go returns s = s
    go not_returns s = s
    go (in_method a) s = s
    go (not_in_method a) s = s
    go (both a b) s = two a b s
    go (either a b) s = two a b s
    go (box l b) s = one b s
    go (box_all a) s = one a s

-- ---- however the nine boxes are joined

module _ (P Q : List Row) (r a : ℕ) (wf : Property P) (spells : Spells P Q r a) where
  pub operand : a < length P
  operand = ltb→lt a (length P) (subst (λ (x : Row). T (names (length P) x)) spells.is_any (wf.names_rows r spells.is_row))

  -- Q is a property too
  pub spells_property : Property Q
  spells_property = record { has_root = let h = wf.has_root in let k = spells.longer in omega arith; names_rows = λ q h. go q h (dec_lt q (length P)) (ℕ_discrete q r) }
    where
      joined : (x : Row) → JoinsNew P Q x → T (names (length Q) x)
      joined x j =
          subst (λ (y : Row). T (names (length Q) y)) (sym j.2)
          (and_i (ltb j.0 (length Q)) (ltb j.1 (length Q)) (lt→ltb j.0 (length Q) j.3.1) (lt→ltb j.1 (length Q) j.4.1))

      new : (x : Row) → ((l : ℕ) × (x ≡ box l a)) ⊎ JoinsNew P Q x → T (names (length Q) x)
      new x (inl b) = subst (λ (y : Row). T (names (length Q) y)) (sym b.1) (let h = operand in let k = spells.longer in lt→ltb a (length Q) (omega arith))
      new x (inr j) = joined x j

      go : (q : ℕ) → q < length Q → Dec (q < length P) → Dec (q ≡ r) → T (names (length Q) (row Q q))
      go q h (no k) d = new (row Q q) (spells.fresh q (omega arith, h))
      go q h (yes k) (yes e) = subst (λ (i : ℕ). T (names (length Q) (row Q i))) (sym e) (joined (row Q r) spells.joins)
      go q h (yes k) (no e) = subst (λ (y : Row). T (names (length Q) y)) (sym (spells.same q k e)) (names_more (length P) (length Q) (row P q) spells.longer (wf.names_rows q k))

  module _ (G : Graph) (flow : Flow G) (labels : NineLabels G) where
    -- the rows of P that hold, and every new row wherever the operator 10 is true
    pub read_off : ℕ → ℕ → Bool
    read_off g q = cond (ltb q (length P)) (holds G P g q) (after G (holds G P) g (box_all a))

    pub read_old : (g q : ℕ) → q < length P → T (holds G P g q) → T (read_off g q)
    unfolding read_off
    read_old g q h t = rw (lt-ltb q (length P) h) t

    pub old_read : (g q : ℕ) → q < length P → T (read_off g q) → T (holds G P g q)
    unfolding read_off
    old_read g q h t = rw (lt-ltb q (length P) h) at t

    pub read_new : (g q : ℕ) → length P ≤ q → T (after G (holds G P) g (box_all a)) → T (read_off g q)
    unfolding read_off
    read_new g q h t = rw (le-ltb q (length P) h) t

    pub new_read : (g q : ℕ) → length P ≤ q → T (read_off g q) → T (after G (holds G P) g (box_all a))
    unfolding read_off
    new_read g q h t = rw (le-ltb q (length P) h) at t

    -- what row x of Q says of node g, by the values v
    abbrev pub Says : (ℕ → ℕ → Bool) → ℕ → Row → Type 0
    Says v g x = T (truth x (node G g).method (node G g).ret (v g) (after G v g x))

-- ---- any number of them

-- Q is a property too, and the rows of P hold where they hold of Q
pub record SaysAs (P Q : List Row) : Type 0 where
  pub is_property : Property Q
  pub longer : length P ≤ length Q
  pub holds_as : (G : Graph) → Flow G → NineLabels G → (g q : ℕ) → g < size G → q < length P → Holds G P g q ↔ Holds G Q g q
