-- Summaries: "For each method and monitor state at its entry, the reachable states at its return nodes fix what a whole call can yield."
-- First as relations, for an unbounded stack; then computed, with the verdict. (Exact, Spots and Places say that they agree.)
use Rattle.std.specs.Prelude.{◌≡◌, Bool, not, ◌&&◌, ◌||◌, List, map, ℕ, ◌<◌, T, eqb, ltb}
use Rattle.files.specs.Basics.Closure.{closed}
use Rattle.files.specs.Basics.Lists.{each, span}
use Rattle.files.specs.Basics.Tests.{any}
use Rattle.files.specs.Graph.{Graph, Edge, size, node, EntryOf}
use Rattle.files.specs.Rules.{calls, returns_to, Monitor}
use Rattle.runs.specs.Runs.{meth, Runs}
pub mod Frames
pub mod Exact
pub mod Balanced
pub mod Moves
pub mod Spots
pub mod Places
pub mod Trails

module _ (G : Graph) (mon : Monitor) where
  -- Entered in state p, method m comes to node g in state q, every call made on the way having returned.
  pub data Inside : ℕ → ℕ → ℕ → ℕ → Type 0 where
    enter : (m p n : ℕ) → EntryOf G m n → Inside m p n p
    inner : (m p g q : ℕ) (e : Edge) → Inside m p g q → Runs G g e → e.label ≡ 0 → Inside m p e.to q
    over : (m p g q : ℕ) (e : Edge) (r s : ℕ) → Inside m p g q → Runs G g e → 0 < e.label
        → Inside e.label (mon q (calls (meth G g) e.label)) r s → T (node G r).ret
        → Inside m p e.to (mon s (returns_to (meth G r) (meth G e.to)))

  -- a whole call of m, entered in state p, can end in state s
  pub record Yields (m p s : ℕ) : Type 0 where
    pub at : ℕ
    pub inside : Inside m p at s
    pub returning : T (node G at).ret

  -- What a trail reaches, from method m: start, internal step, call entered, call passed over. Step 3 needs a callee that does return.
  pub data Trail (m : ℕ) : ℕ → ℕ → Type 0 where
    starts : (n : ℕ) → EntryOf G m n → Trail m n 0
    steps : (g q : ℕ) (e : Edge) → Trail m g q → Runs G g e → e.label ≡ 0 → Trail m e.to q
    enters : (g q : ℕ) (e : Edge) (n : ℕ) → Trail m g q → Runs G g e → 0 < e.label → EntryOf G e.label n
        → Trail m n (mon q (calls (meth G g) e.label))
    passes : (g q : ℕ) (e : Edge) (r s : ℕ) → Trail m g q → Runs G g e → 0 < e.label
        → Inside e.label (mon q (calls (meth G g) e.label)) r s → T (node G r).ret
        → Trail m e.to (mon s (returns_to (meth G r) (meth G e.to)))

-- ---- the same, computed

-- A method and the monitor state at its entry, with a node and the state there.
pub record Spot : Type 0 where
  pub of : ℕ
  pub was : ℕ
  pub at : ℕ
  pub now : ℕ

-- a node and the state there
pub record Place : Type 0 where
  pub at : ℕ
  pub now : ℕ

module _ (G : Graph) (mon : Monitor) where
  abbrev pub is_entry_of : ℕ → ℕ → Bool
  is_entry_of m n = (node G n).entry && eqb (meth G n) m

  -- z is a return node of the method that e calls, entered from state q, and the return takes the state to p
  pub callee : Edge → ℕ → ℕ → Spot → Bool
  callee e q p z =
      eqb z.of e.label && (eqb z.was (mon q (calls (meth G e.from) e.label))
      && ((node G z.at).ret && eqb (mon z.now (returns_to (meth G z.at) (meth G e.to))) p))

  -- the edge e takes state q to state p, by an internal step or by a call passed over
  pub moves : List Spot → Edge → ℕ → ℕ → Bool
  moves ys e q p = not (node G e.from).ret && ((eqb e.label 0 && eqb q p) || (ltb 0 e.label && any (callee e q p) ys))

  -- e leads from y to x, of one method and entry state
  pub leads_from : List Spot → Edge → Spot → Spot → Bool
  leads_from ys e x y = eqb y.of x.of && (eqb y.was x.was && (eqb y.at e.from && moves ys e y.now x.now))

  pub along : List Spot → Spot → Edge → Bool
  along ys x e = eqb e.to x.at && any (leads_from ys e x) ys

  -- x is an entry, or an edge leads there from a spot of ys
  pub spot_rule : List Spot → Spot → Bool
  spot_rule ys x = (is_entry_of x.of x.at && eqb x.was x.now) || any (along ys x) G.edges

  pub all_spots : List Spot
  all_spots =
      each (λ (m : ℕ). each (λ (p : ℕ). each (λ (g : ℕ). map (λ (q : ℕ). record { of = m; was = p; at = g; now = q }) (span 0 8)) (span 0 (size G))) (span 0 8)) (span 0 9)

  pub spots : List Spot
  spots = closed all_spots spot_rule

  -- for each method and monitor state at its entry, the states at its return nodes
  pub yields : ℕ → ℕ → ℕ → Bool
  yields m p q = any (λ (z : Spot). eqb z.of m && (eqb z.was p && (eqb z.now q && (node G z.at).ret))) spots

  -- e leads from y to x, by an internal step or by a call passed over
  pub moved_from : Edge → Place → Place → Bool
  moved_from e x y = eqb y.at e.from && moves spots e y.now x.now

  -- e is a call that enters x from y
  pub called_from : Edge → Place → Place → Bool
  called_from e x y = eqb y.at e.from && eqb (mon y.now (calls (meth G e.from) e.label)) x.now

  pub reaches : List Place → Place → Edge → Bool
  reaches ys x e =
      (eqb e.to x.at && any (moved_from e x) ys)
      || (ltb 0 e.label && (is_entry_of e.label x.at && (not (node G e.from).ret && any (called_from e x) ys)))

  -- what a trail from method m reaches: a start, an edge moved along, a call entered
  pub place_rule : ℕ → List Place → Place → Bool
  place_rule m ys x = (is_entry_of m x.at && eqb 0 x.now) || any (reaches ys x) G.edges

  pub all_places : List Place
  all_places = each (λ (g : ℕ). map (λ (q : ℕ). record { at = g; now = q }) (span 0 8)) (span 0 (size G))

  pub places : ℕ → List Place
  places m = closed all_places (place_rule m)

  -- no trail from m comes to the bad state
  unfoldable pub clean : ℕ → Bool
  clean m = not (any (λ (x : Place). eqb x.now 7) (places m))
