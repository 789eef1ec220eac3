-- Looking at records one after another, as the loops of the code do: the start, one list more, and one record.
use Rattle.std.specs.Prelude.{◌≡◌, refl, not, ℕ, ◌≤◌, ◌<◌, T, length}
use Rattle.std.proofs.Common.{sym, subst, ◌∙◌, arith}
use mathlib.Core.List.{List, [], ◌∷◌, ◌++◌, Memᴰ, append_assoc}
use Rattle.files.specs.Basics.Order.{Ascends}
use Rattle.files.specs.Graph.{Graph, Edge, size, Flow}
use Rattle.files.specs.Places.{max_edges, max_nodes}
use Rattle.files.specs.Rules.{Monitor, Event}
use Rattle.runs.specs.Regions.{points}
use Rattle.runs.specs.Summary.{Place}
use Rattle.runs.specs.Summary.Trails.{Rec, Where, leaving}
use Rattle.runs.specs.Summary.Trails.Laws.{Leaves, steps_on, goes_in, goes_by, leaves_i}
use Rattle.runs.specs.Searching.{item_end, seen, pushed, pushed_tail, Sooner, Searching, Leaving, Here, May, LookedTo}
use Rattle.runs.specs.Searching.Pushes.{looked, tail_fits, pushed_end, pushed_longer}

pub ascends_rest : (xs ys : List Rec) → Ascends Sooner (xs ++ ys) → Ascends Sooner ys
ascends_rest [] ys a = a
ascends_rest (x ∷ xs) ys a = ascends_rest xs ys a.1

module _ (G : Graph) (mon : Monitor) (m : ℕ) where
  pub looked_start : (head : ℕ) (rs : List Rec) (tail : ℕ) (w : List ℕ) → LookedTo G mon m head rs rs tail tail w w
  looked_start head rs tail w = record { ascends_on = λ more a. a; searching_on = λ more a s. s; ends_kept = λ i l. refl; longer = omega arith }

  -- one list more
  pub looked_join : (head : ℕ) (rs fs rest : List Rec) (a b c : ℕ) (u v w : List ℕ) → LookedTo G mon m head rs (fs ++ rest) a b u v → LookedTo G mon m head fs [] b c v w
      → LookedTo G mon m head rs rest a c u w
  looked_join head rs fs rest a b c u v w x y = record {
    ascends_on = λ more p. ascends_rest fs (rest ++ more) (subst (Ascends Sooner) (append_assoc fs rest more) (x.ascends_on more p));
    searching_on = λ more p s.
        y.searching_on (rest ++ more) (subst (Ascends Sooner) (append_assoc fs rest more) (x.ascends_on more p))
        (subst (λ (rs : List Rec). Searching G mon m head b rs v) (append_assoc fs rest more) (x.searching_on more p s));
    ends_kept = λ i l. y.ends_kept i (omega (arith, l, x.longer)) ∙ x.ends_kept i l;
    longer = omega (arith, x.longer, y.longer);
  }

  -- the same list by another name
  pub looked_same : (head : ℕ) (rs fs hs : List Rec) (a b : ℕ) (u v : List ℕ) → fs ≡ hs → LookedTo G mon m head rs fs a b u v → LookedTo G mon m head rs hs a b u v
  looked_same head rs fs hs a b u v e x = subst (λ (ys : List Rec). LookedTo G mon m head rs ys a b u v) e x

  -- what is left can be looked at, and so can its first part
  pub may_on : (head : ℕ) (rs rest : List Rec) (a b : ℕ) (u v : List ℕ) → May G mon m head rs a u → LookedTo G mon m head rs rest a b u v → May G mon m head rest b v
  may_on head rs rest a b u v p x = record { more = p.more; ascends = x.ascends_on p.more p.ascends; searching = x.searching_on p.more p.ascends p.searching }

  pub may_first : (head : ℕ) (fs rest : List Rec) (a : ℕ) (u : List ℕ) → May G mon m head (fs ++ rest) a u → May G mon m head fs a u
  may_first head fs rest a u p = record {
    more = rest ++ p.more;
    ascends = subst (Ascends Sooner) (append_assoc fs rest p.more) p.ascends;
    searching = subst (λ (rs : List Rec). Searching G mon m head a rs u) (append_assoc fs rest p.more) p.searching;
  }

  pub may_same : (head : ℕ) (rs fs : List Rec) (a : ℕ) (u : List ℕ) → rs ≡ fs → May G mon m head rs a u → May G mon m head fs a u
  may_same head rs fs a u e p = subst (λ (ys : List Rec). May G mon m head ys a u) e p

  pub here_on : (head : ℕ) (rs rest : List Rec) (a b : ℕ) (u v : List ℕ) (x : Place) → Here G mon m head a u x → LookedTo G mon m head rs rest a b u v → Here G mon m head b v x
  here_on head rs rest a b u v x h l = record {
    below = omega (arith, h.below, l.longer);
    is_here = l.ends_kept head h.below ∙ h.is_here;
    at_node = h.at_node;
    now_small = h.now_small;
    no_return = h.no_return;
  }

  -- one record
  module _ (few_nodes : size G ≤ max_nodes) (few_edges : length G.edges ≤ max_edges) (head tail : ℕ) (r : Rec) (w : List ℕ) (below : head < tail) (may : May G mon m head (r ∷ []) tail w)
      (lv : Leaving G mon m head w r) where
    -- there is room for an item
    pub room_for : T (not (seen w r.to r.now)) → tail ≤ points
    room_for = tail_fits G mon m few_nodes few_edges head tail r may.more w may.searching below lv may.ascends.0

    pub look_one : LookedTo G mon m head (r ∷ []) [] tail (pushed_tail w tail head r) w (pushed w tail head r)
    look_one = record {
      ascends_on = λ more a. a.1;
      searching_on = λ more a s. looked G mon m few_nodes few_edges head tail r more w s below lv a.0;
      ends_kept = pushed_end G mon m few_nodes few_edges head tail r may.more w may.searching below lv may.ascends.0;
      longer = pushed_longer w tail head r;
    }

  -- ---- the records from a place

  module _ (flow : Flow G) (labels_small : (e : Edge) → Memᴰ e G.edges → e.label < 9) (mon_small : (q : ℕ) (v : Event) → q < 8 → mon q v < 8)
      (head tail : ℕ) (w : List ℕ) (x : Place) (h : Here G mon m head tail w x) where
    pub leaving_of : (r : Rec) → Leaves G mon flow labels_small mon_small m x r → Leaving G mon m head w r
    leaving_of r l = go r l (subst (λ (v : Where). Memᴰ r (leaving G mon m v)) (sym h.is_here) (leaves_i G mon flow labels_small mon_small m x r l))
      where
        go : (r : Rec) → Leaves G mon flow labels_small mon_small m x r → Memᴰ r (leaving G mon m (item_end w head)) → Leaving G mon m head w r
        go r (steps_on e y z) k = record {
          leaves = k;
          to_node = flow.to_node e y.edge;
          now_small = h.now_small;
        }
        go r (goes_in e n y z d) k = record {
          leaves = k;
          to_node = d.is_node;
          now_small = mon_small x.now _ h.now_small;
        }
        go r (goes_by e q y z hq t) k = record {
          leaves = k;
          to_node = flow.to_node e y.edge;
          now_small = hq;
        }
