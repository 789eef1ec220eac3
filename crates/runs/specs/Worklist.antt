-- Summaries by worklist: a table of them by value, and watching's lent buffer. A point is a node and the monitor state in which its method was entered; for each point
-- the states in which it is reached stand in the buffer as a set. A point to which states have come waits in a queue; taking it runs its edges, or, at a return node,
-- makes the table with the grown summary of its method, and then the calls of that method that enter it in that state are run again.
use Rattle.std.specs.Prelude.{◌≡◌, ◌⊎◌, ◌↔◌, Bool, not, cond, ◌&&◌, ℕ, suc, ◌+◌, ◌-◌, ◌*◌, ◌/◌, ◌%◌, ◌^◌, ◌≤◌, ◌<◌, T, eqb, length, get_or, set, replicate}
use mathlib.Core.List.{List, [], Memᴰ}
use Rattle.std.specs.Int.Bits.{bit_or, bit_and}
use Rattle.files.specs.Basics.Lists.{span}
use Rattle.files.specs.Basics.Tables.{tally}
use Rattle.files.specs.Basics.Tests.{any}
use Rattle.files.specs.Cells.{cell, put_cell}
use Rattle.files.specs.Graph.{Graph, Edge, size, node, no_edge}
use Rattle.files.specs.Rules.{Monitor, calls, returns_to}
use Rattle.maximal.specs.Masks.{member, mask}
use Rattle.runs.specs.Prepared.{Grouped, Tables}
use Rattle.runs.specs.Regions.{monitor_base, queue_cells, reached_base, seen_base, spare_base, waiting_base, watch_room}
use Rattle.runs.specs.Runs.{meth}
use Rattle.runs.specs.Summary.{Inside, Yields}
pub mod Unions
pub mod Table
pub mod Growth
pub mod Steps
pub mod Loops

-- ---- sets of monitor states, as numbers below 256

-- the union of the sets f q, for q in x
pub union : (ℕ → ℕ) → ℕ → ℕ
union f x = mask (λ (s : ℕ). any (λ (q : ℕ). member x q && member (f q) s) (span 0 8)) 8

-- the states after a whole call of method l by method a from the states x, by the summaries t
abbrev pub passed : Monitor → (ℕ → ℕ → ℕ) → ℕ → ℕ → ℕ → ℕ
passed mon t a l x = union (λ (s : ℕ). 2 ^ mon s (returns_to l a)) (union (t l) (union (λ (q : ℕ). 2 ^ mon q (calls a l)) x))

-- ---- the table: the summaries by value, method by entry state

-- the states at the return nodes of method m, from 1 on, entered in state p
abbrev pub sums : List (List ℕ) → ℕ → ℕ → ℕ
sums t m p = get_or (get_or t (m - 1) []) p 0

-- the table with another summary of method m, entered in state p
abbrev pub put_sum : List (List ℕ) → ℕ → ℕ → ℕ → List (List ℕ)
put_sum t m p v = set t (m - 1) (set (get_or t (m - 1) []) p v)

-- the table at the start
abbrev pub no_sums : List (List ℕ)
no_sums = replicate 8 (replicate 8 0)

-- eight rows of eight bytes
pub record Shaped (t : List (List ℕ)) : Type 0 where
  pub rows : length t ≡ 8
  pub row_long : (m : ℕ) → m < 8 → length (get_or t m []) ≡ 8
  pub sum_small : (m p : ℕ) → 1 ≤ m → m ≤ 8 → p < 8 → sums t m p < 256

-- what a summary `old` becomes by the states x at a point: joined, where it is a return node and one of them is new, else 0
pub joined : Bool → ℕ → ℕ → ℕ
joined returns old x = cond returns (cond (eqb (bit_or old x) old) 0 (bit_or old x)) 0

-- ---- the parts of the buffer

abbrev pub point : ℕ → ℕ → ℕ
point g p = 8 * g + p

-- the states in which node g is reached, its method entered in state p
abbrev pub reach : List ℕ → ℕ → ℕ → ℕ
reach w g p = cell w reached_base 1 (point g p)

-- 1 while the point waits
abbrev pub waits : List ℕ → ℕ → ℕ → ℕ
waits w g p = cell w waiting_base 1 (point g p)

abbrev pub queue : List ℕ → ℕ → ℕ
queue w i = cell w 0 2 i

-- how many states are reached at all points together
pub reached : List ℕ → ℕ
reached w = tally (λ (h : ℕ). member (cell w reached_base 1 (h / 8)) (h % 8)) queue_cells

-- ---- states added to a point

-- the list with the point's states, and with the point in the queue
abbrev pub grown : List ℕ → ℕ → ℕ → ℕ → List ℕ
grown w g p y = put_cell w reached_base 1 (point g p) (bit_or (reach w g p) y)

abbrev pub queued : List ℕ → ℕ → ℕ → ℕ → List ℕ
queued w tail g p = put_cell (put_cell w waiting_base 1 (point g p) 1) 0 2 tail (point g p)

-- nothing new; or new at a point that waits; or new, and the point is put at the queue's end
pub added : List ℕ → ℕ → ℕ → ℕ → ℕ → List ℕ
added w tail g p y =
    cond (eqb (bit_or (reach w g p) y) (reach w g p)) w
    (cond (eqb (waits w g p) 1) (grown w g p y) (queued (grown w g p y) tail g p))

-- the queue's end after it
pub added_tail : List ℕ → ℕ → ℕ → ℕ → ℕ → ℕ
added_tail w tail g p y = cond (eqb (bit_or (reach w g p) y) (reach w g p)) tail (cond (eqb (waits w g p) 1) tail (suc tail))

-- what stands from the marks of the search on is as it was
abbrev pub Past : List ℕ → List ℕ → Type 0
Past w w' = (q : ℕ) → seen_base ≤ q → get_or w' q 0 ≡ get_or w q 0

-- for each caller a, from method 1 on, the states from which a call of method m enters it in state p
abbrev pub Entering : Monitor → ℕ → ℕ → List ℕ → Type 0
Entering mon m p t = (a q : ℕ) → a < 8 → q < 8 → member (get_or t a 0) q ≡ eqb (mon q (calls (suc a) m)) p

-- for each caller a, from method 1 on, the states in which it goes on where method m returns to it in a state of x
abbrev pub Returning : Monitor → ℕ → ℕ → List ℕ → Type 0
Returning mon m x t = (a : ℕ) → a < 8 → get_or t a 0 ≡ union (λ (s : ℕ). 2 ^ mon s (returns_to m (suc a))) x

-- for each entry state with which node g is reached in a state of the set, the states y; none for any other
abbrev pub RowOf : List ℕ → ℕ → ℕ → ℕ → List ℕ → Type 0
RowOf w g set y t = (p : ℕ) → p < 8 → get_or t p 0 ≡ cond (eqb (bit_and (reach w g p) set) 0) 0 y

-- node g has for each entry state below n the states of a row
abbrev pub HasRow : List ℕ → ℕ → List ℕ → ℕ → Type 0
HasRow w g t n = (p : ℕ) → p < n → (q : ℕ) → T (member (get_or t p 0) q) → T (member (reach w g p) q)

module _ (G : Graph) (mon : Monitor) where
  -- the states after edge e, from the states x at its source
  abbrev pub after_edge : (ℕ → ℕ → ℕ) → Edge → ℕ → ℕ
  after_edge t e x = cond (eqb e.label 0) x (passed mon t (meth G e.from) e.label x)

  -- place i of the queue holds a point
  pub record Queued (w : List ℕ) (i : ℕ) : Type 0 where
    pub its_node : ℕ
    pub its_state : ℕ
    pub is_node : its_node < size G
    pub is_state : its_state < 8
    pub is_there : queue w i ≡ point its_node its_state

  -- all that is reached happens; the queue holds points, no more than there are states reached
  pub record Holding (tail : ℕ) (w : List ℕ) : Type 0 where
    pub room : watch_room ≤ length w
    pub tables : Tables G mon w
    pub reach_small : (g p : ℕ) → g < size G → p < 8 → reach w g p < 256
    pub reach_happens : (g p q : ℕ) → g < size G → p < 8 → q < 8 → T (member (reach w g p) q) → Inside G mon (meth G g) p g q
    pub in_queue : (i : ℕ) → i < tail → Queued w i
    pub few : tail ≤ reached w

  -- from w, with `tail` places in the queue, on to w', with `tail'`: states were added to points, and nothing else was done
  pub record Grew (tail tail' : ℕ) (w w' : List ℕ) : Type 0 where
    pub holding : Holding tail' w'
    pub longer : tail ≤ tail'
    pub reach_kept : (g p q : ℕ) → g < size G → p < 8 → T (member (reach w g p) q) → T (member (reach w' g p) q)
    pub new_waits : (g p : ℕ) → g < size G → p < 8 → (reach w' g p ≡ reach w g p) ⊎ (waits w' g p ≡ 1)
    pub waits_kept : (g p : ℕ) → g < size G → p < 8 → waits w g p ≡ 1 → waits w' g p ≡ 1
    pub new_queued : (g p : ℕ) → g < size G → p < 8 → waits w' g p ≡ 1 → (waits w g p ≡ 1) ⊎ ((i : ℕ) × (tail ≤ i) × (i < tail') × (queue w' i ≡ point g p))
    pub queue_kept : (i : ℕ) → i < tail → queue w' i ≡ queue w i
    pub rest_kept : (q : ℕ) → ((monitor_base ≤ q) × (q < reached_base)) ⊎ (spare_base ≤ q) → get_or w' q 0 ≡ get_or w q 0

  -- all that is summed up happens
  abbrev pub SumsHappen : List (List ℕ) → Type 0
  SumsHappen t = (m p q : ℕ) → 1 ≤ m → m ≤ 8 → p < 8 → q < 8 → T (member (sums t m p) q) → Yields G mon m p q

  -- the source of e waits, or what e makes of its states, by the table t, is at the target
  pub Covered : List (List ℕ) → List ℕ → Edge → ℕ → Type 0
  Covered t w e p = (waits w e.from p ≡ 1) ⊎ ((q : ℕ) → q < 8 → T (member (after_edge (sums t) e (reach w e.from p)) q) → T (member (reach w e.to p) q))

  -- the states of a return node that does not wait are in the summary of its method
  pub Summed : List (List ℕ) → List ℕ → ℕ → ℕ → Type 0
  Summed t w g p = (waits w g p ≡ 1) ⊎ ((q : ℕ) → q < 8 → T (member (reach w g p) q) → T (member (sums t (meth G g) p) q))

  -- Between two steps: what the table t holds happens, what waits is in the queue from `head` on, and all else is done by that table, but for the edges and the return
  -- nodes that `EdgeDue` and `NodeDue` name.
  pub record SpreadBut (EdgeDue : Edge → ℕ → Type 0) (NodeDue : ℕ → ℕ → Type 0) (t : List (List ℕ)) (head tail : ℕ) (w : List ℕ) : Type 0 where
    pub holding : Holding tail w
    pub shaped : Shaped t
    pub sums_happen : SumsHappen t
    pub waiting : (g p : ℕ) → g < size G → p < 8 → waits w g p ≡ 1 → (i : ℕ) × (head ≤ i) × (i < tail) × (queue w i ≡ point g p)
    pub edges_done : (e : Edge) → Memᴰ e G.edges → T (not (node G e.from).ret) → (p : ℕ) → p < 8 → EdgeDue e p ⊎ Covered t w e p
    pub returns_done : (g p : ℕ) → g < size G → p < 8 → T (node G g).ret → NodeDue g p ⊎ Summed t w g p
    pub entries_in : (g p : ℕ) → g < size G → p < 8 → T (node G g).entry → T (member (reach w g p) p)

  abbrev pub Spread : List (List ℕ) → ℕ → ℕ → List ℕ → Type 0
  Spread t head tail w = SpreadBut (λ e p. ⊥) (λ g p. ⊥) t head tail w

  -- but for what is due of one point, which was taken from the queue
  abbrev pub PointDue : ℕ → ℕ → List (List ℕ) → ℕ → ℕ → List ℕ → Type 0
  PointDue g p t head tail w = SpreadBut (λ e r. (e.from ≡ g) × (r ≡ p)) (λ h r. (h ≡ g) × (r ≡ p)) t head tail w

  -- the edges of node g are run from its states at point (g, p)
  pub EdgesRun : List (List ℕ) → List ℕ → ℕ → ℕ → Type 0
  EdgesRun t w g p = (e : Edge) → Memᴰ e G.edges → e.from ≡ g → T (not (node G e.from).ret) → Covered t w e p

  -- from one of the states y edge e enters the method that it calls in state p
  abbrev pub EntersIn : ℕ → Edge → ℕ → Type 0
  EntersIn p e y = (q : ℕ) × (q < 8) × T (member y q) × (mon q (calls (meth G e.from) e.label) ≡ p)

  -- edge e is reached in a state of the set, its method entered in state p
  abbrev pub StartsIn : ℕ → List ℕ → Edge → ℕ → Type 0
  StartsIn set w e p = (q : ℕ) × (q < 8) × T (member (reach w e.from p) q) × T (member set q)

  -- in one of those that `callers` has for its caller
  abbrev pub Starts : List ℕ → List ℕ → Edge → ℕ → Type 0
  Starts callers w e p = StartsIn (get_or callers (meth G e.from - 1) 0) w e p

  -- call e is covered but for what its callee yields when it is entered in state i
  pub CoveredBut : ℕ → List (List ℕ) → List ℕ → Edge → ℕ → Type 0
  CoveredBut i t w e p =
      (waits w e.from p ≡ 1)
      ⊎ ((q s : ℕ) → q < 8 → s < 8 → T (member (reach w e.from p) q) → (mon q (calls (meth G e.from) e.label) ≡ i → ⊥)
      → T (member (sums t e.label (mon q (calls (meth G e.from) e.label))) s) → T (member (reach w e.to p) (mon s (returns_to e.label (meth G e.from)))))

  -- of a caller: from a state of the set its call of method m enters it in state i, and y has the states to which it then returns
  abbrev pub Links : ℕ → ℕ → ℕ → ℕ → ℕ → List (List ℕ) → Type 0
  Links a m i set y t = ((q : ℕ) → q < 8 → T (member set q) → mon q (calls a m) ≡ i) × (y ≡ union (λ (s : ℕ). 2 ^ mon s (returns_to m a)) (sums t m i))

  -- from w₀ on to w call e is run for entry state p: where it was covered but for entry state i of its callee and starts in a state of the set, it is covered
  abbrev pub RanIn : ℕ → ℕ → List (List ℕ) → List ℕ → List ℕ → Edge → ℕ → Type 0
  RanIn set y t w₀ w e p = (i : ℕ) → i < 8 → Links (meth G e.from) e.label i set y t → CoveredBut i t w₀ e p → StartsIn set w₀ e p → Covered t w e p

  -- the same for each entry state, by the sets of its caller
  abbrev pub CallRan : List ℕ → List ℕ → List (List ℕ) → List ℕ → List ℕ → Edge → Type 0
  CallRan callers ends t w₀ w e =
      T (not (node G e.from).ret) → (p : ℕ) → p < 8 → RanIn (get_or callers (meth G e.from - 1) 0) (get_or ends (meth G e.from - 1) 0) t w₀ w e p

  -- the same for each call of the group that edge `first` opens
  abbrev pub GroupRan : List ℕ → List ℕ → List (List ℕ) → List ℕ → List ℕ → ℕ → Type 0
  GroupRan callers ends t w₀ w first =
      (j : ℕ) → first ≤ j → j < length G.edges → Grouped G (get_or G.edges first no_edge).from (get_or G.edges first no_edge).label first j
      → CallRan callers ends t w₀ w (get_or G.edges j no_edge)

  -- a row has sets of states that happen at node g
  abbrev pub RowHappens : ℕ → List ℕ → Type 0
  RowHappens g t = (p : ℕ) → p < 8 → (get_or t p 0 < 256) × ((q : ℕ) → q < 8 → T (member (get_or t p 0) q) → Inside G mon (meth G g) p g q)

  -- from w on to w' the calls of method m that start so, and were covered but for entry state i, are run
  pub CallsRun : ℕ → List ℕ → List (List ℕ) → List ℕ → List ℕ → ℕ → Type 0
  CallsRun i callers t w w' m =
      (e : Edge) → Memᴰ e G.edges → e.label ≡ m → T (not (node G e.from).ret) → (p : ℕ) → p < 8 → CoveredBut i t w e p → Starts callers w e p → Covered t w' e p

  -- from w on to w' a point that was taken is run: the calls of its method that enter it in its entry state, where its summary grew to the states `new`; else, where
  -- its node does not return, its edges
  abbrev pub PointRan : List (List ℕ) → ℕ → ℕ → List ℕ → List ℕ → Type 0
  PointRan t at new w w' =
      (0 < new → (callers : List ℕ) × Entering mon (meth G (at / 8)) (at % 8) callers × CallsRun (at % 8) callers t w w' (meth G (at / 8)))
      × (new ≡ 0 → T (not (node G (at / 8)).ret) → EdgesRun t w' (at / 8) (at % 8))

  -- each entry is reached in the state in which its method was entered
  abbrev pub EntriesIn : ℕ → List ℕ → Type 0
  EntriesIn n w = (g p : ℕ) → g < n → p < 8 → T (node G g).entry → T (member (reach w g p) p)

  -- the summaries are found
  pub SummariesIn : List (List ℕ) → Type 0
  SummariesIn t = (m p q : ℕ) → 1 ≤ m → m ≤ 8 → p < 8 → q < 8 → T (member (sums t m p) q) ↔ Yields G mon m p q
