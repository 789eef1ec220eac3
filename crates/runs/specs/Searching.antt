-- The trail by one forward search, in watching's lent buffer: items in the order in which they were found, each with the record by which it was found and the item
-- from which. Item 0 is the point before the first record. The records from one place are taken in the order of their bytes.
use Rattle.std.specs.Prelude.{◌≡◌, ◌⊎◌, ◌↔◌, Bool, not, cond, ℕ, suc, ◌+◌, ◌*◌, ◌-◌, ◌≤◌, ◌<◌, T, eqb, length, get_or}
use mathlib.Core.List.{List, [], ◌∷◌, ◌++◌, map, Memᴰ}
use Rattle.files.specs.Access.{first_edge}
use Rattle.files.specs.Basics.Lexical.{Before}
use Rattle.files.specs.Basics.Lists.{keep, each, span}
use Rattle.files.specs.Basics.Order.{Ascends}
use Rattle.files.specs.Basics.Tables.{tally}
use Rattle.files.specs.Basics.Tests.{any}
use Rattle.files.specs.Cells.{cell, put_cell, has_bit, put_bit, put_at}
use Rattle.files.specs.Graph.{Graph, Edge, size, node, no_edge, EntryOf}
use Rattle.files.specs.Places.{record_len}
use Rattle.files.specs.Rules.{Monitor, calls}
use Rattle.maximal.specs.Masks.{member}
use Rattle.runs.specs.Forward.{Searched, Met, turned}
use Rattle.runs.specs.Prepared.{Tables}
use Rattle.runs.specs.Regions.{entered_base, parents_base, points, seen_base, watch_room}
use Rattle.runs.specs.Runs.{meth}
use Rattle.runs.specs.Summary.{Place, Yields, is_entry_of, callee, spots, clean}
use Rattle.runs.specs.Summary.Trails.{Rec, trail_rec_bytes, Where, before, here, end, is_bad, started, leaving, trail}
pub mod Pushes
pub mod Outgoing
pub mod Looks
pub mod Entered
pub mod Ends
pub mod Trace

-- ---- the parts of the buffer

abbrev pub item : List ℕ → ℕ → Rec
item w i = record {
  at = get_or w (record_len * i) 0;
  state = get_or w (record_len * i + 1) 0;
  step = get_or w (record_len * i + 2) 0;
  label = get_or w (record_len * i + 3) 0;
  to = get_or w (record_len * i + 4) 0;
  now = get_or w (record_len * i + 5) 0;
}

abbrev pub parent : List ℕ → ℕ → ℕ
parent w i = cell w parents_base 2 i

-- where item i ends
abbrev pub item_end : List ℕ → ℕ → Where
item_end w i = cond (eqb i 0) before (end (item w i))

-- the place of node g and state q was met
abbrev pub seen : List ℕ → ℕ → ℕ → Bool
seen w g q = has_bit w seen_base (8 * g + q)

-- method l was entered in state q
abbrev pub entered : List ℕ → ℕ → ℕ → Bool
entered w l q = has_bit w entered_base (8 * l + q)

-- how many places were met
pub places_seen : List ℕ → ℕ
places_seen w = tally (λ (h : ℕ). has_bit w seen_base h) points

abbrev pub rec_of : ℕ → ℕ → ℕ → ℕ → ℕ → ℕ → Rec
rec_of g q step l h r = record { at = g; state = q; step = step; label = l; to = h; now = r }

abbrev pub place : ℕ → ℕ → Place
place g q = record { at = g; now = q }

-- ---- a record looked at

-- the list with one item more, found from item `head` by record r
abbrev pub with_item : List ℕ → ℕ → ℕ → Rec → List ℕ
with_item w tail head r = put_bit (put_cell (put_at w (record_len * tail) (trail_rec_bytes r)) parents_base 2 tail head) seen_base (8 * r.to + r.now)

-- nothing, where its place was met
pub pushed : List ℕ → ℕ → ℕ → Rec → List ℕ
pushed w tail head r = cond (seen w r.to r.now) w (with_item w tail head r)

pub pushed_tail : List ℕ → ℕ → ℕ → Rec → ℕ
pushed_tail w tail head r = cond (seen w r.to r.now) tail (suc tail)

-- by their bytes, strictly
abbrev pub Sooner : Rec → Rec → Type 0
Sooner r t = Before (trail_rec_bytes r) (trail_rec_bytes t)

-- ---- the records that leave a place, in order

module _ (G : Graph) (mon : Monitor) where
  abbrev pub edge_at : ℕ → Edge
  edge_at j = get_or G.edges j no_edge

  -- the numbers of the edges of node g from j on
  abbrev pub edges_from : ℕ → ℕ → List ℕ
  edges_from g j = span j (first_edge G (suc g) - j)

  abbrev pub internal_at : Place → ℕ → List Rec
  internal_at x j = cond (eqb (edge_at j).label 0) (record { at = x.at; state = x.now; step = 1; label = 0; to = (edge_at j).to; now = x.now } ∷ []) []

  -- the entries of method l, in state q
  abbrev pub entry_recs : Place → ℕ → List ℕ → List Rec
  entry_recs x l ns =
      map (λ (n : ℕ). record { at = x.at; state = x.now; step = 2; label = l; to = n; now = mon x.now (calls (meth G x.at) l) }) (keep (is_entry_of G mon l) ns)

  -- node g has an edge of label l, from edge j on
  abbrev pub calls_from : ℕ → ℕ → ℕ → Bool
  calls_from g j l = any (λ (i : ℕ). eqb (edge_at i).label l) (edges_from g j)

  abbrev pub entered_at : Place → ℕ → List Rec
  entered_at x l = cond (calls_from x.at (first_edge G x.at) l) (entry_recs x l (span 0 (size G))) []

  -- the labels that node g calls, as a set in which digit l stands for method l + 1
  abbrev pub CalledSet : ℕ → ℕ → Type 0
  CalledSet g x = (l : ℕ) → l < 8 → member x l ≡ calls_from g (first_edge G g) (suc l)

  -- the states in which the call over edge e can end, from state q
  abbrev pub ends_in : Edge → ℕ → ℕ → Bool
  ends_in e q r = any (callee G mon e q r) (spots G mon)

  abbrev pub passed_recs : Place → ℕ → List ℕ → List Rec
  passed_recs x j qs =
      map (λ (q : ℕ). record { at = x.at; state = x.now; step = 3; label = (edge_at j).label; to = (edge_at j).to; now = q }) (keep (ends_in (edge_at j) x.now) qs)

  abbrev pub passed_at : Place → ℕ → List Rec
  passed_at x j = cond (eqb (edge_at j).label 0) [] (passed_recs x j (span 0 8))

  pub internals : Place → ℕ → List Rec
  internals x j = each (internal_at x) (edges_from x.at j)

  pub entereds : Place → ℕ → List Rec
  entereds x l = each (entered_at x) (span l (9 - l))

  pub passeds : Place → ℕ → List Rec
  passeds x j = each (passed_at x) (edges_from x.at j)

  -- all, where the node is no return node
  pub outgoing : Place → List Rec
  outgoing x = internals x (first_edge G x.at) ++ (entereds x 1 ++ passeds x (first_edge G x.at))

  -- the starts at those of the nodes ns that are entries of method m
  abbrev pub starts_of : ℕ → List ℕ → List Rec
  starts_of m ns = map (started G mon) (keep (is_entry_of G mon m) ns)

  -- ---- the search

  module _ (m : ℕ) where
    -- `head` items are searched from, and of the records from the next one those of the list rs are still to be looked at
    pub record Searching (head tail : ℕ) (rs : List Rec) (w : List ℕ) : Type 0 where
      pub room : watch_room ≤ length w
      pub tables : Tables G mon w
      pub way : ℕ → List Rec
      pub searched : Searched (leaving G mon m) end trail_rec_bytes before head tail (item_end w) way (λ r. Memᴰ r rs)
      pub linked : (i : ℕ) → 0 < i → i < tail → (parent w i < i) × (way i ≡ item w i ∷ way (parent w i))
      pub in_range : (i : ℕ) → 0 < i → i < tail → ((item w i).to < size G) × ((item w i).now < 8)
      pub seen_met : (g q : ℕ) → g < size G → q < 8 → T (seen w g q) → Met tail (item_end w) (here (record { at = g; now = q }))
      pub met_seen : (g q : ℕ) → g < size G → q < 8 → Met tail (item_end w) (here (record { at = g; now = q })) → T (seen w g q)
      pub entered_seen : (l q n : ℕ) → l < 9 → q < 8 → T (entered w l q) → EntryOf G l n → T (seen w n q)
      pub few : tail ≤ suc (places_seen w)

    -- a record that may be looked at next from item `head`
    pub record Leaving (head : ℕ) (w : List ℕ) (r : Rec) : Type 0 where
      pub leaves : Memᴰ r (leaving G mon m (item_end w head))
      pub to_node : r.to < size G
      pub now_small : r.now < 8

    -- item `head` stands at a place from which edges run
    pub record Here (head tail : ℕ) (w : List ℕ) (x : Place) : Type 0 where
      pub below : head < tail
      pub is_here : item_end w head ≡ here x
      pub at_node : x.at < size G
      pub now_small : x.now < 8
      pub no_return : T (not (node G x.at).ret)

    -- the records rs can be looked at, and others after them
    pub record May (head : ℕ) (rs : List Rec) (tail : ℕ) (w : List ℕ) : Type 0 where
      pub more : List Rec
      pub ascends : Ascends Sooner (rs ++ more)
      pub searching : Searching head tail (rs ++ more) w

    -- of the records rs, those before rs' were looked at
    pub record LookedTo (head : ℕ) (rs rs' : List Rec) (tail tail' : ℕ) (w w' : List ℕ) : Type 0 where
      pub ascends_on : (more : List Rec) → Ascends Sooner (rs ++ more) → Ascends Sooner (rs' ++ more)
      pub searching_on : (more : List Rec) → Ascends Sooner (rs ++ more) → Searching head tail (rs ++ more) w → Searching head tail' (rs' ++ more) w'
      pub ends_kept : (i : ℕ) → i < tail → item_end w' i ≡ item_end w i
      pub longer : tail ≤ tail'

    -- all were
    abbrev pub Looked : ℕ → List Rec → ℕ → ℕ → List ℕ → List ℕ → Type 0
    Looked head rs tail tail' w w' = LookedTo head rs [] tail tail' w w'

    -- `head` items are searched from, none of them bad, and the next one's turn has come
    pub record Turn (head tail : ℕ) (w : List ℕ) : Type 0 where
      pub searching : Searching head tail (leaving G mon m (item_end w head)) w
      pub behind : head ≤ tail
      pub past_start : 0 < head
      pub good : (i : ℕ) → i < head → T (is_bad (item_end w i)) → ⊥

    -- the items from i back to the first spell the trail
    pub record Traced (i : ℕ) (w : List ℕ) : Type 0 where
      pub way : ℕ → List Rec
      pub first_way : way 0 ≡ []
      pub linked : (k : ℕ) → 0 < k → k ≤ i → (parent w k < k) × (way k ≡ item w k ∷ way (parent w k))
      pub is_trail : turned (leaving G mon m) end trail_rec_bytes (way i) [] ≡ trail G mon m
      pub few : i ≤ points

    -- what the search says: 0 where the verdict is clean, else the item at which the trail ends
    abbrev pub Says : ℕ → List ℕ → Type 0
    Says i w = ((i ≡ 0) × T (clean G mon m)) ⊎ ((0 < i) × T (not (clean G mon m)) × Traced i w)

-- the summaries of each method 1 to 8 and entry state, by value
abbrev pub Yielding : Graph → Monitor → List (List ℕ) → Type 0
Yielding G mon t = (l p s : ℕ) → l < 8 → p < 8 → s < 8 → T (member (get_or (get_or t l []) p 0) s) ↔ Yields G mon (suc l) p s
