-- The search for the largest simulation in a lent buffer: a row of bits for each node of the first graph, what it is still related to; beside it what the row was when it was
-- last taken; and, to look up, the first graph's edges by where they lead to and their label, and the neighbours of each node of the second graph.
use Rattle.std.specs.Prelude.{◌≡◌, ◌⊎◌, Bool, ◌&&◌, List, ℕ, ◌+◌, ◌*◌, ◌/◌, ◌%◌, ◌≤◌, ◌<◌, T, eqb, ltb, length, get_or}
use Rattle.files.specs.Basics.Tables.{tally}
use Rattle.files.specs.Basics.Tests.{any, one}
use Rattle.files.specs.Cells.{has_bit}
use Rattle.files.specs.Graph.{Graph, Node, Edge, size, node, no_edge}
use Rattle.files.specs.Places.{line_bytes, max_nodes}
use Rattle.files.specs.View.{Held}
use Rattle.judging.specs.Places.{compare_room, heads_base, held_base, kinds_base, neighbours_base, nexts_base}
use Rattle.judging.specs.declared.sizes.Sizes.{Sizes}
use Rattle.judging.specs.Chains.{Chained}
use Rattle.judging.specs.Simulation.{alike, related}
pub mod Files
pub mod Rows
pub mod Preparing
pub mod Handing
pub mod Taking
pub mod Cover

-- both files are accepted, their counts are the sizes, and fit the buffer's strides
pub record Both (s : Sizes) (f g : List ℕ) : Type 0 where
  pub first_held : Held s.first f
  pub second_held : Held s.second g

-- ---- what the buffer holds

-- g and h are still related
abbrev pub rel : List ℕ → ℕ → ℕ → Bool
rel w g h = has_bit w (32 * g) h

-- they were when the row of g was last taken
abbrev pub held : List ℕ → ℕ → ℕ → Bool
held w g h = has_bit w (held_base + line_bytes * g) h

-- how many pairs of the first n nodes are held
abbrev pub load : ℕ → List ℕ → ℕ
load n w = tally (λ (p : ℕ). held w (p / 256) (p % 256)) (256 * n)

-- row m of neighbours has y
abbrev pub neighbour : List ℕ → ℕ → ℕ → Bool
neighbour w m y = has_bit w (neighbours_base + line_bytes * m) y

-- an edge with label l leads from x to y, looked up by where it comes from
abbrev pub follows : List ℕ → ℕ → ℕ → ℕ → Bool
follows w x l y = neighbour w (10 * x + l) y

-- an edge leads from x to y, whatever its label, looked up by where it leads to
abbrev pub comes : List ℕ → ℕ → ℕ → Bool
comes w y x = neighbour w (10 * y + 9) x

-- method and return flag as one number
abbrev pub kind : Node → ℕ
kind v = 2 * v.method + one v.ret

-- h stands in the row of kind k
abbrev pub of_kind : List ℕ → ℕ → ℕ → Bool
of_kind w k h = has_bit w (kinds_base + line_bytes * k) h

abbrev pub edge : Graph → ℕ → Edge
edge G e = get_or G.edges e no_edge

-- edge e leads to node k / 9 with label k % 9
abbrev pub labelled_into : Graph → ℕ → ℕ → Bool
labelled_into G k e = eqb (9 * (edge G e).to + (edge G e).label) k

-- node h has an edge with label l to a node that v has
abbrev pub Reaches : Graph → (ℕ → Type 0) → ℕ → ℕ → Type 0
Reaches H v h l = (d : ℕ) × (d < length H.edges) × ((edge H d).from ≡ h) × ((edge H d).label ≡ l) × v (edge H d).to

-- some edge with label l leads from node g to node h
pub leads_into : Graph → ℕ → ℕ → ℕ → Bool
leads_into H h l g = any (λ (d : Edge). eqb d.to h && (eqb d.label l && eqb d.from g)) H.edges

-- an edge leads from node h to node g, whatever its label
abbrev pub Leads : Graph → ℕ → ℕ → Type 0
Leads H h g = (d : ℕ) × (d < length H.edges) × ((edge H d).from ≡ h) × ((edge H d).to ≡ g)

pub leads_to : Graph → ℕ → ℕ → Bool
leads_to H h g = any (λ (d : Edge). eqb d.to h && eqb d.from g) H.edges

-- the rows of kinds have the nodes below n
abbrev pub KindRows : Graph → ℕ → List ℕ → Type 0
KindRows H n w = (k h : ℕ) → k < 18 → h < max_nodes → of_kind w k h ≡ (ltb h n && eqb (kind (node H h)) k)

-- the neighbours of the nodes below n
pub record Neighbours (H : Graph) (n : ℕ) (w : List ℕ) : Type 0 where
  pub successors : (x l y : ℕ) → x < n → l < 9 → y < max_nodes → follows w x l y ≡ leads_into H y l x
  pub predecessors : (y x : ℕ) → y < n → x < max_nodes → comes w y x ≡ leads_to H y x

-- ---- a row apart

abbrev pub In : List ℕ → ℕ → Type 0
In r h = T (has_bit r 0 h)

-- the row has nodes below n only
abbrev pub Within : ℕ → List ℕ → Type 0
Within n r = (h : ℕ) → h < max_nodes → In r h → h < n

-- from m to m' by adding the predecessors of those nodes from a up to b that the row c has
pub record Preceded (w c m m' : List ℕ) (a b : ℕ) : Type 0 where
  pub grown : (x : ℕ) → x < max_nodes → In m x → In m' x
  pub added : (h x : ℕ) → a ≤ h → h < b → x < max_nodes → In c h → T (comes w h x) → In m' x

-- the row m has every node with an edge to a node that v held and that the row r has not
abbrev pub LostMet : Graph → List ℕ → ℕ → List ℕ → List ℕ → Type 0
LostMet H w v r m = (h x : ℕ) → h < size H → x < max_nodes → T (held w v h) → (In r h → ⊥) → T (leads_to H h x) → In m x

-- the row m has every node with an edge to a node that the row r has
abbrev pub Preceding : Graph → List ℕ → List ℕ → Type 0
Preceding H r m = (h x : ℕ) → h < size H → x < max_nodes → In r h → T (leads_to H h x) → In m x

-- an edge of x with label l leads into the row r
abbrev pub Meets : List ℕ → ℕ → List ℕ → ℕ → Type 0
Meets w l r x = (y : ℕ) × (y < max_nodes) × In r y × T (follows w x l y)

-- the row c has, of the nodes below n, those that p tells
abbrev pub Chosen : (ℕ → Bool) → ℕ → List ℕ → Type 0
Chosen p n c = (x : ℕ) → x < max_nodes → has_bit c 0 x ≡ (p x && ltb x n)

-- the row c has, of the nodes below n, those without an edge of label l
pub record Lacking (w : List ℕ) (l n : ℕ) (c : List ℕ) : Type 0 where
  pub without_edge : (x : ℕ) → x < max_nodes → In c x → (x < n) × ((y : ℕ) → y < max_nodes → T (follows w x l y) → ⊥)
  pub with_edge : (x : ℕ) → x < n → (In c x → ⊥) → (y : ℕ) × (y < max_nodes) × T (follows w x l y)

-- from d to d' by adding node x, where no edge of it with label l leads into the row r
pub record Asked (w : List ℕ) (l : ℕ) (r d d' : List ℕ) (x : ℕ) : Type 0 where
  pub grown : (y : ℕ) → y < max_nodes → In d y → In d' y
  pub unmet : (y : ℕ) → y < max_nodes → In d' y → In d y ⊎ (Meets w l r y → ⊥)
  pub met : (In d' x → ⊥) → Meets w l r x

-- from d to d' by adding those nodes from a up to b that the row c has and of which no edge with label l leads into the row r
pub record Sifted (w : List ℕ) (l : ℕ) (r c d d' : List ℕ) (a b : ℕ) : Type 0 where
  pub grown : (x : ℕ) → x < max_nodes → In d x → In d' x
  pub unmet : (x : ℕ) → x < max_nodes → In d' x → In d x ⊎ (Meets w l r x → ⊥)
  pub met : (x : ℕ) → a ≤ x → x < b → In c x → (In d' x → ⊥) → Meets w l r x

module _ (G H : Graph) where
  -- ---- the search

  -- nothing of the largest simulation is lost, what is related agrees, and what is looked up stands beside it
  pub record Refining (w : List ℕ) : Type 0 where
    pub room : compare_room ≤ length w
    pub by_slot : Chained w heads_base nexts_base (labelled_into G) (9 * size G) (length G.edges)
    pub neighbours : Neighbours H (size H) w
    pub inside : (g h : ℕ) → g < size G → h < max_nodes → T (rel w g h) → (h < size H) × T (alike (node G g) (node H h))
    pub contains : (g h : ℕ) → T (related G H g h) → T (rel w g h)

  -- from w on to w' by dropping pairs that no simulation has
  pub record Shrank (w w' : List ℕ) : Type 0 where
    pub refining : Refining w'
    pub rel_less : (g h : ℕ) → g < size G → h < max_nodes → T (rel w' g h) → T (rel w g h)
    pub held_kept : (g h : ℕ) → g < size G → h < max_nodes → held w' g h ≡ held w g h

  -- the row r has what the largest simulation gives v
  abbrev pub Contained : ℕ → List ℕ → Type 0
  Contained v r = (h : ℕ) → T (related G H v h) → In r h

  -- every edge into v with label l is matched by the row r: by an equally labelled edge that leads into it
  pub LabelMatched : List ℕ → ℕ → ℕ → List ℕ → Type 0
  LabelMatched w v l r = (e h : ℕ) → e < length G.edges → (edge G e).to ≡ v → (edge G e).label ≡ l → h < max_nodes → T (rel w (edge G e).from h) → Reaches H (In r) h l

  -- every edge into v is matched by what v holds
  pub NodeMatched : List ℕ → ℕ → Type 0
  NodeMatched w v = (e h : ℕ) → e < length G.edges → (edge G e).to ≡ v → h < max_nodes → T (rel w (edge G e).from h) → Reaches H (λ (t : ℕ). T (held w v t)) h (edge G e).label

  -- what the sources of edges with label l are related to has an edge with that label
  pub Leading : List ℕ → ℕ → Type 0
  Leading w l = (e h : ℕ) → e < length G.edges → (edge G e).label ≡ l → h < max_nodes → T (rel w (edge G e).from h) → Reaches H (λ (t : ℕ). t < size H) h l

  -- what an edge into v with label l may lack a match for stands in the row c
  pub record Candidates (w : List ℕ) (v l : ℕ) (r c : List ℕ) : Type 0 where
    pub within : Within (size H) c
    pub complete : (e h : ℕ) → e < length G.edges → (edge G e).to ≡ v → (edge G e).label ≡ l → h < max_nodes → T (rel w (edge G e).from h) → In c h ⊎ Reaches H (In r) h l

  -- from w on to w' by taking the row of v
  pub record Took (v : ℕ) (w w' : List ℕ) : Type 0 where
    pub refining : Refining w'
    pub rel_less : (g h : ℕ) → g < size G → h < max_nodes → T (rel w' g h) → T (rel w g h)
    pub held_now : (h : ℕ) → h < max_nodes → held w' v h ≡ rel w v h
    pub held_kept : (g h : ℕ) → g < size G → h < max_nodes → (g ≡ v → ⊥) → held w' g h ≡ held w g h
    pub matched : NodeMatched w' v

  -- node v holds what it is related to, and the edges into it are matched by what it holds
  pub record MatchedAt (w : List ℕ) (v : ℕ) : Type 0 where
    pub holding : (h : ℕ) → h < max_nodes → T (rel w v h) → T (held w v h)
    pub node_matched : NodeMatched w v

  -- the first n nodes hold what they are related to, and the edges into them are matched by what they hold
  pub record Matching (n : ℕ) (w : List ℕ) : Type 0 where
    pub refining : Refining w
    pub holding : (v h : ℕ) → v < n → h < max_nodes → T (rel w v h) → T (held w v h)
    pub node_matched : (v : ℕ) → v < n → NodeMatched w v

  -- what is related is the largest simulation
  pub Settled : List ℕ → Type 0
  Settled w = (g h : ℕ) → g < size G → h < max_nodes → rel w g h ≡ related G H g h
