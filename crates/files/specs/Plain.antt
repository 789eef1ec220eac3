-- A graph file that is plainly in order: nodes with nothing wrong, then edges with nothing wrong, ascending, each between two of those nodes and inside
-- one method. What one pass over the file tells; Laws says that such a file within the limits is accepted.
use Rattle.std.specs.Prelude.{◌≡◌, not, List, ℕ, suc, ◌+◌, ◌*◌, ◌≤◌, ◌<◌, T}
use Rattle.files.specs.Basics.Lexical.{Before}
use Rattle.files.specs.Places.{two_bytes_end, byte_end}
use Rattle.files.specs.Record.{record_at, kind_at, node_wrong, edge_wrong}
use Rattle.files.specs.Refusal.{edge_key, method_at}
use Rattle.files.specs.declared.record.Record.{Record}
pub mod Laws

abbrev pub PlainNode : List ℕ → ℕ → Type 0
PlainNode l i = (kind_at l i ≡ 1) × T (not (node_wrong (record_at l i)))

-- an edge between two of the first m records, of one method
abbrev pub Inside : List ℕ → ℕ → Record → Type 0
Inside l m r = (r.first < m) × ((r.third < m) × (method_at l r.third ≡ method_at l r.first))

abbrev pub PlainEdge : List ℕ → ℕ → ℕ → Type 0
PlainEdge l m i = (kind_at l i ≡ 2) × (T (not (edge_wrong (record_at l i))) × Inside l m (record_at l i))

-- the records from m up to n are edges between the first m, and ascend
pub record PlainEdges (l : List ℕ) (m n : ℕ) : Type 0 where
  pub edges_right : (i : ℕ) → m ≤ i → i < n → PlainEdge l m i
  pub edges_ascend : (i : ℕ) → m ≤ i → suc i < n → Before (edge_key (record_at l i)) (edge_key (record_at l (suc i)))

-- an edge's key as one number
abbrev pub edge_number : Record → ℕ
edge_number r = two_bytes_end * r.first + byte_end * r.second + r.third
