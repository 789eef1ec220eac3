-- The fault sheet (01's name for the ranked diagnosis): where a property fails, the pairs of a node and a row that say why, breadth first.
use Rattle.std.specs.Prelude.{Bool, not, cond, ◌&&◌, ◌||◌, List, [], ◌∷◌, map, ℕ, ◌*◌, eqb, ltb, leb, length, get_or}
use Rattle.std.proofs.Math.Option.{Option, none, some}
use Rattle.files.specs.Basics.Lists.{keep, each}
use Rattle.files.specs.Basics.Least.{least}
use Rattle.files.specs.Basics.Queue.{breadth_first}
use Rattle.files.specs.Basics.Tables.{table}
use Rattle.files.specs.Graph.{Graph, Edge, size, node}
use Rattle.files.specs.Property.{Row, always, never, returns, not_returns, in_method, not_in_method, both, either, box, box_all, row, obliged}
use Rattle.files.specs.Record.{record_at, count}
use Rattle.files.specs.declared.record.Record.{Record}
use Rattle.judging.specs.Levels.{holds, satisfies, rank}
pub mod Meaning
pub mod Causes
pub mod Laws
pub mod Examples

abbrev pub same_pair : ℕ × ℕ → ℕ × ℕ → Bool
same_pair x y = eqb x.0 y.0 && eqb x.1 y.1

-- a record of the sheet: a pair of a node and a row, its first cause and its second cause
pub record Fault : Type 0 where
  pub pair : ℕ × ℕ
  pub first : ℕ × ℕ
  pub second : ℕ × ℕ

-- "A record is node, row, first cause's node and row, second cause's node and row."
abbrev pub fault_bytes : Fault → List ℕ
fault_bytes f = f.pair.0 ∷ f.pair.1 ∷ f.first.0 ∷ f.first.1 ∷ f.second.0 ∷ f.second.1 ∷ []

-- the six bytes as a record: its first is called kind, whatever they say
abbrev pub fault_record : Fault → Record
fault_record f = record { kind = f.pair.0; first = f.pair.1; second = f.first.0; third = f.first.1; fourth = f.second.0; fifth = f.second.1 }

abbrev pub fault_of : Record → Fault
fault_of r = record { pair = (r.kind, r.first); first = (r.second, r.third); second = (r.fourth, r.fifth) }

-- the sheet that bytes hold
pub read_sheet : List ℕ → List Fault
read_sheet l = table (λ i. fault_of (record_at l i)) 0 (count l)

-- "No cause is node 0, row 255."
abbrev pub no_cause : ℕ × ℕ
no_cause = (0, 255)

abbrev pub obliged_pair : ℕ → Option ℕ → List (ℕ × ℕ)
obliged_pair t none = []
obliged_pair t (some b) = (t, b) ∷ []

module _ (G : Graph) where
  -- what row x obliges the ends of g's edges to: each end with its row
  unfoldable pub targets : ℕ → Row → List (ℕ × ℕ)
  targets g x = each (λ (e : Edge). obliged_pair e.to (obliged x e.label)) (keep (λ (e : Edge). eqb e.from g) G.edges)

module _ (G : Graph) (P : List Row) where
  -- '"And" has the lower-ranked false operand, ties to a'. (The rank of a row that holds is past every other: Ranks, `rank_bound` and `low_false`.)
  unfoldable pub lower : ℕ → ℕ → ℕ → ℕ
  lower g a b = cond (leb (rank G P g a) (rank G P g b)) a b

  -- x has a lower rank than y, or the same, and is at no higher a node
  unfoldable pub ahead : ℕ × ℕ → ℕ × ℕ → Bool
  ahead x y = ltb (rank G P x.0 x.1) (rank G P y.0 y.1) || (eqb (rank G P x.0 x.1) (rank G P y.0 y.1) && leb x.0 y.0)

  -- "a box has the target of lowest rank, ties to the lowest node"
  unfoldable pub foremost : ℕ × ℕ → List (ℕ × ℕ) → ℕ × ℕ
  foremost x [] = x
  foremost x (y ∷ ys) = foremost (cond (ahead x y) x y) ys

  unfoldable pub box_causes : List (ℕ × ℕ) → List (ℕ × ℕ)
  box_causes [] = []
  box_causes (x ∷ xs) = foremost x xs ∷ []

  -- the causes of a false pair, by its row: '"or" has both, a first'; "the rest have none"
  unfoldable pub row_causes : ℕ → Row → List (ℕ × ℕ)
  row_causes g always = []
  row_causes g never = []
  row_causes g returns = []
  row_causes g not_returns = []
  row_causes g (in_method a) = []
  row_causes g (not_in_method a) = []
  row_causes g (both a b) = (g, lower g a b) ∷ []
  row_causes g (either a b) = (g, a) ∷ (g, b) ∷ []
  row_causes g (box l b) = box_causes (targets G g (box l b))
  row_causes g (box_all a) = box_causes (targets G g (box_all a))

  unfoldable pub causes : ℕ × ℕ → List (ℕ × ℕ)
  causes x = row_causes x.0 (row P x.1)

  -- "lowest failing entry"
  unfoldable pub failing : ℕ
  failing = least (λ (g : ℕ). (node G g).entry && not (holds G P g 0)) (size G)

  -- "On failure the fault sheet starts at (lowest failing entry, row 0) and lists pairs breadth first, each once."
  unfoldable pub pairs : List (ℕ × ℕ)
  pairs = let xs = breadth_first same_pair causes (size G * length P) (failing, 0) in cond (satisfies G P) [] xs

  unfoldable pub fault : ℕ × ℕ → Fault
  fault x = let cs = causes x in record { pair = x; first = get_or cs 0 no_cause; second = get_or cs 1 no_cause }

  unfoldable pub sheet : List Fault
  sheet = map fault pairs

  unfoldable pub sheet_bytes : List ℕ
  sheet_bytes = each fault_bytes sheet
