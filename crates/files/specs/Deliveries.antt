-- "Suppliers send one file holding several deliveries." How a file is cut at its openings, its refusals 1 to 8 beside the table's words for them, the deliveries that it
-- holds and their bytes, which of them stand, and the graph that they make.
use Rattle.std.specs.Prelude.{◌≡◌, ◌⊎◌, Bool, not, cond, ◌&&◌, ◌||◌, ℕ, zero, suc, ◌+◌, ◌-◌, ◌%◌, ◌≤◌, ◌<◌, ltb, eqb, length, get_or}
use mathlib.Core.List.{List, [], ◌∷◌, ◌++◌, map, Memᴰ}
use Rattle.std.proofs.Math.Option.{Option, none, some}
use Rattle.files.specs.Basics.First.{first_where, whole, pick, last_where}
use Rattle.files.specs.Basics.Least.{least}
use Rattle.files.specs.Basics.Lists.{keep, each, span}
use Rattle.files.specs.Basics.Permuted.{pairs}
use Rattle.files.specs.Basics.Tests.{any, upto}
use Rattle.files.specs.Decode.{decode_graph, graph_bytes, Filed}
use Rattle.files.specs.Graph.{Node, Edge, Graph, size, node}
use Rattle.files.specs.Join.{join}
use Rattle.files.specs.Record.{record_at, count, kind_at, part, out_of, used, wrong, six}
use Rattle.files.specs.Refusal.{graph, of_kind, misplaced, disordered, passed, past, crossing}
use Rattle.files.specs.Table.{Ragged, Out, Used, Wrong, Misplaced, Disordered, Passed, Past, Crossing}
use Rattle.files.specs.declared.record.Limits.{Limits}
use Rattle.files.specs.declared.record.Record.{Record}
pub mod Standing
pub mod Assembled
pub mod Blocks
pub mod Layout
pub mod Repeats
pub mod Parts
pub mod Refused
pub mod Cuts
pub mod Decoded
pub mod Behind
pub mod Written
pub mod Steps
pub mod Looks
pub mod Names
pub mod Latest
pub mod Met
pub mod Examples

-- ---- the openings

-- "Each opens with 6, method, revision 1..255, 0, 0, 0"
abbrev pub opening_record : ℕ → ℕ → Record
opening_record m r = record { kind = 6; first = m; second = r; third = 0; fourth = 0; fifth = 0 }

abbrev pub opens : List ℕ → ℕ → Bool
opens l i = of_kind l 6 i

-- "followed by that method's nodes and edges, numbered from 0 within the delivery": where the delivery of record i starts, which is behind the last opening before i,
-- or 0 where there is none
abbrev pub own_start : List ℕ → ℕ → ℕ
own_start l i = last_where (opens l) i

-- the first opening from record a on, or the count
abbrev pub own_end : List ℕ → ℕ → ℕ
own_end l a = a + least (λ k. opens l (a + k)) (count l - a)

-- the records from a on up to the next opening, a graph file by themselves
abbrev pub opened : List ℕ → ℕ → List ℕ
opened l a = part l a (own_end l a - a)

-- the delivery of record i, and the number of record i in it
abbrev pub own_part : List ℕ → ℕ → List ℕ
own_part l i = opened l (own_start l i)

abbrev pub own_number : List ℕ → ℕ → ℕ
own_number l i = i - own_start l i

-- the method of the opening before record i
abbrev pub own_method : List ℕ → ℕ → ℕ
own_method l i = (record_at l (own_start l i - 1)).first

-- ---- refusals 1 to 8, computed

-- 2: "each opens with": a record before any opening is out of place, and so is one that is out of place in its delivery
abbrev pub delivery_misplaced : List ℕ → ℕ → Bool
delivery_misplaced l i = not (opens l i) && (eqb (own_start l i) 0 || misplaced graph (own_part l i) (own_number l i))

-- 3: a field is out of range, or an unused byte is not 0, by the record's own kind
abbrev pub opening_wrong : Record → Bool
opening_wrong r = out_of 1 8 r.first || (out_of 1 255 r.second || (used r.third || (used r.fourth || used r.fifth)))

abbrev pub delivery_wrong : Record → Bool
delivery_wrong r = wrong r || (eqb r.kind 6 && opening_wrong r)

-- 4: the order is broken within the delivery
abbrev pub delivery_disordered : List ℕ → ℕ → Bool
delivery_disordered l i = not (opens l i) && disordered graph (own_part l i) (own_number l i)

-- 5: "5 counts each delivery"
abbrev pub delivery_passed : Limits → List ℕ → Bool
delivery_passed L l = any (λ o. opens l o && passed L graph (opened l (suc o))) (upto (count l))

-- 7: a node number past the delivery's last
abbrev pub delivery_past : List ℕ → ℕ → Bool
delivery_past l i = not (opens l i) && past graph (own_part l i) (own_number l i)

-- 8: an edge between two methods of the delivery, and "a node of a foreign method is refused as 8"
abbrev pub foreign_node : List ℕ → ℕ → Bool
foreign_node l i = of_kind l 1 i && not (eqb (record_at l i).first (own_method l i))

abbrev pub delivery_crossing : List ℕ → ℕ → Bool
delivery_crossing l i = not (opens l i) && (crossing graph (own_part l i) (own_number l i) || foreign_node l i)

-- what each number from 1 to 8 finds first; no file of deliveries is refused by 6
pub delivery_findings : Limits → List ℕ → List (Option ℕ)
delivery_findings L l =
    whole (not (eqb (length l % 6) 0)) ∷ first_where (delivery_misplaced l) (count l) ∷ first_where (λ i. delivery_wrong (record_at l i)) (count l)
    ∷ first_where (delivery_disordered l) (count l) ∷ whole (delivery_passed L l) ∷ none ∷ first_where (delivery_past l) (count l)
    ∷ first_where (delivery_crossing l) (count l) ∷ []

-- its lowest number over the whole file, with the first record that offends it
pub delivery_refusal : Limits → List ℕ → Option (ℕ × ℕ)
delivery_refusal L l = pick 1 (delivery_findings L l)

-- ---- the same, as the table words it

-- record i opens nothing, and P is so of the delivery that it stands in, at its number there
abbrev pub Within : List ℕ → (List ℕ → ℕ → Type 0) → ℕ → Type 0
Within l P i = (kind_at l i ≡ 6 → ⊥) × P (own_part l i) (own_number l i)

-- no record before i opens a delivery
abbrev pub Unopened : List ℕ → ℕ → Type 0
Unopened l i = (o : ℕ) → o < i → kind_at l o ≡ 6 → ⊥

abbrev pub OpeningWrong : Record → Type 0
OpeningWrong r = Out 1 8 r.first ⊎ (Out 1 255 r.second ⊎ (Used r.third ⊎ (Used r.fourth ⊎ Used r.fifth)))

-- record i is a node, and its method is not that of its opening
abbrev pub ForeignNode : List ℕ → ℕ → Type 0
ForeignNode l i = (kind_at l i ≡ 1) × ((record_at l i).first ≡ own_method l i → ⊥)

-- some delivery, standing or not, passes a limit
abbrev pub DeliveryPassed : Limits → List ℕ → Type 0
DeliveryPassed L l = (o : ℕ) × (o < count l) × (kind_at l o ≡ 6) × Passed L graph (opened l (suc o))

-- Number n applies at record i. Numbers 1 and 5 are of the whole file, at record 0; 6 applies nowhere.
abbrev pub Delivers : Limits → List ℕ → ℕ → ℕ → Type 0
Delivers L l zero i = ⊥
Delivers L l (suc zero) i = (i ≡ 0) × Ragged l
Delivers L l (suc (suc zero)) i = (i < count l) × ((kind_at l i ≡ 6 → ⊥) × (Unopened l i ⊎ Misplaced graph (own_part l i) (own_number l i)))
Delivers L l (suc (suc (suc zero))) i = (i < count l) × (Wrong (record_at l i) ⊎ ((kind_at l i ≡ 6) × OpeningWrong (record_at l i)))
Delivers L l (suc (suc (suc (suc zero)))) i = (i < count l) × Within l (Disordered graph) i
Delivers L l (suc (suc (suc (suc (suc zero))))) i = (i ≡ 0) × DeliveryPassed L l
Delivers L l (suc (suc (suc (suc (suc (suc zero)))))) i = ⊥
Delivers L l (suc (suc (suc (suc (suc (suc (suc zero))))))) i = (i < count l) × Within l (Past graph) i
Delivers L l (suc (suc (suc (suc (suc (suc (suc (suc zero)))))))) i =
    (i < count l) × ((kind_at l i ≡ 6 → ⊥) × (Crossing graph (own_part l i) (own_number l i) ⊎ ForeignNode l i))
Delivers L l (suc (suc (suc (suc (suc (suc (suc (suc (suc n))))))))) i = ⊥

-- ---- the deliveries that a file holds, and their bytes

pub record Delivery : Type 0 where
  pub method : ℕ
  pub revision : ℕ
  pub body : Graph

-- the delivery that record o opens
abbrev pub delivery_at : List ℕ → ℕ → Delivery
delivery_at l o = record { method = (record_at l o).first; revision = (record_at l o).second; body = decode_graph (opened l (suc o)) }

abbrev pub openings : List ℕ → List ℕ
openings l = keep (opens l) (span 0 (count l))

-- one for each opening, in file order
pub decode_deliveries : List ℕ → List Delivery
decode_deliveries l = map (delivery_at l) (openings l)

abbrev pub delivery_bytes : Delivery → List ℕ
delivery_bytes d = six (opening_record d.method d.revision) ++ graph_bytes d.body

pub deliveries_bytes : List Delivery → List ℕ
deliveries_bytes ds = each delivery_bytes ds

-- what a delivery of an accepted file is: method 1..8, revision 1..255, a graph that a file can hold, all of its nodes of its method
pub record Supplied (L : Limits) (d : Delivery) : Type 0 where
  pub method_in : (1 ≤ d.method) × (d.method ≤ 8)
  pub revision_in : (1 ≤ d.revision) × (d.revision ≤ 255)
  pub body_filed : Filed L d.body
  pub one_method : (v : Node) → Memᴰ v d.body.nodes → v.method ≡ d.method

-- ---- which deliveries stand

-- of two, the one of the higher revision; the first where they are equal, which 14 shuts out
abbrev pub higher : Delivery → Option Delivery → Option Delivery
higher d none = some d
higher d (some e) = cond (ltb d.revision e.revision) (some e) (some d)

-- "For each method the highest revision stands"
abbrev pub standing_of : List Delivery → ℕ → Option Delivery
standing_of [] m = none
standing_of (d ∷ ds) m = cond (eqb d.method m) (higher d (standing_of ds m)) (standing_of ds m)

abbrev pub listed : {A : Type 0} → Option A → List A
listed none = []
listed (some x) = x ∷ []

-- those that stand, of methods 1 to 8 in order
pub standing : List Delivery → List Delivery
standing ds = each (λ m. listed (standing_of ds m)) (span 1 8)

-- ---- the graph that they make

abbrev pub empty_graph : Graph
empty_graph = record { nodes = []; edges = [] }

-- graphs joined, first to last
abbrev pub joined_all : List Graph → Graph
joined_all [] = empty_graph
joined_all (G ∷ Gs) = join G (joined_all Gs)

-- "the resulting graph has methods ascending": the standing bodies joined, in the order of their methods
pub assembled : List Delivery → Graph
assembled ds = joined_all (map (λ (d : Delivery). d.body) (standing ds))

-- ---- 14: "two deliveries of one method with equal revision"

abbrev pub same_issue : Delivery → Delivery → Bool
same_issue d e = eqb d.method e.method && eqb d.revision e.revision

abbrev pub SameIssue : Delivery → Delivery → Type 0
SameIssue d e = (d.method ≡ e.method) × (d.revision ≡ e.revision)

abbrev pub repeated : List Delivery → Bool
repeated ds = pairs same_issue ds

abbrev pub no_delivery : Delivery
no_delivery = record { method = 0; revision = 0; body = empty_graph }

-- delivery i and a later one, j, are of one method and revision
abbrev pub Repeated : List Delivery → Type 0
Repeated ds = (i : ℕ) × (j : ℕ) × (i < j) × (j < length ds) × SameIssue (get_or ds i no_delivery) (get_or ds j no_delivery)

-- the same, by the openings of a file: two of them have equal method and revision
abbrev pub RepeatedOpenings : List ℕ → Type 0
RepeatedOpenings l =
    (i : ℕ) × (j : ℕ) × (i < j) × (j < count l) × (kind_at l i ≡ 6) × (kind_at l j ≡ 6) × ((record_at l i).first ≡ (record_at l j).first) × ((record_at l i).second ≡ (record_at l j).second)

-- ---- one method's part of a graph

-- an edge with its nodes counted from n
abbrev pub counted_from : ℕ → Edge → Edge
counted_from n e = record { from = e.from - n; label = e.label; to = e.to - n }

abbrev pub of_method : ℕ → Node → Bool
of_method m v = eqb v.method m

-- the first node of method m, or the size
abbrev pub first_of : ℕ → Graph → ℕ
first_of m G = least (λ g. of_method m (node G g)) (size G)

-- the nodes of method m in order, and their edges counted from the first of them: the contents of a method, wherever its nodes stand
pub block : ℕ → Graph → Graph
block m G = record { nodes = keep (of_method m) G.nodes; edges = map (counted_from (first_of m G)) (keep (λ e. of_method m (node G e.from)) G.edges) }
