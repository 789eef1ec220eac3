-- What the code reads of an accepted file: the nodes, edges, rows and rules of its decoded value, as the code holds them, so that nothing above reads bytes.
use Rattle.std.specs.Prelude.{◌≡◌, Bool, cond, List, ℕ, eqb, ltb, length, get_or, Option, Some, None}
use Rattle.std.proofs.Math.Option.{none}
use Rattle.files.specs.Basics.Tables.{tally}
use Rattle.files.specs.Graph.{Node, Edge, Graph, no_edge}
use Rattle.files.specs.Property.{Row, always, never, returns, not_returns, in_method, not_in_method, both, either, box, box_all, aims, box_row}
use Rattle.files.specs.Rules.{Rule}
use Rattle.files.specs.Decode.{row_rec}
use Rattle.files.specs.Refusal.{Kind, graph, property, rules, interface, refusal}
use Rattle.files.specs.declared.record.Limits.{Limits}
use Rattle.files.specs.declared.graph.GraphNode.{GraphNode}
use Rattle.files.specs.declared.graph.GraphEdge.{GraphEdge}
use Rattle.files.specs.declared.property.PropertyRow.{PropertyRow}
use Rattle.files.specs.declared.property.PropertyRow.TheVariants.{True, False, InMethod, NotInMethod, Returns, NotReturns, And, Or, Box, BoxAll}
use Rattle.files.specs.declared.rules.MonitorRule.{MonitorRule}
pub mod Laws
pub mod Boxes

-- a file that some limits accept
pub record AcceptedAs (k : Kind) (l : List ℕ) : Type 0 where
  pub limits : Limits
  pub accepted : refusal limits k l ≡ none

abbrev pub GraphFile : List ℕ → Type 0
GraphFile l = AcceptedAs graph l

abbrev pub PropertyFile : List ℕ → Type 0
PropertyFile l = AcceptedAs property l

abbrev pub RulesFile : List ℕ → Type 0
RulesFile l = AcceptedAs rules l

abbrev pub InterfaceFile : List ℕ → Type 0
InterfaceFile l = AcceptedAs interface l

-- ---- values as the code holds them

abbrev pub node_held : Node → GraphNode
node_held v = record { method = v.method; returns = v.ret; entry = v.entry }

abbrev pub edge_held : Edge → GraphEdge
edge_held e = record { from = e.from; label = e.label; to = e.to }

abbrev pub row_held : Row → PropertyRow
row_held always = True
row_held never = False
row_held (in_method a) = InMethod a
row_held (not_in_method a) = NotInMethod a
row_held returns = Returns
row_held not_returns = NotReturns
row_held (both a b) = And a b
row_held (either a b) = Or a b
row_held (box l b) = Box l b
row_held (box_all a) = BoxAll a

-- the row of a record, by its operator and its operands
abbrev pub row_by : ℕ → ℕ → ℕ → PropertyRow
row_by o a b =
    cond (eqb o 2) False (cond (eqb o 3) (InMethod a) (cond (eqb o 4) (NotInMethod a) (cond (eqb o 5) Returns (cond (eqb o 6) NotReturns (cond (eqb o 7) (And a b)
    (cond (eqb o 8) (Or a b) (cond (eqb o 9) (Box a b) (cond (eqb o 10) (BoxAll a) True))))))))

-- the operator of a row that is held, and its operands, 0 where it has none, as they stand in its record (Laws, `held_record`)
abbrev pub operator_of : PropertyRow → ℕ
operator_of True = 1
operator_of False = 2
operator_of (InMethod a) = 3
operator_of (NotInMethod a) = 4
operator_of Returns = 5
operator_of NotReturns = 6
operator_of (And a b) = 7
operator_of (Or a b) = 8
operator_of (Box l b) = 9
operator_of (BoxAll a) = 10

abbrev pub first_of : PropertyRow → ℕ
first_of True = 0
first_of False = 0
first_of (InMethod a) = a
first_of (NotInMethod a) = a
first_of Returns = 0
first_of NotReturns = 0
first_of (And a b) = a
first_of (Or a b) = a
first_of (Box l b) = l
first_of (BoxAll a) = a

abbrev pub second_of : PropertyRow → ℕ
second_of True = 0
second_of False = 0
second_of (InMethod a) = 0
second_of (NotInMethod a) = 0
second_of Returns = 0
second_of NotReturns = 0
second_of (And a b) = b
second_of (Or a b) = b
second_of (Box l b) = b
second_of (BoxAll a) = 0

-- whether a row looks along an edge of label l, and the row that it then looks at
abbrev pub aims_along : PropertyRow → ℕ → Bool
aims_along x l = aims (operator_of x) (first_of x) l

abbrev pub looked_at : PropertyRow → ℕ
looked_at x = box_row (operator_of x) (first_of x) (second_of x)

-- the row, if any, that a row looks at along a label (Boxes, `looks_obliged`: what the row obliges to)
abbrev pub looks : PropertyRow → ℕ → Option ℕ
looks x l = cond (aims_along x l) (Some (looked_at x)) None

abbrev pub rule_held : Rule → MonitorRule
rule_held u = record { state = u.state; event = u.event.kind; m1 = u.event.m1; m2 = u.event.m2; next = u.next }

-- ---- the edges of a node

-- how many edges leave nodes below g: edges ascend by `from`, so this is the first edge of node g
pub first_edge : Graph → ℕ → ℕ
first_edge G g = tally (λ j. ltb (get_or G.edges j no_edge).from g) (length G.edges)
