-- The value of an accepted file, the bytes of a value, and what a value is that a file within the limits can hold.
use mathlib.Core.List.{List, [], ◌∷◌, ◌++◌, map, Memᴰ}
use Rattle.std.specs.Prelude.{ℕ, zero, suc, ◌-◌, ◌≤◌, ◌<◌, eqb, length, get_or}
use Rattle.files.specs.Basics.Tables.{table, tally}
use Rattle.files.specs.Basics.Lexical.{Before}
use Rattle.files.specs.declared.record.Record.{Record}
use Rattle.files.specs.declared.record.Limits.{Limits}
use Rattle.files.specs.Record.{record_at, count, node_record, edge_record, row_record, rule_record, interface_record, write}
use Rattle.files.specs.Graph.{Node, Edge, Graph, no_edge, Flow}
use Rattle.files.specs.Property.{Row, always, never, returns, not_returns, in_method, not_in_method, both, either, box, box_all, row, Property, is_either}
use Rattle.files.specs.Rules.{Rule, no_rule}
use Rattle.files.specs.Interface.{Interface}
use Rattle.files.specs.Refusal.{nodes_of}
pub mod AnyFile
pub mod Graphs
pub mod Properties
pub mod RuleFiles
pub mod Followed
pub mod Interfaces
pub mod Written
pub mod Accepted
pub mod Crowded
pub mod Canonical
pub mod Listed
pub mod Values
pub mod Order
pub mod Bytes
pub mod Examples
pub mod LimitExamples

-- ---- graphs

abbrev pub to_node : Record → Node
to_node r = record { method = r.first; ret = eqb r.second 1; entry = eqb r.third 1 }

abbrev pub to_edge : Record → Edge
to_edge r = record { from = r.first; label = r.second; to = r.third }

-- "Nodes are numbered from 0 in file order."
pub decode_graph : List ℕ → Graph
decode_graph l = record { nodes = table (λ i. to_node (record_at l i)) 0 (nodes_of l); edges = table (λ i. to_edge (record_at l i)) (nodes_of l) (count l - nodes_of l) }

abbrev pub node_rec : Node → Record
node_rec v = node_record v.method v.ret v.entry

abbrev pub edge_rec : Edge → Record
edge_rec e = edge_record e.from e.label e.to

abbrev pub graph_recs : Graph → List Record
graph_recs G = map node_rec G.nodes ++ map edge_rec G.edges

pub graph_bytes : Graph → List ℕ
graph_bytes G = write (graph_recs G)

-- ---- properties

-- by operator, a and b; there is no operator 0 and none past 10
abbrev pub row_of : ℕ → ℕ → ℕ → Row
row_of zero a b = never
row_of (suc zero) a b = always
row_of (suc (suc zero)) a b = never
row_of (suc (suc (suc zero))) a b = in_method a
row_of (suc (suc (suc (suc zero)))) a b = not_in_method a
row_of (suc (suc (suc (suc (suc zero))))) a b = returns
row_of (suc (suc (suc (suc (suc (suc zero)))))) a b = not_returns
row_of (suc (suc (suc (suc (suc (suc (suc zero))))))) a b = both a b
row_of (suc (suc (suc (suc (suc (suc (suc (suc zero)))))))) a b = either a b
row_of (suc (suc (suc (suc (suc (suc (suc (suc (suc zero))))))))) a b = box a b
row_of (suc (suc (suc (suc (suc (suc (suc (suc (suc (suc zero)))))))))) a b = box_all a
row_of (suc (suc (suc (suc (suc (suc (suc (suc (suc (suc (suc n))))))))))) a b = never

abbrev pub to_row : Record → Row
to_row r = row_of r.first r.second r.third

pub decode_property : List ℕ → List Row
decode_property l = table (λ i. to_row (record_at l i)) 0 (count l)

abbrev pub row_rec : Row → Record
row_rec always = row_record 1 0 0
row_rec never = row_record 2 0 0
row_rec (in_method a) = row_record 3 a 0
row_rec (not_in_method a) = row_record 4 a 0
row_rec returns = row_record 5 0 0
row_rec not_returns = row_record 6 0 0
row_rec (both a b) = row_record 7 a b
row_rec (either a b) = row_record 8 a b
row_rec (box l b) = row_record 9 l b
row_rec (box_all a) = row_record 10 a 0

pub property_bytes : List Row → List ℕ
property_bytes P = write (map row_rec P)

-- ---- rules

abbrev pub to_rule : Record → Rule
to_rule r = record { state = r.first; event = record { kind = r.second; m1 = r.third; m2 = r.fourth }; next = r.fifth }

pub decode_rules : List ℕ → List Rule
decode_rules l = table (λ i. to_rule (record_at l i)) 0 (count l)

abbrev pub rule_rec : Rule → Record
rule_rec u = rule_record u.state u.event.kind u.event.m1 u.event.m2 u.next

pub rules_bytes : List Rule → List ℕ
rules_bytes us = write (map rule_rec us)

-- ---- interfaces

pub decode_interface : List ℕ → Interface
decode_interface l = record { provided = (record_at l 0).first; required = (record_at l 0).second }

pub interface_bytes : Interface → List ℕ
interface_bytes I = write (interface_record I.provided I.required ∷ [])

-- ---- the values that files hold

abbrev pub key : Edge → List ℕ
key e = e.from ∷ e.label ∷ e.to ∷ []

-- edges between its own nodes, each inside one method; methods 1..8, labels 0..8; within the limits; edges ascend strictly
pub record Filed (L : Limits) (G : Graph) : Type 0 where
  pub flow : Flow G
  pub methods : (v : Node) → Memᴰ v G.nodes → (1 ≤ v.method) × (v.method ≤ 8)
  pub labels : (e : Edge) → Memᴰ e G.edges → e.label ≤ 8
  pub few_nodes : length G.nodes ≤ L.nodes
  pub few_edges : length G.edges ≤ L.edges
  pub ascending : (j : ℕ) → suc j < length G.edges → Before (key (get_or G.edges j no_edge)) (key (get_or G.edges (suc j) no_edge))

-- methods 1..8, labels 0..8
abbrev pub RowIn : Row → Type 0
RowIn always = Unit {0}
RowIn never = Unit {0}
RowIn returns = Unit {0}
RowIn not_returns = Unit {0}
RowIn (in_method a) = (1 ≤ a) × (a ≤ 8)
RowIn (not_in_method a) = (1 ≤ a) × (a ≤ 8)
RowIn (both a b) = Unit {0}
RowIn (either a b) = Unit {0}
RowIn (box l b) = l ≤ 8
RowIn (box_all a) = Unit {0}

pub record FiledRows (L : Limits) (P : List Row) : Type 0 where
  pub rows_named : Property P
  pub rows_in : (r : ℕ) → r < length P → RowIn (row P r)
  pub few_rows : length P ≤ L.rows
  pub few_ors : tally (λ r. is_either (row P r)) (length P) ≤ L.ors

abbrev pub rule_order : Rule → List ℕ
rule_order u = u.state ∷ u.event.kind ∷ u.event.m1 ∷ u.event.m2 ∷ []

pub record RuleIn (u : Rule) : Type 0 where
  pub state_in : u.state ≤ 6
  pub event_in : (1 ≤ u.event.kind) × (u.event.kind ≤ 2)
  pub m1_in : (1 ≤ u.event.m1) × (u.event.m1 ≤ 8)
  pub m2_in : (1 ≤ u.event.m2) × (u.event.m2 ≤ 8)
  pub next_in : u.next ≤ 7

pub record FiledRules (us : List Rule) : Type 0 where
  pub rules_in : (u : Rule) → Memᴰ u us → RuleIn u
  pub rules_ascend : (j : ℕ) → suc j < length us → Before (rule_order (get_or us j no_rule)) (rule_order (get_or us (suc j) no_rule))
