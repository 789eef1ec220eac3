-- Flow graphs of any finite size. Nodes are numbered from 0 in list order.
use Rattle.std.specs.Prelude.{◌≡◌, Bool, false, ℕ, ◌<◌, T, length, get_or}
use mathlib.Core.List.{List, Memᴰ}
pub mod Ends

-- "method 1..8, return 0/1, entry 0/1"
pub record Node : Type 0 where
  pub method : ℕ
  pub ret : Bool
  pub entry : Bool

-- "Label 0 is an internal step; 1..8 is a call of that method."
pub record Edge : Type 0 where
  pub from : ℕ
  pub label : ℕ
  pub to : ℕ

pub record Graph : Type 0 where
  pub nodes : List Node
  pub edges : List Edge

abbrev pub size : Graph → ℕ
size G = length G.nodes

abbrev pub no_node : Node
no_node = record { method = 0; ret = false; entry = false }

abbrev pub node : Graph → ℕ → Node
node G g = get_or G.nodes g no_node

abbrev pub no_edge : Edge
no_edge = record { from = 0; label = 0; to = 0 }

-- "A flow graph, whatever its size, has edges between its own nodes only, each inside one method."
pub record Flow (G : Graph) : Type 0 where
  pub from_node : (e : Edge) → Memᴰ e G.edges → e.from < size G
  pub to_node : (e : Edge) → Memᴰ e G.edges → e.to < size G
  pub one_method : (e : Edge) → Memᴰ e G.edges → (node G e.to).method ≡ (node G e.from).method

-- n is an entry node of method m
pub record EntryOf (G : Graph) (m n : ℕ) : Type 0 where
  pub is_node : n < size G
  pub is_entry : T (node G n).entry
  pub in_method : (node G n).method ≡ m
