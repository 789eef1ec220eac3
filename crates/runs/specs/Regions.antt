-- Where the parts of watching's lent buffer stand and how long they are, and the lengths of the composed verdicts' buffers. src/regions.rt has the same as constants of the code.
-- The names are transparent: they compute to numbers.
use Rattle.std.specs.Prelude.{ℕ, ◌+◌, ◌*◌}
use Rattle.files.specs.Places.{max_nodes, max_edges, record_len}

-- a cell of the queue, of the items' parents, of edges: two bytes
abbrev pub cell_bytes : ℕ
cell_bytes = 2

-- the states of a monitor
abbrev pub states : ℕ
states = 8

-- the points, a node with its method entered in a state; as many as the places, a node and a state
abbrev pub points : ℕ
points = max_nodes * states

-- new states come to a point at most as often as there are states
abbrev pub queue_cells : ℕ
queue_cells = points * states

abbrev pub queue_base : ℕ
queue_base = 0

-- where the summaries are known the search has the queue's room: an item for each place, behind the first
abbrev pub items_base : ℕ
items_base = 0

abbrev pub parents_base : ℕ
parents_base = items_base + record_len * (points + 1)

abbrev pub parents_end : ℕ
parents_end = parents_base + cell_bytes * (points + 1)

-- the monitor's next state, by kind of event, two methods and state
abbrev pub monitor_base : ℕ
monitor_base = queue_base + cell_bytes * queue_cells

abbrev pub monitor_bytes : ℕ
monitor_bytes = 2 * (8 * (8 * states))

abbrev pub firsts_base : ℕ
firsts_base = monitor_base + monitor_bytes

-- a label is 0 to 8
abbrev pub label_heads_base : ℕ
label_heads_base = firsts_base + cell_bytes * (max_nodes + 1)

abbrev pub label_nexts_base : ℕ
label_nexts_base = label_heads_base + cell_bytes * 9

-- a byte of states for each point, and a byte for each that waits
abbrev pub reached_base : ℕ
reached_base = label_nexts_base + cell_bytes * max_edges

abbrev pub waiting_base : ℕ
waiting_base = reached_base + points

-- used by nothing: the length is the one that was published first
abbrev pub spare_base : ℕ
spare_base = waiting_base + points

-- a bit for each place, and for each method and state
abbrev pub seen_base : ℕ
seen_base = spare_base + 72

abbrev pub entered_base : ℕ
entered_base = seen_base + max_nodes

-- the published length of watching's buffer
abbrev pub watch_room : ℕ
watch_room = entered_base + 9
