-- Where the parts of judging's and of comparing's lent buffers stand, and how long the buffers are. src/shape.rt and src/sizes.rt have the same as constants of the code. The
-- names are transparent: they compute to numbers.
use Rattle.std.specs.Prelude.{ℕ, ◌+◌, ◌*◌, ◌/◌}
use Rattle.files.specs.Places.{max_nodes, max_edges, max_rows, line_bytes}

-- ---- judging

-- pairs of a node and a row; the ranks stand first, in two bytes each
abbrev pub max_pairs : ℕ
max_pairs = max_nodes * max_rows

abbrev pub ranks_base : ℕ
ranks_base = 0

-- the pairs that are false, in order
abbrev pub queue_base : ℕ
queue_base = ranks_base + 2 * max_pairs

-- edges by the node they lead to
abbrev pub node_heads_base : ℕ
node_heads_base = queue_base + 2 * max_pairs

abbrev pub node_heads_bytes : ℕ
node_heads_bytes = 2 * max_nodes

abbrev pub node_nexts_base : ℕ
node_nexts_base = node_heads_base + node_heads_bytes

-- operands by the row they name
abbrev pub row_heads_base : ℕ
row_heads_base = node_nexts_base + 2 * max_edges

abbrev pub row_nexts_base : ℕ
row_nexts_base = row_heads_base + 2 * max_rows

-- the published length
abbrev pub judge_room : ℕ
judge_room = row_nexts_base + 2 * (2 * max_rows)

-- once the ranks are found the chains give way to a bit for each pair that the sheet lists, and to the first edge of each node
abbrev pub marks_base : ℕ
marks_base = node_heads_base

abbrev pub marks_bytes : ℕ
marks_bytes = max_pairs / 8

abbrev pub firsts_base : ℕ
firsts_base = marks_base + marks_bytes

-- ---- comparing

-- a line for each node of the first graph: the relation, and what each line was when it was last taken
abbrev pub relation_base : ℕ
relation_base = 0

abbrev pub held_base : ℕ
held_base = relation_base + line_bytes * max_nodes

-- a line for each method and return flag
abbrev pub kinds_base : ℕ
kinds_base = held_base + line_bytes * max_nodes

-- the first graph's edges by the node they lead to and their label
abbrev pub heads_base : ℕ
heads_base = kinds_base + line_bytes * 18

abbrev pub nexts_base : ℕ
nexts_base = heads_base + 2 * (9 * max_nodes)

-- the walk that puts the first graph's nodes in order
abbrev pub cursors_base : ℕ
cursors_base = nexts_base + 2 * max_edges

abbrev pub parents_base : ℕ
parents_base = cursors_base + 2 * max_nodes

abbrev pub order_base : ℕ
order_base = parents_base + max_nodes

abbrev pub met_base : ℕ
met_base = order_base + max_nodes

-- ten lines for each node of the second graph
abbrev pub neighbours_base : ℕ
neighbours_base = met_base + line_bytes

abbrev pub neighbours_end : ℕ
neighbours_end = neighbours_base + 10 * line_bytes * max_nodes

-- the published length: callers hold buffers of the length that was published first
abbrev pub compare_room : ℕ
compare_room = 165152
