-- The numbers that records, lines and lent buffers are built of, each under one name. They are transparent: they compute to numbers. The other crates' tables (specs/Places,
-- runs/specs/Regions) are expressions over these; in code they are associated constants (`Limits`, `Record::LEN`, `Line`).
use Rattle.std.specs.Prelude.{ℕ, ◌+◌, ◌*◌, ◌-◌}

-- "Limits: 256 nodes, 4,096 edges, 32 rows, 12 rows with operator 8"
abbrev pub max_nodes : ℕ
max_nodes = 256

abbrev pub max_edges : ℕ
max_edges = 4096

abbrev pub max_rows : ℕ
max_rows = 32

abbrev pub max_ors : ℕ
max_ors = 12

-- the bytes of a record
abbrev pub record_len : ℕ
record_len = 6

-- the bytes of a relation's line: a bit for each node
abbrev pub line_bytes : ℕ
line_bytes = 32

-- the longest graph file
abbrev pub graph_room : ℕ
graph_room = record_len * (max_nodes + max_edges)

-- a number of one, two, three bytes, of a machine's word is below
abbrev pub byte_end : ℕ
byte_end = 256

abbrev pub two_bytes_end : ℕ
two_bytes_end = byte_end * byte_end

abbrev pub two_bytes_last : ℕ
two_bytes_last = two_bytes_end - 1

abbrev pub three_bytes_end : ℕ
three_bytes_end = byte_end * two_bytes_end

abbrev pub usize_end : ℕ
usize_end = 18446744073709551616
