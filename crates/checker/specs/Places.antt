-- The lengths that the program's contracts name; src/lengths.rt has the same as constants of the code.
use Rattle.std.specs.Prelude.{ℕ, ◌+◌, ◌*◌}
use Rattle.files.specs.Places.{record_len, max_nodes, max_edges}

-- a decimal is read up to this number
abbrev pub number_most : ℕ
number_most = 1000000

-- the longest file of deliveries that is read: all revisions of all methods, each round within the limits, with its openings
abbrev pub longest_file : ℕ
longest_file = record_len * (255 * (8 + (max_nodes + max_edges)))
