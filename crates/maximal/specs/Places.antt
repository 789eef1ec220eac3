-- Where the parts of modelling's lent buffer stand, and how long it is. src/places.rt has the same as constants of the code. The names are transparent: they compute to numbers.
use Rattle.std.specs.Prelude.{ℕ, ◌+◌, ◌*◌, ◌^◌}
use Rattle.files.specs.Places.{max_nodes, max_rows, max_ors, line_bytes}

-- a state becomes a node
abbrev pub max_states : ℕ
max_states = max_nodes

-- a set of rows is a number below this, in four bytes
abbrev pub sets_end : ℕ
sets_end = 2 ^ max_rows

-- for each row what it asks for as an "and", then its operands, as sets
abbrev pub closed_base : ℕ
closed_base = 0

abbrev pub operands_base : ℕ
operands_base = closed_base + 4 * max_rows

-- the states as they are found: method and flag in a byte, and the set
abbrev pub kinds_base : ℕ
kinds_base = operands_base + 4 * max_rows

abbrev pub sets_base : ℕ
sets_base = kinds_base + max_states

-- their numbers, ascending
abbrev pub order_base : ℕ
order_base = sets_base + 4 * max_states

-- a slot for each state and label: a method, a set that is asked for, and a line of states that follow. One more line has the entries.
abbrev pub slots : ℕ
slots = 9 * max_states

abbrev pub entries_slot : ℕ
entries_slot = slots

-- a state is followed by at most all states under each label
abbrev pub max_followers : ℕ
max_followers = 9 * max_states

abbrev pub methods_base : ℕ
methods_base = order_base + max_states

abbrev pub asked_base : ℕ
asked_base = methods_base + slots

abbrev pub targets_base : ℕ
targets_base = asked_base + 4 * slots

-- the supports of one set, one for each way to name operands
abbrev pub max_candidates : ℕ
max_candidates = 2 ^ max_ors

abbrev pub candidates_base : ℕ
candidates_base = targets_base + line_bytes * (slots + 1)

-- once the supports are collected, the place of each state in the order
abbrev pub ranks_base : ℕ
ranks_base = candidates_base

-- the published length
abbrev pub model_room : ℕ
model_room = candidates_base + 4 * max_candidates
