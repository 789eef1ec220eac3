-- A model that stands in the buffer, as it is counted and written: edges by state, label and state, in the states' order.
use Rattle.std.specs.Prelude.{Bool, cond, List, [], ◌∷◌, ℕ, zero, suc, ◌+◌, ◌*◌, ◌/◌, ◌%◌, ltb}
use Rattle.files.specs.Basics.Lists.{each, keep, span}
use Rattle.files.specs.Basics.Tables.{tally}
use Rattle.files.specs.Basics.Tests.{one}
use Rattle.maximal.specs.Charting.{kind_at, target, order_at}
use Rattle.maximal.specs.Places.{entries_slot}
pub mod Laws

-- an edge with label l leads from the i-th state to the j-th
abbrev pub leads : List ℕ → ℕ → ℕ → ℕ → Bool
leads w i l j = target w (9 * order_at w i + l) (order_at w j)

-- how many edges with label l leave the i-th of c states, and how many with a label below n
abbrev pub tally_under : List ℕ → ℕ → ℕ → ℕ → ℕ
tally_under w c i l = tally (leads w i l) c

pub tally_from : List ℕ → ℕ → ℕ → ℕ → ℕ
tally_from w c i zero = 0
tally_from w c i (suc n) = tally_from w c i n + tally_under w c i n

-- how many leave the first n of c states, but those of no further state once they are more than a limit
pub tally_upto : List ℕ → ℕ → ℕ → ℕ → ℕ
tally_upto w c limit zero = 0
tally_upto w c limit (suc n) = cond (ltb limit (tally_upto w c limit n)) (tally_upto w c limit n) (tally_upto w c limit n + tally_from w c n 9)

-- the i-th state as a node
abbrev pub node_bytes : List ℕ → ℕ → List ℕ
node_bytes w i =
    1 ∷ kind_at w (order_at w i) / 2 ∷ kind_at w (order_at w i) % 2 ∷ one (target w entries_slot (order_at w i)) ∷ 0 ∷ 0 ∷ []

-- the edges with label l from the i-th state, and those with a label below n
abbrev pub under_bytes : List ℕ → ℕ → ℕ → ℕ → List ℕ
under_bytes w c i l = each (λ (j : ℕ). 2 ∷ i ∷ l ∷ j ∷ 0 ∷ 0 ∷ []) (keep (leads w i l) (span 0 c))

abbrev pub from_bytes : List ℕ → ℕ → ℕ → ℕ → List ℕ
from_bytes w c i n = each (under_bytes w c i) (span 0 n)
