-- The states of a maximal model as they are found in a lent buffer: each once, numbered in the order in which they are found; for each state and label, and for the
-- entries, a row of bits says which states follow. At the end the states are put in order.
use Rattle.std.specs.Prelude.{◌≡◌, ◌⊎◌, Bool, false, ◌&&◌, ◌||◌, ℕ, ◌+◌, ◌*◌, ◌/◌, ◌%◌, ◌^◌, ◌≤◌, ◌<◌, T, eqb, ltb, length, get_or}
use mathlib.Core.List.{List, Memᴰ}
use Rattle.files.specs.Access.{PropertyFile}
use Rattle.files.specs.Basics.Least.{least}
use Rattle.files.specs.Basics.Tests.{any}
use Rattle.files.specs.Cells.{cell, has_bit}
use Rattle.files.specs.Decode.{decode_property}
use Rattle.files.specs.Interface.{Interface}
use Rattle.files.specs.Places.{max_rows}
use Rattle.files.specs.Property.{Row}
use Rattle.files.specs.Record.{count}
use Rattle.maximal.specs.Places.{asked_base, candidates_base, entries_slot, methods_base, order_base, targets_base, kinds_base, max_states, sets_base}
use Rattle.maximal.specs.declared.places.Scope.{Scope}
use Rattle.maximal.specs.Collected.{or_count}
use Rattle.maximal.specs.Masks.{rows, asked_of}
use Rattle.maximal.specs.Model.{State, Entry, Next, Reached, is_entry, is_label, is_next, states}
pub mod Files
pub mod States
pub mod Kept
pub mod Order
pub mod Entering
pub mod Anew
pub mod Slots
pub mod Entries

-- the property is accepted, its rows are counted, and what the search may use fits the buffer
pub record Scoped (s : Scope) (p : List ℕ) : Type 0 where
  pub file : PropertyFile p
  pub rows_are : s.rows ≡ count p
  pub few_rows : s.rows ≤ max_rows
  pub enough_ors : or_count (decode_property p) ≤ s.ors
  pub few_ors : s.ors ≤ 12
  pub few_states : s.states ≤ max_states

-- ---- what the buffer holds

-- twice the method and the return flag of state i, and its set of rows
abbrev pub kind_at : List ℕ → ℕ → ℕ
kind_at w i = cell w kinds_base 1 i

abbrev pub set_at : List ℕ → ℕ → ℕ
set_at w i = cell w sets_base 4 i

abbrev pub flag_of : ℕ → Bool
flag_of kind = eqb (kind % 2) 1

-- the state that a kind and a set stand for, of n rows
abbrev pub state_of : ℕ → ℕ → ℕ → State
state_of n kind k = record { method = kind / 2; flag = flag_of kind; rows = rows n k }

abbrev pub stored : ℕ → List ℕ → ℕ → State
stored n w i = state_of n (kind_at w i) (set_at w i)

-- place i has this byte from a on and this set from b on
abbrev pub is_pair : List ℕ → ℕ → ℕ → ℕ → ℕ → ℕ → Bool
is_pair w a b byte set i = eqb (cell w a 1 i) byte && eqb (cell w b 4 i) set

-- state i has this kind and set
abbrev pub same_state : List ℕ → ℕ → ℕ → ℕ → Bool
same_state w kind set i = is_pair w kinds_base sets_base kind set i

-- the state with this kind and set among the first c, or c
abbrev pub found : List ℕ → ℕ → ℕ → ℕ → ℕ
found w c kind set = least (same_state w kind set) c

-- the method of a slot, 0 where its label is none; and what its state asks for under its label
abbrev pub method_at : List ℕ → ℕ → ℕ
method_at w p = cell w methods_base 1 p

abbrev pub asked_at : List ℕ → ℕ → ℕ
asked_at w p = cell w asked_base 4 p

-- state t follows by slot p
abbrev pub target : List ℕ → ℕ → ℕ → Bool
target w p t = has_bit w targets_base (max_states * p + t)

-- the first slot below q with this method that asks for this set, or q
abbrev pub earlier : List ℕ → ℕ → ℕ → ℕ → ℕ
earlier w q method set = least (is_pair w methods_base asked_base method set) q

-- the number of the state that stands k-th
abbrev pub order_at : List ℕ → ℕ → ℕ
order_at w k = cell w order_base 1 k

-- at which place state t stands
abbrev pub rank_at : List ℕ → ℕ → ℕ
rank_at w t = cell w candidates_base 1 t

-- the first k states in order have their places
abbrev pub Ranked : ℕ → List ℕ → Type 0
Ranked k w = (i : ℕ) → i < k → rank_at w (order_at w i) ≡ i

-- state a comes before state b, by kind and set
abbrev pub comes_before : List ℕ → ℕ → ℕ → Bool
comes_before w a b = ltb (kind_at w a) (kind_at w b) || (eqb (kind_at w a) (kind_at w b) && ltb (set_at w a) (set_at w b))

-- bytes other than those of the states and the rows of bits
abbrev pub Elsewhere : List ℕ → List ℕ → Type 0
Elsewhere w w' = (b : ℕ) → (b < kinds_base) ⊎ ((order_base ≤ b) × (b < targets_base)) → get_or w' b 0 ≡ get_or w b 0

-- the first c states are apart
abbrev pub Distinct : ℕ → List ℕ → Type 0
Distinct c w = (i j : ℕ) → i < c → j < c → kind_at w i ≡ kind_at w j → set_at w i ≡ set_at w j → i ≡ j

-- the first k numbers are put in order: those below k, each once, ascending
pub record Ordered (k : ℕ) (w : List ℕ) : Type 0 where
  pub below : (i : ℕ) → i < k → order_at w i < k
  pub ascends : (i j : ℕ) → i < j → j < k → T (comes_before w (order_at w i) (order_at w j))
  pub all_in : (t : ℕ) → t < k → (i : ℕ) × (i < k) × (order_at w i ≡ t)

module _ (I : Interface) (P : List Row) where
  -- a state of the model
  pub record Known (kind k : ℕ) : Type 0 where
    pub method_from : 2 ≤ kind
    pub method_to : kind < 18
    pub of_rows : k < 2 ^ length P
    pub reached : Reached I P (state_of (length P) kind k)

  -- the buffer holds c states of the model, each once
  pub record Holds (c : ℕ) (w : List ℕ) : Type 0 where
    pub few : c ≤ max_states
    pub known : (i : ℕ) → i < c → Known (kind_at w i) (set_at w i)
    pub once : Distinct c w

  -- the model has more than n states
  unfoldable pub Crowded : ℕ → Type 0
  Crowded n = n < length (states I P)

  -- from c states on to c', and from w to w', by entering the sets A with this kind and marking them in row q
  pub record Admitted (c c' kind : ℕ) (A : List ℕ) (q : ℕ) (w w' : List ℕ) : Type 0 where
    pub holds : Holds c' w'
    pub more : c ≤ c'
    pub kinds_kept : (i : ℕ) → i < c → kind_at w' i ≡ kind_at w i
    pub sets_kept : (i : ℕ) → i < c → set_at w' i ≡ set_at w i
    pub there : (u : ℕ) → Memᴰ u A → (i : ℕ) × (i < c') × (kind_at w' i ≡ kind) × (set_at w' i ≡ u)
    pub marked : (t : ℕ) → t < max_states → target w' q t ≡ (target w q t || (ltb t c' && (eqb (kind_at w' t) kind && any (λ u. eqb (set_at w' t) u) A)))
    pub others_kept : (p t : ℕ) → p ≤ entries_slot → t < max_states → (p ≡ q → ⊥) → target w' p t ≡ target w p t
    pub elsewhere : Elsewhere w w'

  -- slot p is worked: its row has the states that follow, and they are all there
  pub record Followed (c : ℕ) (w : List ℕ) (p : ℕ) : Type 0 where
    pub bits : (t : ℕ) → t < max_states → target w p t ≡ (ltb t c && is_next I P (stored (length P) w (p / 9)) (p % 9) (stored (length P) w t))
    pub all_there : (s : State) → Next I P (stored (length P) w (p / 9)) (p % 9) s → (t : ℕ) × (t < c) × (stored (length P) w t ≡ s)
    pub method_is : T (is_label I P (p % 9)) → method_at w p ≡ kind_at w (p / 9) / 2
    pub no_method : (T (is_label I P (p % 9)) → ⊥) → method_at w p ≡ 0
    pub asked_is : T (is_label I P (p % 9)) → asked_at w p ≡ asked_of P (set_at w (p / 9)) (p % 9)

  -- the entries are there, and the slots below q are worked
  pub record Charting (c q : ℕ) (w : List ℕ) : Type 0 where
    pub holds : Holds c w
    pub entry_bits : (t : ℕ) → t < max_states → target w entries_slot t ≡ (ltb t c && is_entry I P (stored (length P) w t))
    pub entries_there : (s : State) → Entry I P s → (t : ℕ) × (t < c) × (stored (length P) w t ≡ s)
    pub followed : (p : ℕ) → p < q → Followed c w p

  -- slot q is next, its row is blank, and it has its method and what it asks for
  pub record Asking (c q method set : ℕ) (w : List ℕ) : Type 0 where
    pub charting : Charting c q w
    pub blank : (t : ℕ) → t < max_states → target w q t ≡ false
    pub label : T (is_label I P (q % 9))
    pub method_is : method_at w q ≡ method
    pub asked_is : asked_at w q ≡ set
    pub of_method : method ≡ kind_at w (q / 9) / 2
    pub of_set : set ≡ asked_of P (set_at w (q / 9)) (q % 9)

  -- the buffer holds all states of the model, and for each the entries and what follows
  pub record Charted (c : ℕ) (w : List ℕ) : Type 0 where
    pub holds : Holds c w
    pub complete : (s : State) → Reached I P s → (t : ℕ) × (t < c) × (stored (length P) w t ≡ s)
    pub entries_are : (t : ℕ) → t < c → target w entries_slot t ≡ is_entry I P (stored (length P) w t)
    pub follows_are : (i l t : ℕ) → i < c → l < 9 → t < c → target w (9 * i + l) t ≡ is_next I P (stored (length P) w i) l (stored (length P) w t)

  -- the states in order
  abbrev pub in_order : List ℕ → ℕ → State
  in_order w k = stored (length P) w (order_at w k)

  -- the model, as the buffer holds it
  pub record Arranged (c : ℕ) (w : List ℕ) : Type 0 where
    pub charted : Charted c w
    pub ordered : Ordered c w
