-- Monitor rules, and the monitor's step as a total function.
use Rattle.std.specs.Prelude.{Bool, cond, ◌&&◌, List, [], ◌∷◌, ℕ, eqb}
use Rattle.std.proofs.Math.Option.{Option, none, some}
pub mod Laws
pub mod Examples

-- "event (1 call, 2 return), m1, m2"
pub record Event : Type 0 where
  pub kind : ℕ
  pub m1 : ℕ
  pub m2 : ℕ

-- "Event 1: m1 calls m2"
abbrev pub calls : ℕ → ℕ → Event
calls m n = record { kind = 1; m1 = m; m2 = n }

-- "event 2: m1 returns to m2"
abbrev pub returns_to : ℕ → ℕ → Event
returns_to m n = record { kind = 2; m1 = m; m2 = n }

pub record Rule : Type 0 where
  pub state : ℕ
  pub event : Event
  pub next : ℕ

abbrev pub no_rule : Rule
no_rule = record { state = 0; event = record { kind = 0; m1 = 0; m2 = 0 }; next = 0 }

abbrev pub same_event : Event → Event → Bool
same_event v w = eqb v.kind w.kind && (eqb v.m1 w.m1 && eqb v.m2 w.m2)

-- "No rule means the state stays"
abbrev pub by_rule : List Rule → ℕ → Event → ℕ
by_rule [] q v = q
by_rule (u ∷ us) q v = let r = by_rule us q v in cond (eqb u.state q && same_event u.event v) u.next r

-- "state 7 is bad and stays bad"
pub watch : List Rule → ℕ → Event → ℕ
watch us q v = cond (eqb q 7) 7 (by_rule us q v)

-- a monitor: the next state, by state and event
abbrev pub Monitor : Type 0
Monitor = ℕ → Event → ℕ

-- a step that names no event leaves the state
abbrev pub sees : Monitor → ℕ → Option Event → ℕ
sees mon q none = q
sees mon q (some v) = mon q v
