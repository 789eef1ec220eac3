-- For the code that works the slots of states, what its stores change: a row of bits cleared or copied from another, and a slot's method and what it asks for.
use mathlib.Core.Path.{◌≡◌, sym, ap, ap₂, subst, ◌∙◌}
use mathlib.Core.Logic.{inl, inr}
use mathlib.Core.Bool.{false}
use mathlib.Core.List.{List}
use Prim.Native.Nat.{ℕ, ◌+◌, ◌*◌, ◌/◌, ◌%◌, ◌^◌, ◌≤◌, ◌<◌}
use native.Mathlib.Decide.{ℕ_discrete}
use native.Mathlib.Nat.{zero-div}
use native.Mathlib.Omega.{arith}
use lib.Dec.{eqb}
use lib.ListN.{length, get_or}
use Rattle.files.specs.Cells.{cell, put_cell, has_bit}
use Rattle.files.specs.Cells.Laws.{length_put_cell, cell_same, cell_other, cell_apart, cell_one, byte_outside, has_bit_is}
use Rattle.files.specs.Places.{line_bytes, byte_end}
use Rattle.judging.specs.Chains.{Outside}
use Rattle.maximal.specs.Charting.{method_at, asked_at, target}
use Rattle.maximal.specs.Places.{asked_base, entries_slot, methods_base, model_room, sets_end, slots, targets_base, max_states}

-- ---- a row of bits filled

-- the first k bytes of row q are those of f, and nothing else has changed
abbrev pub Filled : List ℕ → ℕ → (ℕ → ℕ) → ℕ → List ℕ → Type 0
Filled w₀ q f k w = ((i : ℕ) → i < k → get_or w (targets_base + line_bytes * q + i) 0 ≡ f i) × Outside (targets_base + line_bytes * q) (targets_base + line_bytes * q + line_bytes) w₀ w

-- a row has 32 bytes
pub in_row : (w : List ℕ) (p t : ℕ) → target w p t ≡ has_bit w (targets_base + line_bytes * p) t
in_row w p t =
    let a : targets_base + (max_states * p + t) / 8 ≡ targets_base + line_bytes * p + t / 8 = omega arith in
    let b : (max_states * p + t) % 8 ≡ t % 8 = omega arith in
    has_bit_is w targets_base (max_states * p + t) ∙ ap₂ (λ (n k : ℕ). eqb (get_or w n 0 / 2 ^ k % 2) 1) a b ∙ sym (has_bit_is w (targets_base + line_bytes * p) t)

module _ (w₀ w : List ℕ) (q k : ℕ) (f : ℕ → ℕ) (x : Filled w₀ q f k w) where
  -- one byte more
  pub filled_on : q ≤ entries_slot → model_room ≤ length w → k < 32 → (b : ℕ) (w' : List ℕ) → b < 256 → b ≡ f k → w' ≡ put_cell w (targets_base + line_bytes * q) 1 k b → Filled w₀ q f (k + 1) w'
  filled_on hq room hk b w' hb is e = subst (Filled w₀ q f (k + 1)) (sym e) (λ i l. byte i l (ℕ_discrete i k), beside)
    where
      more : List ℕ
      more = put_cell w (targets_base + line_bytes * q) 1 k b

      byte : (i : ℕ) → i < k + 1 → Dec (i ≡ k) → get_or more (targets_base + line_bytes * q + i) 0 ≡ f i
      byte i l (yes z) =
          ap (λ (n : ℕ). get_or more (targets_base + line_bytes * q + n) 0) z
          ∙ sym (cell_one more (targets_base + line_bytes * q) k)
          ∙ cell_same w (targets_base + line_bytes * q) 1 k b (omega arith) (omega arith)
          ∙ is
          ∙ ap f (sym z)
      byte i l (no n) = byte_outside w (targets_base + line_bytes * q) 1 k b (targets_base + line_bytes * q + i) (inl (omega arith)) ∙ x.0 i (omega arith)

      beside : Outside (targets_base + line_bytes * q) (targets_base + line_bytes * q + line_bytes) w₀ more
      beside b' (inl l) = byte_outside w (targets_base + line_bytes * q) 1 k b b' (inl (omega arith)) ∙ x.1 b' (inl l)
      beside b' (inr l) = byte_outside w (targets_base + line_bytes * q) 1 k b b' (inr (omega arith)) ∙ x.1 b' (inr l)

  -- all bytes
  filled_all : 32 ≤ k → (t : ℕ) → t < max_states → target w q t ≡ eqb (f (t / 8) / 2 ^ (t % 8) % 2) 1
  filled_all l t ht = in_row w q t ∙ has_bit_is w (targets_base + line_bytes * q) t ∙ ap (λ (y : ℕ). eqb (y / 2 ^ (t % 8) % 2) 1) (x.0 (t / 8) (omega arith))

-- with the bytes of row p
abbrev pub row_bytes : List ℕ → ℕ → ℕ → ℕ
row_bytes w p i = get_or w (targets_base + line_bytes * p + i) 0

-- an earlier row is still as it was
pub copied_byte : (w₀ w : List ℕ) (p q k b : ℕ) → p < q → k < 32 → Outside (targets_base + line_bytes * q) (targets_base + line_bytes * q + line_bytes) w₀ w → b ≡ cell w (targets_base + line_bytes * p) 1 k → b ≡ row_bytes w₀ p k
copied_byte w₀ w p q k b pq hk o e = e ∙ cell_one w (targets_base + line_bytes * p) k ∙ o (targets_base + line_bytes * p + k) (inl (omega arith))

pub copied_all : (w₀ w : List ℕ) (p q k : ℕ) → Filled w₀ q (row_bytes w₀ p) k w → 32 ≤ k → (t : ℕ) → t < max_states → target w q t ≡ target w₀ p t
copied_all w₀ w p q k x l t ht = filled_all w₀ w q k (row_bytes w₀ p) x l t ht ∙ sym (in_row w₀ p t ∙ has_bit_is w₀ (targets_base + line_bytes * p) t)

-- with zeros
pub cleared_all : (w₀ w : List ℕ) (q k : ℕ) → Filled w₀ q (λ (i : ℕ). 0) k w → 32 ≤ k → (t : ℕ) → t < max_states → target w q t ≡ false
cleared_all w₀ w q k x l t ht = filled_all w₀ w q k (λ (i : ℕ). 0) x l t ht ∙ ap (λ (y : ℕ). eqb (y % 2) 1) (zero-div (2 ^ (t % 8)))

-- ---- the methods and what is asked for

-- w₂ has a method and what is asked for in slot q
module _ (q method set : ℕ) (w w₁ w₂ : List ℕ) (hq : q < slots) (room : model_room ≤ length w) (e₁ : w₁ ≡ put_cell w methods_base 1 q method) (e₂ : w₂ ≡ put_cell w₁ asked_base 4 q set) where
  abbrev once : List ℕ
  once = put_cell w methods_base 1 q method

  abbrev both : List ℕ
  both = put_cell once asked_base 4 q set

  is_both : w₂ ≡ both
  is_both = e₂ ∙ ap (λ (u : List ℕ). put_cell u asked_base 4 q set) e₁

  -- every byte but those of the slots
  both_outside : Outside methods_base targets_base w both
  both_outside b (inl l) = byte_outside once asked_base 4 q set b (inl (omega arith)) ∙ byte_outside w methods_base 1 q method b (inl (omega arith))
  both_outside b (inr l) = byte_outside once asked_base 4 q set b (inr (omega arith)) ∙ byte_outside w methods_base 1 q method b (inr (omega arith))

  pub slot_outside : Outside methods_base targets_base w w₂
  slot_outside b d = ap (λ (u : List ℕ). get_or u b 0) is_both ∙ both_outside b d

  -- another slot
  pub slot_other : (p : ℕ) → p < slots → (p ≡ q → ⊥) → (method_at w₂ p ≡ method_at w p) × (asked_at w₂ p ≡ asked_at w p)
  slot_other p l d = (
    ap (λ (u : List ℕ). method_at u p) is_both ∙ cell_apart once asked_base 4 q set methods_base 1 p (inl (omega arith)) ∙ cell_other w methods_base 1 q p method (λ z. d (sym z)),
    ap (λ (u : List ℕ). asked_at u p) is_both ∙ cell_other once asked_base 4 q p set (λ z. d (sym z)) ∙ cell_apart w methods_base 1 q method asked_base 4 p (inr (omega arith)),
  )

  -- the slot itself
  pub slot_same : method < byte_end → set < sets_end → (method_at w₂ q ≡ method) × (asked_at w₂ q ≡ set)
  slot_same l m = (
    ap (λ (u : List ℕ). method_at u q) is_both ∙ cell_apart once asked_base 4 q set methods_base 1 q (inl (omega arith)) ∙ cell_same w methods_base 1 q method (omega arith) l,
    ap (λ (u : List ℕ). asked_at u q) is_both ∙ cell_same once asked_base 4 q set (omega (arith, length_put_cell w methods_base 1 q method)) m,
  )
