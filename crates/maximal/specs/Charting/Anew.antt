-- A slot that is worked anew: once the minimal supports of what it asks for are entered with either flag, its row has what follows its state.
-- Its theorems that rest on a definition which a must-fail edit turns stand in proofs/Theorems/Charting/Anew.
use Rattle.std.specs.Prelude.{◌≡◌, refl, ◌⊎◌, Bool, ◌&&◌, ℕ, zero, suc, ◌+◌, ◌*◌, ◌/◌, ◌%◌, ◌≤◌, ◌<◌, eqb, length}
use Rattle.std.proofs.Common.{sym, ap, subst, ◌∙◌, inl, inr, arith}
use mathlib.Core.List.{List, Memᴰ}
use Rattle.files.specs.Basics.Tests.{any}
use Rattle.files.specs.Interface.{Interface}
use Rattle.files.specs.Property.{Row, Property}
use Rattle.maximal.specs.Collected.{or_count, supports_of}
use Rattle.maximal.specs.Charting.{flag_of, kind_at, set_at, stored, Admitted, Charting, Asking}
use Rattle.maximal.specs.Masks.{asked_of}
use Rattle.maximal.specs.Model.{State}
use Rattle.maximal.specs.Places.{slots}

module _ (I : Interface) (P : List Row) where
  abbrev pub n : ℕ
  n = length P

  -- ---- a slot that is worked anew

  module _ (wf : Property P) (k : ℕ) (enough : or_count P ≤ k) (c a b q method set : ℕ) (w v w' : List ℕ) (in_slots : q < 9 * c) (asking : Asking I P c q method set w)
      (x : Admitted I P c a (2 * method) (supports_of P k (2 * method / 2) (flag_of (2 * method)) set) q w v)
      (y : Admitted I P a b (2 * method + 1) (supports_of P k ((2 * method + 1) / 2) (flag_of (2 * method + 1)) set) q v w') where
    pub chart : Charting I P c q w
    chart = asking.charting

    pub in_rows : q < slots
    in_rows = omega (arith, chart.holds.few)

    pub here : q / 9 < c
    here = omega arith

    pub here_too : q / 9 < a
    here_too = omega (arith, here, x.more)

    abbrev pub l : ℕ
    l = q % 9

    abbrev pub s₀ : State
    s₀ = stored n w' (q / 9)

    kind_is : kind_at w' (q / 9) ≡ kind_at w (q / 9)
    kind_is = y.kinds_kept (q / 9) here_too ∙ x.kinds_kept (q / 9) here

    set_is : set_at w' (q / 9) ≡ set_at w (q / 9)
    set_is = y.sets_kept (q / 9) here_too ∙ x.sets_kept (q / 9) here

    pub of_method : kind_at w' (q / 9) / 2 ≡ method
    of_method = ap (λ (m : ℕ). m / 2) kind_is ∙ sym asking.of_method

    pub of_set : asked_of P (set_at w' (q / 9)) l ≡ set
    of_set = ap (λ (m : ℕ). asked_of P m l) set_is ∙ sym asking.of_set

    abbrev pub sets : ℕ → List ℕ
    sets kind = supports_of P k (kind / 2) (flag_of kind) set

    -- a state of this method is of the first list or of the second
    pub of_kind : (kind : ℕ) → kind / 2 ≡ method → (kind ≡ 2 * method) ⊎ (kind ≡ 2 * method + 1)
    of_kind kind e = go (kind % 2) refl (omega arith)
      where
        go : (d : ℕ) → kind % 2 ≡ d → d < 2 → (kind ≡ 2 * method) ⊎ (kind ≡ 2 * method + 1)
        go zero z h = inl (omega (arith, z, e))
        go (suc zero) z h = inr (omega (arith, z, e))
        go (suc (suc d)) z h = absurd (omega arith)

    -- where it stands
    pub place : (kind u : ℕ) → kind / 2 ≡ method → Memᴰ u (sets kind) → (i : ℕ) × (i < b) × (kind_at w' i ≡ kind) × (set_at w' i ≡ u) × ((kind ≡ 2 * method) → i < a)
    place kind u e i = go (of_kind kind e)
      where
        go : (kind ≡ 2 * method) ⊎ (kind ≡ 2 * method + 1) → (i : ℕ) × (i < b) × (kind_at w' i ≡ kind) × (set_at w' i ≡ u) × ((kind ≡ 2 * method) → i < a)
        go (inl d) =
            let z = x.there u (subst (λ (m : ℕ). Memᴰ u (sets m)) d i) in
            (z.0, omega (arith, z.1, y.more), y.kinds_kept z.0 z.1 ∙ z.2 ∙ sym d, y.sets_kept z.0 z.1 ∙ z.3, λ f. z.1)
        go (inr d) =
            let z = y.there u (subst (λ (m : ℕ). Memᴰ u (sets m)) d i) in
            (z.0, z.1, z.2 ∙ sym d, z.3, λ f. absurd (omega (arith, d, f)))

    abbrev pub in_list : ℕ → ℕ → ℕ → Bool
    in_list m e kind = eqb m kind && any (λ u. eqb e u) (sets kind)
