-- What holds of all numbers below one, and of that one, holds of all below the next.
use Rattle.std.specs.Prelude.{◌≡◌, ◌⊎◌, Bool, false, not, ℕ, suc, ◌+◌, ◌≤◌, ◌<◌, T}
use Rattle.std.proofs.Common.{sym, subst, inl, inr, eq-or-lt_of_le, arith}
use Rattle.std.proofs.Math.Decide.{ℕ_discrete}

-- one number more
pub below_more : (D : ℕ → Type 0) (i : ℕ) → ((j : ℕ) → j < i → D j) → D i → (j : ℕ) → j < i + 1 → D j
below_more D i f d j h = go (ℕ_discrete j i)
  where
    go : Dec (j ≡ i) → D j
    go (yes e) = subst D (sym e) d
    go (no n) = f j (omega arith)

-- none up to v passes
pub none_on : (f : ℕ → Bool) (v : ℕ) → ((u : ℕ) → u < v → T (not (f u))) → f v ≡ false → (u : ℕ) → u < v + 1 → T (not (f u))
none_on f v h e u k = let m : suc u ≤ suc v = omega arith in go (eq-or-lt_of_le (omega (arith, m)))
  where
    go : (u ≡ v) ⊎ (u < v) → T (not (f u))
    go (inl q) = subst (λ (n : ℕ). T (not (f n))) (sym q) (subst (λ (b : Bool). T (not b)) (sym e) tt)
    go (inr l) = h u l
