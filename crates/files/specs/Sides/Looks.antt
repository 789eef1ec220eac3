-- Numbers 9 and 10 as the code looks for a method that a test passes: from method 1 on, one after another.
use Rattle.std.specs.Prelude.{◌≡◌, refl, Bool, true, false, not, ◌&&◌, ◌||◌, ℕ, suc, ◌+◌, ◌-◌, ◌≤◌, ◌<◌}
use Rattle.std.proofs.Common.{sym, ap, ◌∙◌, add-one, arith}
use Rattle.files.specs.Basics.Lists.{span}
use Rattle.files.specs.Basics.Tests.{any}
use Rattle.files.specs.Interface.{Interface, provides, requires_method}
use Rattle.files.specs.Sides.{shares, lacks, unprovided}

-- a method from m on passes
abbrev pub some_from : (ℕ → Bool) → ℕ → Bool
some_from f m = any f (span m (9 - m))

module _ (f : ℕ → Bool) (m : ℕ) where
  method_first : m < 9 → some_from f m ≡ (f m || any f (span (suc m) (9 - (m + 1))))
  method_first h = let n : 9 - m ≡ suc (9 - (m + 1)) = omega arith in ap (λ (k : ℕ). any f (span m k)) n

  pub method_passes : m < 9 → f m ≡ true → some_from f m ≡ true
  method_passes h e = method_first h ∙ ap (λ (b : Bool). b || any f (span (suc m) (9 - (m + 1)))) e

  pub method_fails : m < 9 → f m ≡ false → some_from f m ≡ some_from f (m + 1)
  method_fails h e =
      method_first h
      ∙ ap (λ (b : Bool). b || any f (span (suc m) (9 - (m + 1)))) e
      ∙ ap (λ (k : ℕ). any f (span k (9 - (m + 1)))) (sym (add-one m))

  pub methods_end : 9 ≤ m → some_from f m ≡ false
  methods_end h = let n : 9 - m ≡ 0 = omega arith in ap (λ (k : ℕ). any f (span m k)) n

pub shares_looks : (I J : Interface) → shares I J ≡ some_from (λ (m : ℕ). provides I m && provides J m) 1
unfolding shares
shares_looks I J = refl

pub lacks_looks : (I : Interface) → lacks I ≡ some_from (λ (m : ℕ). requires_method I m && not (provides I m)) 1
unfolding lacks
lacks_looks I = refl

pub unprovided_is : (I : Interface) (m : ℕ) → unprovided I m ≡ (not (provides I m) || lacks I)
unfolding unprovided
unprovided_is I m = refl
