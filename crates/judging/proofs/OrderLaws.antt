-- For the code that puts nodes in order: what is written stays within its own part of the buffer.
use mathlib.Core.Path.{◌≡◌, refl, sym, ap, subst, ◌∙◌}
use mathlib.Core.Logic.{inl, inr}
use mathlib.Core.Bool.{Bool, true, false, ◌||◌}
use mathlib.Core.List.{List}
use Prim.Native.Nat.{ℕ, ◌+◌, ◌*◌, ◌/◌, ◌≤◌, ◌<◌}
use native.Mathlib.Decide.{dec_lt}
use native.Mathlib.Omega.{arith}
use lib.Dec.{T, leb}
use lib.ListN.{get_or}
use borrow.Author.Tests.{le-leb}
use Rattle.files.specs.Cells.{put_cell, put_bit}
use Rattle.files.specs.Cells.Laws.{byte_outside}
use Rattle.judging.specs.Chains.{Outside}
use Rattle.judging.specs.Refinement.Preparing.{put_beside}

pub outside_on : (a b : ℕ) (u v w : List ℕ) → Outside a b u v → Outside a b v w → Outside a b u w
outside_on a b u v w x y q d = y q d ∙ x q d

-- a cell of one byte or two
pub byte_put : (w w' : List ℕ) (base i v a b : ℕ) → w' ≡ put_cell w base 1 i v → a ≤ base → base + i < b → Outside a b w w'
byte_put w w' base i v a b e l h q (inl d) = ap (λ (z : List ℕ). get_or z q 0) e ∙ byte_outside w base 1 i v q (inl (omega arith))
byte_put w w' base i v a b e l h q (inr d) = ap (λ (z : List ℕ). get_or z q 0) e ∙ byte_outside w base 1 i v q (inr (omega arith))

pub pair_put : (w w' : List ℕ) (base i v a b : ℕ) → w' ≡ put_cell w base 2 i v → a ≤ base → base + 2 * i + 2 ≤ b → Outside a b w w'
pair_put w w' base i v a b e l h q (inl d) = ap (λ (z : List ℕ). get_or z q 0) e ∙ byte_outside w base 2 i v q (inl (omega arith))
pair_put w w' base i v a b e l h q (inr d) = ap (λ (z : List ℕ). get_or z q 0) e ∙ byte_outside w base 2 i v q (inr (omega arith))

pub bit_put : (w w' : List ℕ) (base h a b : ℕ) → w' ≡ put_bit w base h → a ≤ base → base + h / 8 < b → Outside a b w w'
bit_put w w' base h a b e l m = put_beside w w w' base h a b e l m (λ q d. refl)

-- neither of two numbers reaches n
pub none_reaches : (n a b : ℕ) → (leb n a || leb n b) ≡ false → (a < n) × (b < n)
none_reaches n a b e = (below a (or_none_l (leb n a) (leb n b) e), below b (or_none_r (leb n a) (leb n b) e))
  where
    or_none_l : (p q : Bool) → (p || q) ≡ false → p ≡ false
    or_none_l true q e = e
    or_none_l false q e = refl

    or_none_r : (p q : Bool) → (p || q) ≡ false → q ≡ false
    or_none_r true q e = absurd (subst T e tt)
    or_none_r false q e = e

    below : (k : ℕ) → leb n k ≡ false → k < n
    below k f = go (dec_lt k n)
      where
        go : Dec (k < n) → k < n
        go (yes h) = h
        go (no h) = absurd (subst T (sym (le-leb n k (omega arith)) ∙ f) tt)
