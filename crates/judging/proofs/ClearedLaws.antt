-- For the code that clears a part of its buffer, the k bytes from a on: the buffer's length and the bytes outside the part stay, and bytes inside are 0.
use mathlib.Core.Path.{◌≡◌, sym, ap, subst, ◌∙◌}
use mathlib.Core.Logic.{◌⊎◌}
use mathlib.Core.List.{List, ◌++◌, append_assoc}
use Prim.Native.Nat.{ℕ, ◌+◌, ◌-◌, ◌≤◌, ◌<◌}
use native.Mathlib.Omega.{arith}
use lib.ListN.{length, get_or, take, drop, replicate, length-drop, length-replicate, get_or-replicate}
use lib.Seq.{drop-drop, length-take-le}
use borrow.Rule.Slice.PartMut.{mid_of, put_mid, same_len_mid}
use Rattle.files.specs.Cells.{put_at}
use Rattle.files.specs.Cells.Laws.{at_inside, at_outside, put_at_is}
use Rattle.judging.specs.Chains.{Outside}

-- a part put back is a run stored
mid_is : (a k : ℕ) (w ys : List ℕ) → length ys ≡ k → put_mid a k w ys ≡ put_at w a ys
mid_is a k w ys e =
    ap (λ (l : List ℕ). take a w ++ (ys ++ l)) (drop-drop k a w ∙ ap (λ (n : ℕ). drop (a + n) w) (sym e))
    ∙ sym (append_assoc (take a w) ys (drop (a + length ys) w))
    ∙ sym (put_at_is w a ys)

module _ (a k : ℕ) (w ys : List ℕ) (zeros : ys ≡ replicate (length (mid_of a k w)) 0) where
  abbrev w' : List ℕ
  w' = put_mid a k w ys

  as_many : length ys ≡ length (mid_of a k w)
  as_many = ap length zeros ∙ length-replicate {A = ℕ} (length (mid_of a k w)) 0

  pub cleared_length : length w' ≡ length w
  cleared_length = same_len_mid a k w ys as_many

  module _ (room : a + k ≤ length w) where
    mid_length : length (mid_of a k w) ≡ k
    mid_length = length-take-le k (drop a w) (omega (arith, length-drop a w))

    part_length : length ys ≡ k
    part_length = as_many ∙ mid_length

    stored : (q : ℕ) → get_or w' q 0 ≡ get_or (put_at w a ys) q 0
    stored q = ap (λ (l : List ℕ). get_or l q 0) (mid_is a k w ys part_length)

    pub cleared_outside : Outside a (a + k) w w'
    cleared_outside q d = stored q ∙ at_outside w a ys q (subst (λ (n : ℕ). (q < a) ⊎ (a + n ≤ q)) (sym part_length) d) (omega (arith, part_length))

    pub cleared_inside : (q : ℕ) → a ≤ q → q < a + k → get_or w' q 0 ≡ 0
    cleared_inside q l h =
        let e : q ≡ a + (q - a) = omega arith in
        stored q
        ∙ ap (λ (n : ℕ). get_or (put_at w a ys) n 0) e
        ∙ at_inside w a ys (q - a) (omega (arith, part_length)) (omega (arith, part_length))
        ∙ ap (λ (m : List ℕ). get_or m (q - a) 0) zeros
        ∙ get_or-replicate {A = ℕ} (length (mid_of a k w)) (q - a) 0 0 (omega (arith, mid_length))
