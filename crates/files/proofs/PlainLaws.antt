-- What one turn of the quick pass over a graph file adds: an edge more that comes after the one before it.
use mathlib.Core.Path.{◌≡◌, sym, ap, subst, ◌∙◌}
use mathlib.Core.Logic.{◌⊎◌, inl, inr}
use mathlib.Core.Bool.{Bool, false, not, ◌&&◌, ◌||◌}
use mathlib.Core.List.{List}
use Prim.Native.Nat.{ℕ, suc, ◌+◌, ◌-◌, ◌≤◌, ◌<◌}
use native.Mathlib.Nat.{eq-or-lt_of_le}
use native.Mathlib.Omega.{arith}
use lib.Dec.{T, leb, eqb, eqb→eq, leb→le, le→leb, T_not}
use lib.ListN.{get_or}
use Rattle.files.specs.Basics.Lexical.{Before}
use Rattle.files.specs.Basics.Tests.{and_e, not_or, not_not, below}
use Rattle.files.specs.Plain.{Inside, PlainEdge, PlainEdges, edge_number}
use Rattle.files.specs.Plain.Laws.{number_before}
use Rattle.files.specs.Record.{record_at, edge_wrong}
use Rattle.files.specs.Refusal.{edge_key}
use Rattle.files.specs.declared.record.Record.{Record}

-- a test that did not come out is not so
left_not : (b : Bool) → b ≡ false → T (not b)
left_not b e = rw e tt

pub ends_inside : (m f t : ℕ) → (leb m f || leb m t) ≡ false → (f < m) × (t < m)
ends_inside m f t e =
    let x = not_or (leb m f) (leb m t) (left_not _ e) in
    (below f m (λ h. T_not (leb m f) x.0 (le→leb m f h)), below t m (λ h. T_not (leb m t) x.1 (le→leb m t h)))

-- an edge whose ends, read as x and y, have one method
pub same_method : (l : List ℕ) (m : ℕ) (r x y : Record) → (leb m r.first || leb m r.third) ≡ false → x ≡ record_at l r.first
    → y ≡ record_at l r.third → T (eqb y.first x.first) → Inside l m r
same_method l m r x y e f g t =
    let h = ends_inside m r.first r.third e in
    (h.0, (h.1, sym (ap (λ (s : Record). s.first) g) ∙ eqb→eq y.first x.first t ∙ ap (λ (s : Record). s.first) f))

-- the last edge's number is below the least that the next one may have
abbrev pub Below : List ℕ → ℕ → ℕ → ℕ → Type 0
Below l m i least = m < i → edge_number (record_at l (i - 1)) < least

-- record i, read as r, has passed the test of an edge
module _ (l : List ℕ) (bytes : (p : ℕ) → get_or l p 0 < 256) (m i least number : ℕ) (r : Record) (w b : Bool) (is : r ≡ record_at l i)
    (numbered : number ≡ edge_number r) (wrongly : w ≡ edge_wrong r) (is_inside : T b → Inside l m r)
    (passed : (not ((eqb r.kind 2 && not w) && leb least number) || not b) ≡ false) where
  tests : T ((eqb r.kind 2 && not w) && leb least number) × T b
  tests =
      let x = not_or (not ((eqb r.kind 2 && not w) && leb least number)) (not b) (left_not _ passed) in
      (not_not ((eqb r.kind 2 && not w) && leb least number) x.0, not_not b x.1)

  right : T (eqb r.kind 2 && not w) × T (leb least number)
  right = and_e (eqb r.kind 2 && not w) (leb least number) tests.0

  edge_here : PlainEdge l m i
  edge_here =
      let x = and_e (eqb r.kind 2) (not w) right.0 in
      subst (λ (s : Record). (s.kind ≡ 2) × (T (not (edge_wrong s)) × Inside l m s)) is
      (eqb→eq r.kind 2 x.0, (subst (λ (b : Bool). T (not b)) wrongly x.1, is_inside tests.1))

  number_here : number ≡ edge_number (record_at l i)
  number_here = numbered ∙ ap edge_number is

  -- one edge more, after the one before it
  pub edge_turn : m ≤ i → PlainEdges l m i → Below l m i least → PlainEdges l m (i + 1) × Below l m (i + 1) (number + 1)
  edge_turn h p low = (record { edges_right = right_on; edges_ascend = ascend_on }, below_next)
    where
      below_next : Below l m (i + 1) (number + 1)
      below_next k =
          let e : i + 1 - 1 ≡ i = omega arith in
          subst (λ (n : ℕ). edge_number (record_at l n) < number + 1) (sym e) (omega (arith, number_here))

      right_on : (j : ℕ) → m ≤ j → j < i + 1 → PlainEdge l m j
      right_on j a k = go (eq-or-lt_of_le (let q : j ≤ i = omega arith in q))
        where
          go : (j ≡ i) ⊎ (j < i) → PlainEdge l m j
          go (inl q) = subst (PlainEdge l m) (sym q) edge_here
          go (inr q) = p.edges_right j a q

      after : (j : ℕ) → m ≤ j → suc j ≡ i → Before (edge_key (record_at l j)) (edge_key (record_at l i))
      after j a q =
          let e : i - 1 ≡ j = omega arith in
          number_before (record_at l j) (record_at l i) (bytes _) (bytes _) (bytes _) (bytes _)
          (omega (arith, subst (λ (n : ℕ). edge_number (record_at l n) < least) e (low (omega arith)), leb→le least number right.1, number_here))

      ascend_on : (j : ℕ) → m ≤ j → suc j < i + 1 → Before (edge_key (record_at l j)) (edge_key (record_at l (suc j)))
      ascend_on j a k = go (eq-or-lt_of_le (let q : suc j ≤ i = omega arith in q))
        where
          go : (suc j ≡ i) ⊎ (suc j < i) → Before (edge_key (record_at l j)) (edge_key (record_at l (suc j)))
          go (inl q) = subst (λ (n : ℕ). Before (edge_key (record_at l j)) (edge_key (record_at l n))) (sym q) (after j a q)
          go (inr q) = p.edges_ascend j a q
